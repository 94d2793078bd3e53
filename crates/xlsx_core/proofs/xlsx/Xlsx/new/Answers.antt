use Rattle.xlsx_open.proofs.Sound.{sound_fails}
use Rattle.xlsx_core.proofs.xlsx.Xlsx.new.Goals as goal

pub returns-in-Err-clause-sound : goal.returns-in-Err-clause-sound
returns-in-Err-clause-sound g c = λ told sound.
    rw c.into_package.ensures
    (sound_fails (g.P.Package.state c.args.package) c.open.new.xml.source c.in-Err.error told sound
    (rw c.new-xml.ensures at c.in-Err.ensures.err))
