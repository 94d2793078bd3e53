use Rattle.std.proofs.Common.{sym, subst, length, false, ℕ}
use Rattle.text_package.specs.PartText.{text_in}
use Rattle.text_package.specs.Reading.{IsReadingPart}
use Rattle.text_package.proofs.Stepping.{begins}
use Rattle.text_package.proofs.reading.Reading.new.Goals as goal

pub returns-clause-stands : goal.returns-clause-stands
returns-clause-stands c =
    let bytes = c.args.part.now.1 in
    subst (λ (size : ℕ). IsReadingPart (text_in bytes) (length bytes)
    (record { cutter = c.new.result; left = size; has_event = false })) (sym c.size.ensures)
    (begins bytes c.new.result c.new.ensures.stands c.new.ensures.left)
