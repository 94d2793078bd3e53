use Rattle.std.proofs.Common.{rules, ◌≡◌, false, codes}
use Rattle.std.specs.Str.{bytes_eq}
use Rattle.xlsx_commands.specs.AskedRows.{option_asked}
use Rattle.xlsx_commands.proofs.asked_rows.option_asked.Goals as goal

pub returns-in_default : goal.returns-in_default
unfolding option_asked
returns-in_default c =
    let word = c.args.word.now in
    let shown : bytes_eq word (codes "--shown") ≡ false = search rules in
    let header : bytes_eq word (codes "--header") ≡ false = search rules in
    rw (shown, header) c.written_asked.ensures
