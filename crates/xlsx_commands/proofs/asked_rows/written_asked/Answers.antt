use Rattle.std.proofs.Common.{rules, ◌≡◌, ◌∙◌, ap, ℕ, List, false, codes}
use Rattle.std.specs.Str.{bytes_eq}
use Rattle.xlsx_commands.specs.AskedRows.{setting_asked}
use Rattle.xlsx_commands.proofs.asked_rows.written_asked.Goals as goal

pub returns-in_default : goal.returns-in_default
returns-in_default c =
    let word = c.args.word.now in
    let dates : bytes_eq word (codes "--dates") ≡ false = search rules in
    let crlf : bytes_eq word (codes "--crlf") ≡ false = search rules in
    let bom : bytes_eq word (codes "--bom") ≡ false = search rules in
    let first : bytes_eq word (codes "--from-a1") ≡ false = search rules in
    let bytes : c.as_bytes.result.now ≡ word = search rules in
    rw (dates, crlf, bom, first)
    (c.setting_asked.ensures
    ∙ ap (λ (own : List ℕ). setting_asked c.args.asked own) bytes)
