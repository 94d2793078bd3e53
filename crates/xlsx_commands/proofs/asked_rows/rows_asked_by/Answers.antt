use Rattle.std.proofs.Common.{rules, ◌≡◌, ◌∙◌, sym, string_bytes, get_or, None, Some}
use Rattle.xlsx_commands.specs.AskedRows.{option_asked}
use Rattle.xlsx_commands.proofs.WordsAsked.{next_asked, none_asked, all_asked}
use Rattle.xlsx_commands.proofs.asked_rows.rows_asked_by.Goals as goal

pub returns-in_err-asked : goal.returns-in_err-asked
returns-in_err-asked c =
    let d = c.index-words-i.result in
    let none : option_asked c.words.asked (string_bytes (get_or c.args.words.now c.words.i d))
    ≡ None = search rules in
    rw c.from_residual.ensures
    (sym (none_asked c.words.asked c.args.words.now c.words.i d c.words-test.true none)
    ∙ c.words.invariant)

pub words-preserved : goal.words-preserved
words-preserved c =
    let d = c.index-words-i.result in
    let next : option_asked c.words.asked (string_bytes (get_or c.args.words.now c.words.i d))
    ≡ Some c.in_ok-asked.asked = search rules in
    sym (next_asked c.words.asked c.in_ok-asked.asked c.args.words.now c.words.i d
    c.words-test.true next)
    ∙ c.words.invariant

pub returns : goal.returns
returns c =
    all_asked c.words.asked c.args.words.now c.words.i c.words-test.false ∙ c.words.invariant
