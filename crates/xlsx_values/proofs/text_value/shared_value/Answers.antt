use Rattle.std.proofs.Common.{ℕ, Option, sym, ap, ◌∙◌}
use Rattle.std.specs.Prelude.{unwrap_or}
use Rattle.xlsx_values.proofs.TextValues.{no_string}
use Rattle.xlsx_values.proofs.text_value.shared_value.Goals as goal

pub returns-clause-err : goal.returns-clause-err
returns-clause-err c = λ at behind.
    no_string c.args.strings.now c.args.text.now c.unwrap_or-place.result
    (sym c.is_empty.ensures ∙ c.if-is_empty.false)
    (c.unwrap_or-place.ensures
    ∙ ap (λ (number : Option ℕ). unwrap_or number 0) c.number_text.ensures)
    c.if-place-strings.false
