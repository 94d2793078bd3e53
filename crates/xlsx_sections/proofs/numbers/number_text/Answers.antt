use Rattle.std.proofs.Common.{sym, ap, ◌∙◌}
use Rattle.std.specs.Char.{is_ascii_digit}
use Rattle.std.specs.List.{list_all}
use Rattle.xlsx_sections.proofs.NumbersRead.{all_digits, not_empty, number_too_large}
use Rattle.xlsx_sections.proofs.numbers.number_text.Goals as goal

pub returns-in-Err : goal.returns-in-Err
returns-in-Err c =
    let text = c.args.text.now in
    sym (number_too_large text (not_empty text (sym c.is_empty.ensures ∙ c.if-is_empty.false))
    (sym (all_digits text) ∙ ap (list_all is_ascii_digit) (sym c.as_bytes.ensures.value)
    ∙ sym c.are_digits.ensures ∙ c.if-not-are_digits.false)
    c.in-Err.ensures.value.0)
