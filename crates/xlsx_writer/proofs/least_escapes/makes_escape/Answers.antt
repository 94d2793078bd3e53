use Rattle.std.proofs.Common.{◌&&◌, ◌∙◌, sym}
use Rattle.xlsx_writer.proofs.LeastCuts.{short_makes_none, other_first, other_digits, own_digits}
use Rattle.xlsx_writer.proofs.least_escapes.makes_escape.Goals as goal

pub returns-then-behind-lt6 : goal.returns-then-behind-lt6
returns-then-behind-lt6 c = sym (short_makes_none c.args.behind.now c.if-behind-lt6.true)

pub returns-then-behind-ne120 : goal.returns-then-behind-ne120
returns-then-behind-ne120 c =
    sym (other_first c.args.behind.now c.if-behind-lt6.false c.if-behind-ne120.true)

pub returns-then-are_digits : goal.returns-then-are_digits
returns-then-are_digits c =
    c.is_mark.ensures
    ∙ sym (own_digits c.args.behind.now c.if-behind-lt6.false c.if-behind-ne120.false
    (sym (c.all_four-are_digits.ensures
    ∙ (λ i. c.is_digit.ensures i && (c.is_digit-2.ensures i
    && (c.is_digit-3.ensures i && c.is_digit-4.ensures i)))) ∙ c.if-are_digits.true))

pub returns : goal.returns
returns c =
    sym (other_digits c.args.behind.now c.if-behind-lt6.false
    (sym (c.all_four-are_digits.ensures
    ∙ (λ i. c.is_digit.ensures i && (c.is_digit-2.ensures i
    && (c.is_digit-3.ensures i && c.is_digit-4.ensures i)))) ∙ c.if-are_digits.false))
