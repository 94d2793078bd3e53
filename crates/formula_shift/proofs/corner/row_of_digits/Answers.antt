use Rattle.std.proofs.Common.{◌≡◌, ◌+◌, true, get_or, sym, arith}
use Rattle.std.specs.Char.{is_ascii_digit}
use Rattle.formula_shift.proofs.Numbers.{digits_more, all_digits_more, row_named_past}
use Rattle.formula_shift.proofs.corner.row_of_digits.Goals as goal

pub returns-then-number-gt-MAX_ROWS : goal.returns-then-number-gt-MAX_ROWS
returns-then-number-gt-MAX_ROWS c =
    let digits = c.args.digits.now in
    let i = c.loop-b.b-index in
    let more = digits_more digits i (omega arith) (sym c.if-not-is_ascii_digit.ensures.value) in
    sym (row_named_past digits (i + 1) (omega (arith, more, c.from.ensures)))

pub loop-b-preserved : goal.loop-b-preserved
loop-b-preserved c =
    let digits = c.args.digits.now in
    let i = c.loop-b.b-index in
    let digit : is_ascii_digit (get_or digits i 0) ≡ true =
    sym c.if-not-is_ascii_digit.ensures.value in
    record {
      value = omega (arith, digits_more digits i (omega arith) digit, c.from.ensures);
      digits = all_digits_more digits i (omega arith) c.loop-b.invariant.digits digit;
      small = omega arith;
    }
