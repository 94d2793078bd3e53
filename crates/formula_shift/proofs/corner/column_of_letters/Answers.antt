use Rattle.std.proofs.Common.{◌+◌, sym, arith}
use Rattle.formula_shift.proofs.Numbers.{letters_more, column_named_past}
use Rattle.formula_shift.proofs.corner.column_of_letters.Goals as goal

pub returns-then-number-gt-MAX_COLUMNS : goal.returns-then-number-gt-MAX_COLUMNS
returns-then-number-gt-MAX_COLUMNS c =
    sym (column_named_past c.args.letters.now (c.loop-b.b-index + 1)
    (omega (
      arith,
      letters_more c.args.letters.now c.loop-b.b-index (omega arith),
      c.to_ascii_uppercase.ensures.value,
      c.from.ensures,
    )))

pub loop-b-preserved : goal.loop-b-preserved
loop-b-preserved c = record {
  value = omega (
    arith,
    letters_more c.args.letters.now c.loop-b.b-index (omega arith),
    c.to_ascii_uppercase.ensures.value,
    c.from.ensures,
  );
  small = omega arith;
}
