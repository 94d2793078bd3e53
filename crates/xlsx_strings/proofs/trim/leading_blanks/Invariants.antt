use Rattle.std.proofs.Common.{◌≡◌, ◌+◌, drop}
use Rattle.std.specs.List.{prefix_len}
use Rattle.xlsx_strings.specs.Strings.{is_blank}
use Rattle.xlsx_strings.proofs.trim.leading_blanks.Given as goal

abbrev pub invariant-loop-at : goal.invariant-loop-at
invariant-loop-at l = prefix_len is_blank l.text ≡ l.at + prefix_len is_blank (drop l.at l.text)
