use Rattle.std.proofs.Common.{◌≡◌, [], drop}
use Rattle.std.specs.List.{slice_get}
use Rattle.xlsx_precedents.specs.Numbers.{found_by}
use Rattle.xlsx_precedents.proofs.index.found_by.Given as goal

abbrev pub invariant-loop-number : goal.invariant-loop-number
invariant-loop-number l =
    found_by (λ n. slice_get l.named.cells.items n) l.found.items
    (drop l.number-index l.numbers)
    ≡ found_by (λ n. slice_get l.named.cells.items n) [] l.numbers
