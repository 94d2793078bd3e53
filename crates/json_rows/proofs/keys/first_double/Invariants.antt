use Rattle.std.proofs.Common.{◌≡◌, ℕ, List, drop, map, string_bytes}
use Rattle.std.specs.BTreeSet.{contains}
use Rattle.std.specs.Borrow.{Bor}
use Rattle.std.specs.Cmp.Lexicographic.{slice_cmp}
use Rattle.std.specs.Ordering.{nat_cmp}
use Rattle.json_rows.specs.RowObjects.{is_among, double_behind, first_double}
use Rattle.json_rows.proofs.keys.first_double.Given as goal

-- what is seen is what stands before, the latest first
abbrev pub invariant-loop-key : goal.invariant-loop-key
invariant-loop-key l =
    (before : List (List ℕ))
    × ((key : Bor (List ℕ)) → contains (λ x y. slice_cmp nat_cmp x.now y.now) l.seen key
    ≡ is_among key.now before)
    × (double_behind before (map string_bytes (drop l.key-index l.keys))
    ≡ first_double (map string_bytes l.fn.keys))
