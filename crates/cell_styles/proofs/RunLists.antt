-- Runs and the numbers that they keep.
use Rattle.std.proofs.Common.{◌≡◌, ◌≢◌, ℕ, ◌+◌, ◌-◌, ◌<◌, ◌≤◌, ◌==◌, true, false, List, [], ◌∷◌}
use Rattle.std.proofs.Common.{◌++◌, length, replicate, slice_get, slice_set, Some, refl, ap, subst}
use Rattle.std.proofs.Common.{arith, zero, suc, length-append, append_assoc, append-nil, zero-add}
use Rattle.std.proofs.Common.{inl, inr}
use Rattle.std.proofs.lemmas.Bool.{eqb-true, eqb-false, eq-eqb}
use Rattle.std.proofs.lemmas.Bool.Decides.{eqb_tells}
use Rattle.std.proofs.lemmas.List.{length-replicate, replicate-append-replicate}
use Rattle.cell_styles.specs.declared.style_runs.StyleRun.{StyleRun}
use Rattle.cell_styles.specs.Groups.{group_count}
use Rattle.cell_styles.specs.StyleRuns.{numbers_along, BeginsOtherwise, IsCanonical, end_along}
use Rattle.cell_styles.specs.StyleRuns.{last_is}

-- canonical runs end where their numbers do
pub end_is : (start : ℕ) (runs : List StyleRun) → IsCanonical start runs
    → end_along start runs ≡ start + length (numbers_along start runs)
end_is start [] whole = omega arith
end_is start (run ∷ runs) whole =
    let rest = end_is run.end runs whole.2 in
    let below : start < run.end = whole.0 in
    simp (length-append, length-replicate) (omega arith)

-- the end and the number of the last run, by its place
pub end_by_place : (start k : ℕ) (runs : List StyleRun) (last : StyleRun) → k + 1 ≡ length runs
    → slice_get runs k ≡ Some last → end_along start runs ≡ last.end
end_by_place start k [] last h e = absurd (omega arith)
end_by_place start zero (run ∷ []) last h e = let same : run ≡ last = cc in ap (λ x. x.end) same
end_by_place start (suc k) (run ∷ []) last h e = absurd (omega arith)
end_by_place start zero (run ∷ next ∷ runs) last h e = absurd (omega arith)
end_by_place start (suc k) (run ∷ next ∷ runs) last h e =
    end_by_place run.end k (next ∷ runs) last (omega arith) e

pub last_by_place : (id k : ℕ) (runs : List StyleRun) (last : StyleRun) → k + 1 ≡ length runs
    → slice_get runs k ≡ Some last → last_is id runs ≡ (last.id == id)
last_by_place id k [] last h e = absurd (omega arith)
last_by_place id zero (run ∷ []) last h e =
    let same : run ≡ last = cc in ap (λ x. x.id == id) same
last_by_place id (suc k) (run ∷ []) last h e = absurd (omega arith)
last_by_place id zero (run ∷ next ∷ runs) last h e = absurd (omega arith)
last_by_place id (suc k) (run ∷ next ∷ runs) last h e =
    last_by_place id k (next ∷ runs) last (omega arith) e

-- a run behind the others
pub pushed_numbers : (start : ℕ) (runs : List StyleRun) (run : StyleRun)
    → numbers_along start (runs ++ run ∷ [])
    ≡ numbers_along start runs ++ replicate (run.end - end_along start runs) run.id
pushed_numbers start [] run = append-nil _
pushed_numbers start (first ∷ runs) run =
    let rest = pushed_numbers first.end runs run in rw rest (simp append_assoc)

pub pushed_canonical : (start : ℕ) (runs : List StyleRun) (run : StyleRun) → IsCanonical start runs
    → end_along start runs < run.end → last_is run.id runs ≡ false
    → IsCanonical start (runs ++ run ∷ [])
pushed_canonical start [] run whole below other = (below, tt, tt)
pushed_canonical start (first ∷ []) run whole below other =
    (whole.0, eqb-false _ _ other, (below, tt, tt))
pushed_canonical start (first ∷ next ∷ runs) run whole below other =
    (whole.0, whole.1, pushed_canonical first.end (next ∷ runs) run whole.2 below other)

-- the last run, with a later end
pub lengthened_numbers : (start k : ℕ) (runs : List StyleRun) (run : StyleRun) → k + 1 ≡ length runs
    → IsCanonical start runs → end_along start runs ≤ run.end → last_is run.id runs ≡ true
    → numbers_along start (slice_set runs k run)
    ≡ numbers_along start runs ++ replicate (run.end - end_along start runs) run.id
lengthened_numbers start k [] run h whole below same = absurd (omega arith)
lengthened_numbers start zero (last ∷ []) run h whole below same =
    let less : start < last.end = whole.0 in
    let one : (last.end - start) + (run.end - last.end) ≡ run.end - start = omega arith in
    let id : last.id ≡ run.id = eqb-true _ _ same in
    rw (append-nil, append-nil, id, replicate-append-replicate, one)
lengthened_numbers start (suc k) (last ∷ []) run h whole below same = absurd (omega arith)
lengthened_numbers start zero (first ∷ next ∷ runs) run h whole below same = absurd (omega arith)
lengthened_numbers start (suc k) (first ∷ next ∷ runs) run h whole below same =
    let short : k + 1 ≡ length (next ∷ runs) = omega arith in
    let rest = lengthened_numbers first.end k (next ∷ runs) run short whole.2 below same in
    rw rest (simp append_assoc)

pub lengthened_canonical : (start k : ℕ) (runs : List StyleRun) (run : StyleRun) → k + 1
    ≡ length runs
    → IsCanonical start runs → end_along start runs ≤ run.end → last_is run.id runs ≡ true
    → IsCanonical start (slice_set runs k run)
lengthened_canonical start k [] run h whole below same = absurd (omega arith)
lengthened_canonical start zero (last ∷ []) run h whole below same =
    let less : start < last.end = whole.0 in (omega arith, tt, tt)
lengthened_canonical start (suc k) (last ∷ []) run h whole below same = absurd (omega arith)
lengthened_canonical start zero (first ∷ next ∷ runs) run h whole below same = absurd (omega arith)
lengthened_canonical start (suc zero) (first ∷ next ∷ []) run h whole below same =
    let id : next.id ≡ run.id = eqb-true _ _ same in (
      whole.0,
      subst (λ x. first.id ≢ x) id whole.1,
      lengthened_canonical first.end zero (next ∷ []) run refl whole.2 below same,
    )
lengthened_canonical start (suc zero) (first ∷ next ∷ third ∷ runs) run h whole below same =
    absurd (omega arith)
lengthened_canonical start (suc (suc k)) (first ∷ next ∷ runs) run h whole below same = (
  whole.0,
  whole.1,
  lengthened_canonical first.end (suc k) (next ∷ runs) run (omega arith) whole.2 below same,
)

-- the runs of numbers, and more of one number behind them
pub record Extends (runs longer : List StyleRun) (end id : ℕ) : Type 0 where
  pub canonical : IsCanonical 0 longer
  pub numbers : numbers_along 0 longer
      ≡ numbers_along 0 runs ++ replicate (end - length (numbers_along 0 runs)) id

pub pushed : (runs : List StyleRun) (end id : ℕ) → IsCanonical 0 runs
    → length (numbers_along 0 runs) ≤ end → (end_along 0 runs ≡ end → ⊥) → last_is id runs ≡ false
    → Extends runs (runs ++ record { end = end; id = id } ∷ []) end id
pushed runs end id whole room more other =
    let e : end_along 0 runs ≡ length (numbers_along 0 runs) = omega (arith, end_is 0 runs whole) in
    let below : end_along 0 runs < end = omega arith in
    record {
      canonical = pushed_canonical 0 runs (record { end = end; id = id }) whole below other;
      numbers = subst (λ n. numbers_along 0 (runs ++ record { end = end; id = id } ∷ [])
          ≡ numbers_along 0 runs ++ replicate (end - n) id) e
          (pushed_numbers 0 runs (record { end = end; id = id }));
    }

pub lengthened : (runs : List StyleRun) (end id k : ℕ) → k + 1 ≡ length runs → IsCanonical 0 runs
    → length (numbers_along 0 runs) ≤ end → last_is id runs ≡ true
    → Extends runs (slice_set runs k (record { end = end; id = id })) end id
lengthened runs end id k h whole room same =
    let e : end_along 0 runs ≡ length (numbers_along 0 runs) = omega (arith, end_is 0 runs whole) in
    let below : end_along 0 runs ≤ end = omega arith in
    record {
      canonical = lengthened_canonical 0 k runs (record { end = end; id = id }) h whole below same;
      numbers = subst (λ n. numbers_along 0 (slice_set runs k (record { end = end; id = id }))
          ≡ numbers_along 0 runs ++ replicate (end - n) id) e
          (lengthened_numbers 0 k runs (record { end = end; id = id }) h whole below same);
    }

-- no more of a number
pub none_more : (numbers : List ℕ) (end id : ℕ) → length numbers ≡ end
    → numbers ≡ numbers ++ replicate (end - length numbers) id
none_more numbers end id h = let none : end - length numbers ≡ 0 = omega arith in
    rw (none, append-nil)

-- a list with a last number isn't empty
pub last_is_there : (id : ℕ) (runs : List StyleRun) → last_is id runs ≡ true → 0 < length runs
last_is_there id [] same = absurd (cc)
last_is_there id (run ∷ runs) same = omega arith

-- the same of the numbers by themselves
pub extended_numbers : {runs longer : List StyleRun} {end id : ℕ} (numbers : List ℕ)
    → Extends runs longer end id → numbers_along 0 runs ≡ numbers
    → numbers_along 0 longer ≡ numbers ++ replicate (end - length numbers) id
extended_numbers {runs} {longer} {end} {id} numbers extends view =
    subst (λ xs. numbers_along 0 longer ≡ xs ++ replicate (end - length xs) id) view extends.numbers

-- the first of these numbers is another one
abbrev OtherFirst : ℕ → List ℕ → Type 0
OtherFirst id [] = Unit {0}
OtherFirst id (x ∷ xs) = id ≢ x

-- numbers that differ pass no test
pub differs : (a b : ℕ) → a ≢ b → (a == b) ≡ false
differs a b h = elim (eqb_tells a b) [ inl same ↦ absurd (h same.1) | inr other ↦ other.0 ]

-- a number, again and again, and then others
one_group : (n id : ℕ) (rest : List ℕ) → OtherFirst id rest
    → group_count (id ∷ (replicate n id ++ rest)) ≡ 1 + group_count rest
one_group zero id [] other = refl
one_group zero id (x ∷ xs) other = let differ : (id == x) ≡ false = differs id x other in rw differ
one_group (suc n) id rest other =
    let same : (id == id) ≡ true = eq-eqb id id refl in
    rw (same, zero-add) (one_group n id rest other)

other_first : (start id : ℕ) (runs : List StyleRun) → IsCanonical start runs
    → BeginsOtherwise id runs
    → OtherFirst id (numbers_along start runs)
other_first start id [] whole other = tt
other_first start id (run ∷ runs) whole other =
    let below : start < run.end = whole.0 in
    let some : run.end - start ≡ suc (run.end - start - 1) = omega arith in
    rw some other

-- each run is one group
pub groups_are_runs : (start : ℕ) (runs : List StyleRun) → IsCanonical start runs
    → group_count (numbers_along start runs) ≡ length runs
groups_are_runs start [] whole = refl
groups_are_runs start (run ∷ runs) whole =
    let below : start < run.end = whole.0 in
    let some : run.end - start ≡ suc (run.end - start - 1) = omega arith in
    let rest = groups_are_runs run.end runs whole.2 in
    let one = one_group (run.end - start - 1) run.id (numbers_along run.end runs)
    (other_first run.end run.id runs whole.2 whole.1) in
    rw some (omega (arith, one, rest))
