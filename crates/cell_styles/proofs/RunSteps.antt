-- Runs passed place by place.
use Rattle.std.proofs.Common.{◌≡◌, ℕ, ◌+◌, ◌-◌, ◌<◌, ◌≤◌, List, [], ◌∷◌, ◌++◌, replicate, Bool}
use Rattle.std.proofs.Common.{true, slice_get, Some, refl, ap, subst, sym, ◌∙◌, arith, rules, suc}
use Rattle.std.specs.List.{list_all}
use Rattle.cell_styles.specs.declared.style_runs.StyleRun.{StyleRun}
use Rattle.cell_styles.specs.StyleRuns.{numbers_along, IsCanonical, end_along, PassesOne}
use Rattle.cell_styles.proofs.RunLists.{end_is}

tail_all : (P : StyleRun → Bool) (run : StyleRun) (runs : List StyleRun) → list_all P (run ∷ runs)
    ≡ true → list_all P runs ≡ true
tail_all P run runs h = search rules

ends_later : (place : ℕ) (runs : List StyleRun) → IsCanonical place runs
    → place ≤ end_along place runs
ends_later place runs whole = omega (arith, end_is place runs whole)

-- the first run ends here
pub run_ends : (place : ℕ) (run : StyleRun) (others : List StyleRun)
    → IsCanonical place (run ∷ others)
    → run.end ≡ place + 1 → PassesOne place (run ∷ others) others
run_ends place run others whole last =
    let one : run.end - place ≡ suc 0 = omega arith in
    let later = ends_later run.end others whole.2 in
    record {
      canonical = subst (λ n. IsCanonical n others) last whole.2;
      ends = ap (λ n. end_along n others) (sym last);
      begins = omega arith;
      kept = λ P h. tail_all P run others h;
      numbers = λ d. ap (λ n. replicate n run.id ++ numbers_along run.end others) one
          ∙ ap (λ n. run.id ∷ numbers_along n others) last;
    }

-- the first run goes on
pub run_goes_on : (place : ℕ) (run : StyleRun) (others : List StyleRun)
    → IsCanonical place (run ∷ others)
    → (run.end ≡ place + 1 → ⊥) → PassesOne place (run ∷ others) (run ∷ others)
run_goes_on place run others whole more =
    let begins : place < run.end = whole.0 in
    let next : place + 1 < run.end = omega arith in
    let one : run.end - place ≡ suc (run.end - (place + 1)) = omega arith in
    let later = ends_later run.end others whole.2 in
    record {
      canonical = (next, whole.1, whole.2);
      ends = refl;
      begins = omega arith;
      kept = λ P h. h;
      numbers = λ d. ap (λ n. replicate n run.id ++ numbers_along run.end others) one;
    }

-- runs that are left end behind their place
pub begins_before_end : (place : ℕ) (runs : List StyleRun) (first : StyleRun)
    → IsCanonical place runs
    → Some first ≡ slice_get runs 0 → place < end_along place runs
begins_before_end place [] first whole there = absurd (cc)
begins_before_end place (run ∷ runs) first whole there =
    let below : place < run.end = whole.0 in
    let later = ends_later run.end runs whole.2 in omega arith
