-- Numbers kept as runs of equal neighbours.
use Rattle.std.specs.Prelude.{◌≡◌, ◌≢◌, ℕ, ◌+◌, ◌-◌, ◌<◌, ◌==◌, List, [], ◌∷◌, ◌++◌, replicate}
use Rattle.std.specs.Prelude.{Bool, true, false, slice_index_or}
use Rattle.std.specs.List.{list_all}
use Rattle.cell_styles.specs.declared.style_runs.StyleRun.{StyleRun}

-- the numbers of runs, of which the first begins at this place
abbrev pub numbers_along : ℕ → List StyleRun → List ℕ
numbers_along start [] = []
numbers_along start (run ∷ runs) =
    replicate (run.end - start) run.id ++ numbers_along run.end runs

-- the first of the runs has another number
abbrev pub BeginsOtherwise : ℕ → List StyleRun → Type 0
BeginsOtherwise id [] = Unit {0}
BeginsOtherwise id (run ∷ runs) = id ≢ run.id

-- no run is empty, and neighbouring runs differ
abbrev pub IsCanonical : ℕ → List StyleRun → Type 0
IsCanonical start [] = Unit {0}
IsCanonical start (run ∷ runs) =
    (start < run.end) × BeginsOtherwise run.id runs × IsCanonical run.end runs

-- the place behind the last run
abbrev pub end_along : ℕ → List StyleRun → ℕ
end_along start [] = start
end_along start (run ∷ runs) = end_along run.end runs

-- there is a last run, and its style id is this one
abbrev pub last_is : ℕ → List StyleRun → Bool
last_is id [] = false
last_is id (run ∷ []) = run.id == id
last_is id (run ∷ next ∷ runs) = last_is id (next ∷ runs)

-- what is left of runs behind the first of their places
pub record PassesOne (place : ℕ) (runs left : List StyleRun) : Type 0 where
  pub canonical : IsCanonical (place + 1) left
  pub ends : end_along (place + 1) left ≡ end_along place runs
  pub begins : place < end_along place runs
  pub kept : (P : StyleRun → Bool) → list_all P runs ≡ true → list_all P left ≡ true
  pub numbers : (d : StyleRun)
      → numbers_along place runs ≡ (slice_index_or runs 0 d).id ∷ numbers_along (place + 1) left
