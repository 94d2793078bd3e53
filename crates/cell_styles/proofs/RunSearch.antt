-- Finding the run of a place by halves.
use Rattle.std.proofs.Common.{◌≡◌, ℕ, ◌+◌, ◌-◌, ◌*◌, ◌/◌, ◌^◌, ◌<◌, ◌≤◌, List, [], ◌∷◌, length}
use Rattle.std.proofs.Common.{replicate, get_or, refl, ap, sym, ◌∙◌, inl, inr, subst, arith, zero}
use Rattle.std.proofs.Common.{suc}
use Rattle.std.proofs.lemmas.Bool.{cases_lt}
use Rattle.std.proofs.Math.Nat.{eq-or-lt_of_le, mul-le-mul_left, mul_comm, mul_assoc, mul-one}
use Rattle.std.proofs.Math.Nat.{pow-succ'}
use Rattle.std.proofs.lemmas.List.{length-replicate, get_or-replicate, get_or_append_left}
use Rattle.std.proofs.lemmas.List.{get_or-append_right}
use Rattle.cell_styles.specs.declared.style_runs.StyleRun.{StyleRun}
use Rattle.cell_styles.specs.StyleRuns.{numbers_along, IsCanonical, end_along}
use Rattle.cell_styles.proofs.RunLists.{end_is}

abbrev pub no_run : StyleRun
no_run = record { end = 0; id = 0 }

-- the end of the run at a place of the list
abbrev pub end_at : List StyleRun → ℕ → ℕ
end_at runs k = (get_or runs k no_run).end

abbrev pub id_at : List StyleRun → ℕ → ℕ
id_at runs k = (get_or runs k no_run).id

-- every run ends behind the start
pub ends_behind : (start : ℕ) (runs : List StyleRun) (k : ℕ) → IsCanonical start runs
    → k < length runs
    → start < end_at runs k
ends_behind start [] k whole within = absurd (omega arith)
ends_behind start (run ∷ runs) zero whole within = whole.0
ends_behind start (run ∷ runs) (suc k) whole within =
    let below : start < run.end = whole.0 in
    let later = ends_behind run.end runs k whole.2 (omega arith) in omega arith

-- ends rise
pub ends_rise : (start : ℕ) (runs : List StyleRun) (j k : ℕ) → IsCanonical start runs → j < k
    → k < length runs
    → end_at runs j < end_at runs k
ends_rise start [] j k whole below within = absurd (omega arith)
ends_rise start (run ∷ runs) j zero whole below within = absurd (omega arith)
ends_rise start (run ∷ runs) zero (suc k) whole below within =
    ends_behind run.end runs k whole.2 (omega arith)
ends_rise start (run ∷ runs) (suc j) (suc k) whole below within =
    ends_rise run.end runs j k whole.2 (omega arith) (omega arith)

-- the last end
pub last_end : (start : ℕ) (runs : List StyleRun) (k : ℕ) → k + 1 ≡ length runs
    → end_along start runs ≡ end_at runs k
last_end start [] k h = absurd (omega arith)
last_end start (run ∷ []) zero h = refl
last_end start (run ∷ []) (suc k) h = absurd (omega arith)
last_end start (run ∷ next ∷ runs) zero h = absurd (omega arith)
last_end start (run ∷ next ∷ runs) (suc k) h = last_end run.end (next ∷ runs) k (omega arith)

-- the number at a place of the first run that ends behind it
number_along : (start : ℕ) (runs : List StyleRun) (k place : ℕ) → IsCanonical start runs
    → k < length runs
    → start ≤ place → ((j : ℕ) → j < k → end_at runs j ≤ place) → place < end_at runs k
    → get_or (numbers_along start runs) (place - start) 0 ≡ id_at runs k
number_along start [] k place whole within begun before behind = absurd (omega arith)
number_along start (run ∷ runs) zero place whole within begun before behind =
    let lies : place - start < run.end - start = omega arith in
    let inside : place - start < length (replicate (run.end - start) run.id) =
    rw length-replicate lies in
    get_or_append_left (replicate (run.end - start) run.id) (numbers_along run.end runs) 0
    (place - start) inside
    ∙ get_or-replicate (run.end - start) (place - start) run.id 0 lies
number_along start (run ∷ runs) (suc k) place whole within begun before behind =
    let below : start < run.end = whole.0 in
    let passed : run.end ≤ place = before 0 (omega arith) in
    let far : run.end - start ≤ place - start = omega arith in
    let left : place - start - (run.end - start) ≡ place - run.end = omega arith in
    let rest = number_along run.end runs k place whole.2 (omega arith) passed
    (λ j h. before (suc j) (omega arith)) behind in
    get_or-append_right (replicate (run.end - start) run.id) (numbers_along run.end runs)
    (run.end - start)
    (place - start) 0 (length-replicate _ _) far
    ∙ (ap (λ n. get_or (numbers_along run.end runs) n 0) left ∙ rest)

-- a step halves what is left
halved : (power size less count : ℕ) → power * size ≤ count → 0 < size → 2 * less ≤ size
    → (2 * power * less ≤ count) × (2 * power ≤ 2 * count + 1)
halved power size less count room some half =
    let left : power * (2 * less) ≤ power * size = mul-le-mul_left power half in
    let swapped : 2 * power * less ≡ power * (2 * less) =
    ap (λ n. n * less) (mul_comm 2 power) ∙ mul_assoc power 2 less in
    let one : power * 1 ≤ power * size = mul-le-mul_left power some in
    let alone : power * 1 ≡ power = mul-one power in
    (rw swapped (omega arith), omega arith)

-- where a search stands: the runs before `low` end by the place, those from `high` on behind it
pub record IsSearched (runs : List StyleRun) (place begun steps low high : ℕ) : Type 0 where
  pub ordered : low ≤ high
  pub within : high ≤ length runs
  pub before : (k : ℕ) → k < low → end_at runs k ≤ place
  pub behind : (k : ℕ) → high ≤ k → k < length runs → place < end_at runs k
  pub counted : begun ≤ steps
  pub left : 2 ^ (steps - begun) * (high - low) ≤ length runs
  pub cost : 2 ^ (steps - begun) ≤ 2 * length runs + 1

pub begun : (runs : List StyleRun) (place steps : ℕ)
    → IsSearched runs place steps steps 0 (length runs)
begun runs place steps =
    let none : steps - steps ≡ 0 = omega arith in
    record {
      ordered = omega arith;
      within = omega arith;
      before = λ k h. absurd (omega arith);
      behind = λ k h i. absurd (omega arith);
      counted = omega arith;
      left = rw none (omega arith);
      cost = rw none (omega arith);
    }

abbrev pub middle_of : ℕ → ℕ → ℕ
middle_of low high = low + (high - low) / 2

doubled : (begun steps later : ℕ) → begun ≤ steps → later ≡ steps + 1 → 2 ^ (later - begun)
    ≡ 2 * 2 ^ (steps - begun)
doubled begun steps later counted step =
    let more : later - begun ≡ suc (steps - begun) = omega arith in
    rw more (pow-succ' 2 (steps - begun))

-- the run in the middle ends by the place
pub to_right : (runs : List StyleRun) (place begun steps later low high : ℕ) → IsCanonical 0 runs
    → IsSearched runs place begun steps low high → low < high
    → end_at runs (middle_of low high) ≤ place
    → later ≡ steps + 1 → IsSearched runs place begun later (middle_of low high + 1) high
to_right runs place begun steps later low high whole at some passed step =
    let power = doubled begun steps later at.counted step in
    let halves = halved (2 ^ (steps - begun)) (high - low) (high - (middle_of low high + 1))
    (length runs)
    at.left (omega arith) (omega arith) in
    record {
      ordered = omega arith;
      within = at.within;
      before = λ k h. before_middle k h;
      behind = at.behind;
      counted = omega (arith, at.counted);
      left = rw power halves.0;
      cost = rw power halves.1;
    }
  where
    before_middle : (k : ℕ) → k < middle_of low high + 1 → end_at runs k ≤ place
    before_middle k h =
        let most : k ≤ middle_of low high = omega arith in
        elim (eq-or-lt_of_le most) [
          | inl same ↦ subst (λ j. end_at runs j ≤ place) (sym same) passed
          | inr below ↦
              let within : middle_of low high < length runs = omega (arith, at.within) in
              let rises = ends_rise 0 runs k (middle_of low high) whole below within in omega arith
        ]

-- it ends behind the place
pub to_left : (runs : List StyleRun) (place begun steps later low high : ℕ) → IsCanonical 0 runs
    → IsSearched runs place begun steps low high → low < high
    → place < end_at runs (middle_of low high)
    → later ≡ steps + 1 → IsSearched runs place begun later low (middle_of low high)
to_left runs place begun steps later low high whole at some beyond step =
    let power = doubled begun steps later at.counted step in
    let halves = halved (2 ^ (steps - begun)) (high - low) (middle_of low high - low) (length runs)
    at.left (omega arith) (omega arith) in
    record {
      ordered = omega arith;
      within = omega (arith, at.within);
      before = at.before;
      behind = behind_middle;
      counted = omega (arith, at.counted);
      left = rw power halves.0;
      cost = rw power halves.1;
    }
  where
    behind_middle : (k : ℕ) → middle_of low high ≤ k → k < length runs → place < end_at runs k
    behind_middle k h within =
        elim (eq-or-lt_of_le h) [
          | inl same ↦ subst (λ j. place < end_at runs j) same beyond
          | inr above ↦ let rises = ends_rise 0 runs (middle_of low high) k whole above within in
              omega arith
        ]

-- a place within the numbers isn't behind all runs
place_within : (runs : List StyleRun) (place : ℕ) → IsCanonical 0 runs
    → place < length (numbers_along 0 runs)
    → ((k : ℕ) → k < length runs → end_at runs k ≤ place) → ⊥
place_within [] place whole there all = absurd (omega arith)
place_within (run ∷ runs) place whole there all =
    let ends = end_is 0 (run ∷ runs) whole in
    let last = last_end 0 (run ∷ runs) (length runs) (omega arith) in
    let passed = all (length runs) (omega arith) in
    omega (arith, ends, last, passed, there)

-- nothing is left to search
pub is_found : (runs : List StyleRun) (place begun steps low high : ℕ) → IsCanonical 0 runs
    → IsSearched runs place begun steps low high → high ≤ low
    → place < length (numbers_along 0 runs)
    → (low < length runs) × (id_at runs low ≡ get_or (numbers_along 0 runs) place 0)
is_found runs place first steps low high whole at done there =
    let within : low < length runs = elim (cases_lt low (length runs)) [
      | inl below ↦ below
      | inr all ↦ absurd (place_within runs place whole there (λ k h. at.before k (omega arith)))
    ] in
    let number = number_along 0 runs low place whole within (omega arith) at.before
    (at.behind low done within) in
    let same : place - 0 ≡ place = omega arith in
    (within, sym number ∙ ap (λ n. get_or (numbers_along 0 runs) n 0) same)
