-- The styled cells of an area, by their runs.
use Rattle.std.proofs.Common.{◌≡◌, ℕ, ◌+◌, ◌-◌, ◌<◌, if◌then◌else◌, nat_lt, List, [], ◌∷◌, ◌++◌}
use Rattle.std.proofs.Common.{length, replicate, get_or, map, filter, slice_index, Bool, true}
use Rattle.std.proofs.Common.{false, Some, refl, ap, sym, ◌∙◌, inl, inr, arith, zero, suc}
use Rattle.std.specs.List.{range_with_len}
use Rattle.std.proofs.lemmas.Bool.Decides.{eqb_tells, nat_tests}
use Rattle.cell_refs.specs.Words.{cell_count}
use Rattle.cell_refs.specs.declared.dimensions.Dimensions.{Dimensions}
use Rattle.cell_styles.specs.declared.style_runs.StyleRun.{StyleRun}
use Rattle.cell_styles.specs.StyleItems.{styled_along, styled_in, styled_of, BeginsStyled}
use Rattle.cell_styles.specs.StyleItems.{PassesBlank, LieWithin}
use Rattle.cell_styles.specs.StyleMap.{StyledCell, StyleMap, IsSound, position_in}
use Rattle.cell_styles.specs.StyleRuns.{numbers_along, IsCanonical, BeginsOtherwise}
use Rattle.cell_styles.proofs.RunLists.{end_is}

-- cells without style
blank : (area : Dimensions) (place n : ℕ) (ids : List ℕ)
    → styled_along area place (replicate n 0 ++ ids) ≡ styled_along area (place + n) ids
blank area place zero ids =
    ap (λ p. styled_along area p ids) (let e : place ≡ place + 0 = omega arith in e)
blank area place (suc n) ids =
    blank area (place + 1) n ids
    ∙ ap (λ p. styled_along area p ids) (let e : place + 1 + n ≡ place + suc n = omega arith in e)

others_styled : (id : ℕ) (runs : List StyleRun) → BeginsOtherwise id runs → id ≡ 0
    → BeginsStyled runs
others_styled id [] other e = tt
others_styled id (run ∷ runs) other e = λ h. other (e ∙ sym h)

-- a run without style comes first
pub passes_blank : (place : ℕ) (run : StyleRun) (others : List StyleRun)
    → IsCanonical place (run ∷ others)
    → run.id ≡ 0 → PassesBlank place (run ∷ others) run.end others
passes_blank place run others whole none =
    let below : place < run.end = whole.0 in
    let end : place + (run.end - place) ≡ run.end = omega arith in
    record {
      canonical = whole.2;
      ends = refl;
      begins = others_styled run.id others whole.1 none;
      styled = λ area.
          ap (λ id. styled_along area place
          (replicate (run.end - place) id ++ numbers_along run.end others)) none
          ∙ (blank area place (run.end - place) (numbers_along run.end others)
          ∙ ap (λ p. styled_along area p (numbers_along run.end others)) end);
    }

-- the cell of a place
abbrev id_cell : List ℕ → Dimensions → ℕ → StyledCell
id_cell ids area place =
    ((position_in area place).0, (position_in area place).1, slice_index ids place)

abbrev is_styled : StyledCell → Bool
is_styled cell = nat_lt 0 cell.2

cons_filter : (b : Bool) (cell : StyledCell) (cells kept : List StyledCell) → is_styled cell ≡ b
    → filter is_styled cells ≡ kept
    → filter is_styled (cell ∷ cells) ≡ (if b then cell ∷ kept else kept)
cons_filter true cell cells kept test e = rw test (ap (λ xs. cell ∷ xs) e)
cons_filter false cell cells kept test e = rw test e

styled_listed : (all : List ℕ) (area : Dimensions) (place : ℕ) (ids : List ℕ)
    → ((k : ℕ) → k < length ids → get_or ids k 0 ≡ get_or all (place + k) 0)
    → styled_along area place ids
    ≡ filter is_styled (map (id_cell all area) (range_with_len place (length ids)))
styled_listed all area place [] same = refl
styled_listed all area place (id ∷ ids) same =
    let here : id ≡ get_or all place 0 =
    same 0 (omega arith)
    ∙ ap (λ n. get_or all n 0) (let e : place + 0 ≡ place = omega arith in e) in
    let rest = styled_listed all area (place + 1) ids
    (λ k h. same (suc k) (omega arith)
    ∙ ap (λ n. get_or all n 0) (let e : place + suc k ≡ place + 1 + k = omega arith in e)) in
    let later = map (id_cell all area) (range_with_len (place + 1) (length ids)) in
    elim (eqb_tells id 0) [
      | inl none ↦
          let test : is_styled (id_cell all area place) ≡ false = let zero_here : get_or all place 0
          ≡ 0 = sym here ∙ none.1 in grind (arith, nat_tests) in
          rw (none.0) (rest ∙ sym (cons_filter false (id_cell all area place) later _ test refl))
      | inr some ↦
          let test : is_styled (id_cell all area place) ≡ true = let here' : get_or all place 0
          ≡ id = sym here in grind (arith, nat_tests) in
          rw (some.0) ((λ i. (
            (position_in area place).0,
            (position_in area place).1,
            here i,
          ) ∷ rest i)
          ∙ sym (cons_filter true (id_cell all area place) later _ test refl))
    ]

pub styled_are : (area : Dimensions) (ids : List ℕ) → length ids ≡ cell_count area
    → styled_along area 0 ids ≡ styled_in (Some area) ids
styled_are area ids all =
    styled_listed ids area 0 ids
    (λ k h. ap (λ n. get_or ids n 0) (let e : k ≡ 0 + k = omega arith in e))
    ∙ ap (λ n. filter is_styled (map (id_cell ids area) (range_with_len 0 n))) all

pub styled_of_area : (styles : StyleMap) (area : Dimensions) (ids : List ℕ) (runs : List StyleRun)
    → styles.bounds ≡ Some area → styles.ids ≡ ids → length ids ≡ cell_count area
    → numbers_along 0 runs ≡ ids
    → styled_along area 0 (numbers_along 0 runs) ≡ styled_of styles
styled_of_area styles area ids runs bounds same all view =
    ap (styled_along area 0) view
    ∙ (styled_are area ids all ∙ sym (λ i. styled_in (bounds i) (same i)))

-- the runs of a sound range lie within
pub all_within : (area : Dimensions) (count : ℕ) (ids : List ℕ) (runs : List StyleRun)
    → IsSound (Some area) count ids
    → numbers_along 0 runs ≡ ids → IsCanonical 0 runs → LieWithin area 0 runs
all_within area count ids runs sound view canonical =
    let ends = end_is 0 runs canonical in
    let long : length (numbers_along 0 runs) ≡ cell_count area = ap length view ∙ sound.1 in
    record { area_is = sound.0; canonical = canonical; within = omega (arith, ends, long) }
