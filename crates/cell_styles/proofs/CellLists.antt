-- The cells of an area, by their ids.
use Rattle.std.proofs.Common.{◌≡◌, ℕ, ◌+◌, ◌-◌, ◌/◌, ◌%◌, ◌<◌, ◌&&◌, nat_lt, List, [], ◌∷◌, ◌++◌}
use Rattle.std.proofs.Common.{length, replicate, get_or, map, slice_get, true, Some, All, refl, ap}
use Rattle.std.proofs.Common.{subst, sym, ◌∙◌, arith, suc, length-append}
use Rattle.std.specs.List.{list_all, range_with_len}
use Rattle.std.proofs.Math.Nat.{div-lt_iff_lt-mul, mod-lt}
use Rattle.std.proofs.lemmas.Bool.Decides.{nat_tests}
use Rattle.std.proofs.lemmas.Nat.{div-mul-add, mod-mul-add}
use Rattle.std.proofs.lemmas.List.{length-replicate, get_or-append-add, get_or_append_left}
use Rattle.std.proofs.lemmas.List.{get_or-replicate}
use Rattle.cell_refs.specs.Words.{cell_count, IsInArea}
use Rattle.cell_refs.specs.declared.dimensions.Dimensions.{Dimensions}
use Rattle.cell_styles.specs.declared.style.Style.{Style}
use Rattle.cell_styles.specs.declared.style_runs.StyleRun.{StyleRun}
use Rattle.cell_styles.specs.StyleItems.{CellStyle, cells_along, cells_in, position_styles}
use Rattle.cell_styles.specs.StyleItems.{LieAhead}
use Rattle.cell_styles.specs.StyleMap.{StyleMap, IsArea, IsSound, position_in, style_at, width_in}
use Rattle.cell_styles.specs.StyleMap.{height_in, place_in_area}
use Rattle.cell_styles.specs.StyleRuns.{numbers_along, IsCanonical}
use Rattle.cell_styles.proofs.Areas.{place_within}
use Rattle.cell_styles.proofs.Lookups.{style_found}
use Rattle.cell_styles.proofs.Meaning.{place_of_position}
use Rattle.cell_styles.proofs.RunLists.{end_is}

-- the position of a place of the area lies in it
pub position_inside : (area : Dimensions) (place : ℕ) → IsArea area → place < cell_count area
    → IsInArea area (position_in area place).0 (position_in area place).1
position_inside area place whole within =
    let width = width_in area in
    let some : 0 < width = omega (arith, whole.1) in
    let down : place / width < height_in area = (div-lt_iff_lt-mul some).1 within in
    let right : place % width < width = mod-lt place some in
    (omega arith, omega (arith, down, whole.0), omega arith, omega (arith, right, whole.1))

-- the position of a position's place is that position
pub position_of_place : (area : Dimensions) (row column : ℕ) → IsArea area
    → IsInArea area row column → position_in area (place_in_area area (row, column)) ≡ (row, column)
position_of_place area row column whole inside =
    let width = width_in area in
    let short : column - area.start.1 < width = omega (arith, whole.1, inside) in
    let down : area.start.0 + place_in_area area (row, column) / width ≡ row =
    omega (arith, inside.0, div-mul-add (row - area.start.0) width (column - area.start.1) short) in
    let right : area.start.1 + place_in_area area (row, column) % width ≡ column =
    omega (arith, inside.2, mod-mul-add (row - area.start.0) width (column - area.start.1) short) in
    λ i. (down i, right i)

-- each position of an area has one place, and each place one position
pub ruleset one_place = (position_inside, place_within, place_of_position, position_of_place)

style_of_place : (styles : StyleMap) (area : Dimensions) (place : ℕ) → styles.bounds ≡ Some area
    → IsArea area
    → place < cell_count area
    → slice_get styles.palette (get_or styles.ids place 0)
    ≡ style_at styles (position_in area place)
style_of_place styles area place is whole within =
    style_found styles area (position_in area place) (get_or styles.ids place 0) is
    (position_inside area place whole within)
    (ap (λ n. get_or styles.ids n 0) (sym (place_of_position area place)))

-- the cell of a place
abbrev cell_at : StyleMap → Dimensions → ℕ → CellStyle
cell_at styles area place = (
  (position_in area place).0,
  (position_in area place).1,
  style_at styles (position_in area place),
)

listed : (styles : StyleMap) (area : Dimensions) (place : ℕ) (ids : List ℕ) → styles.bounds
    ≡ Some area
    → IsArea area → place + length ids ≡ cell_count area
    → ((k : ℕ) → k < length ids → get_or ids k 0 ≡ get_or styles.ids (place + k) 0)
    → cells_along area styles.palette place ids
    ≡ map (cell_at styles area) (range_with_len place (length ids))
listed styles area place [] is whole ends same = refl
listed styles area place (id ∷ ids) is whole ends same =
    let here : id ≡ get_or styles.ids place 0 =
    same 0 (omega arith)
    ∙ ap (λ n. get_or styles.ids n 0) (let e : place + 0 ≡ place = omega arith in e) in
    let style = ap (slice_get styles.palette) here
    ∙ style_of_place styles area place is whole (omega arith) in
    let rest = listed styles area (place + 1) ids is whole (omega arith)
    (λ k h. same (suc k) (omega arith)
    ∙ ap (λ n. get_or styles.ids n 0) (let e : place + suc k ≡ place + 1 + k = omega arith in
    e)) in
    λ i. ((position_in area place).0, (position_in area place).1, style i) ∷ rest i

pub cells_are : (styles : StyleMap) (area : Dimensions) → styles.bounds ≡ Some area → IsArea area
    → length styles.ids ≡ cell_count area
    → cells_along area styles.palette 0 styles.ids ≡ cells_in (Some area) styles
cells_are styles area is whole all =
    let ends : 0 + length styles.ids ≡ cell_count area = omega arith in
    listed styles area 0 styles.ids is whole ends
    (λ k h. ap (λ n. get_or styles.ids n 0) (let e : k ≡ 0 + k = omega arith in e))
    ∙ ap (λ n. map (cell_at styles area) (range_with_len 0 n)) all

-- every run has its number among the numbers
pub ids_below : (count start : ℕ) (runs : List StyleRun) → IsCanonical start runs
    → All (λ id. id < count) (numbers_along start runs) → list_all (λ run. nat_lt run.id count) runs
    ≡ true
ids_below count start [] whole all = refl
ids_below count start (run ∷ runs) whole all =
    let below : start < run.end = whole.0 in
    let group : List ℕ = replicate (run.end - start) run.id in
    let long : length group ≡ run.end - start = length-replicate (run.end - start) run.id in
    let rest : All (λ id. id < count) (numbers_along run.end runs) = λ k d h.
    let more = length-append group (numbers_along run.end runs) in
    let later = all (length group + k) d (omega arith) in
    subst (λ n. n < count) (get_or-append-add group (numbers_along run.end runs) k d) later in
    let first : get_or (group ++ numbers_along run.end runs) 0 0 ≡ run.id =
    get_or_append_left group (numbers_along run.end runs) 0 0 (omega arith)
    ∙ get_or-replicate (run.end - start) 0 run.id 0 (omega arith) in
    let more = length-append group (numbers_along run.end runs) in
    let here : run.id < count = subst (λ n. n < count) first (all 0 0 (omega arith)) in
    let test : nat_lt run.id count ≡ true = grind (arith, nat_tests) in
    let others = ids_below count run.end runs whole.2 rest in
    λ i. test i && others i

-- the runs of a sound range lie ahead
pub all_ahead : (area : Dimensions) (count : ℕ) (ids : List ℕ) (runs : List StyleRun)
    → IsSound (Some area) count ids
    → numbers_along 0 runs ≡ ids → IsCanonical 0 runs → LieAhead area count 0 runs
all_ahead area count ids runs sound view canonical =
    let ends = end_is 0 runs canonical in
    let long : length (numbers_along 0 runs) ≡ cell_count area = ap length view ∙ sound.1 in
    record {
      area_is = sound.0;
      canonical = canonical;
      within = omega (arith, ends, long);
      below = ids_below count 0 runs canonical (subst (All (λ id. id < count)) (sym view) sound.2);
    }

pub cells_of_area : (styles : StyleMap) (area : Dimensions) (palette : List Style) (ids : List ℕ)
    (runs : List StyleRun)
    → styles ≡ record { bounds = Some area; palette = palette; ids = ids }
    → IsSound (Some area) (length palette) ids
    → numbers_along 0 runs ≡ ids → cells_along area palette 0 (numbers_along 0 runs)
    ≡ position_styles styles
cells_of_area styles area palette ids runs is sound view =
    ap (cells_along area palette 0) view
    ∙ (cells_are (record { bounds = Some area; palette = palette; ids = ids }) area refl sound.0
    sound.1
    ∙ ap position_styles (sym is))
