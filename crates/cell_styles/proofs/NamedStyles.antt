-- The style of a position is that of the id that it is listed with.
use Rattle.std.proofs.Common.{◌≡◌, ℕ, zero, suc, ◌+◌, ◌<◌, Bool, true, false, cond, if◌then◌else◌}
use Rattle.std.proofs.Common.{List, [], ◌∷◌, map, get_or, slice_get, slice_index, Option, Some}
use Rattle.std.proofs.Common.{None, refl, sym, ◌∙◌, ap, subst, inl, inr, arith}
use Rattle.std.specs.Cmp.{tied_itself}
use Rattle.std.specs.FinMap.{find}
use Rattle.std.specs.Borrow.{Bor}
use Rattle.std.specs.Prelude.{length, nat_lt, is_some, IfSome}
use Rattle.std.specs.Option.{option_copied, unwrap_or}
use Rattle.std.proofs.lemmas.Option.{slice_get_past, slice_get_read}
use Rattle.std.specs.Ordering.{is_eq, ordering_reverse, eq_by_cmp}
use Rattle.std.proofs.lemmas.Bool.Decides.{eqb_tells, nat_tests}
use Rattle.cell_refs.specs.Words.{IsInArea, is_in_area, position_cmp}
use Rattle.cell_refs.specs.declared.dimensions.Dimensions.{Dimensions}
use Rattle.cell_refs.proofs.PositionOrder.{position_total, none_behind}
use Rattle.cell_styles.specs.StyleItems.{styled_along, styled_in, styled_of, styled_entry, id_among}
use Rattle.cell_styles.specs.StyleItems.{style_by, style_named}
use Rattle.cell_styles.specs.StyleMap.{StyleMap, IsSound, position_in, place_in_area, width_in}
use Rattle.cell_styles.specs.StyleMap.{style_in, style_at}
use Rattle.cell_styles.specs.declared.style.Style.{Style}
use Rattle.cell_styles.proofs.CellLists.{position_of_place}
use Rattle.cell_styles.proofs.Lookups.{inside_test}
use Rattle.cell_styles.proofs.StyledLists.{styled_are}
use Rattle.cell_styles.proofs.StyledOrder.{places_rise, below_styled}

module _ (area : Dimensions) (some : 0 < width_in area) where
  apart : (p q : ℕ) → p < q
      → eq_by_cmp position_cmp (position_in area q) (position_in area p) ≡ false
  apart p q less =
      ap is_eq (position_total.antisymm (position_in area q) (position_in area p)
      ∙ ap ordering_reverse (places_rise area p q some less))

  abbrev listed : ℕ → List ℕ → List ((ℕ × ℕ) × ℕ)
  listed place ids = map styled_entry (styled_along area place ids)

  -- of ids from a place on, each is found at its position
  id_found : (place k : ℕ) (ids : List ℕ)
      → unwrap_or (find position_cmp (position_in area (place + k)) (listed place ids)) 0
      ≡ get_or ids k 0
  id_found place k [] = refl
  id_found place zero (id ∷ ids) =
      let here : place + 0 ≡ place = omega arith in
      let p = position_in area place in
      let later = listed (place + 1) ids in
      ap (λ n. unwrap_or (find position_cmp (position_in area n) (listed place (id ∷ ids))) 0) here
      ∙ elim (eqb_tells id 0) [
        | inl none ↦ rw (none.0) (ap (λ (o : Option ℕ). unwrap_or o 0)
            (none_behind position_cmp position_total p p later (tied_itself position_total p)
            (below_styled area place (place + 1) ids some (omega arith))) ∙ sym none.1)
        | inr other ↦ rw (other.0)
            (ap (λ t. unwrap_or (cond t (Some id) (find position_cmp p later)) 0)
            (ap is_eq (tied_itself position_total p)))
      ]
  id_found place (suc k) (id ∷ ids) =
      let there : place + suc k ≡ place + 1 + k = omega arith in
      let p = position_in area (place + 1 + k) in
      let later = listed (place + 1) ids in
      let rest = id_found (place + 1) k ids in
      ap (λ n. unwrap_or (find position_cmp (position_in area n) (listed place (id ∷ ids))) 0) there
      ∙ elim (eqb_tells id 0) [
        | inl none ↦ rw (none.0) rest
        | inr other ↦ rw (other.0)
            (ap (λ t. unwrap_or (cond t (Some id) (find position_cmp p later)) 0)
            (apart place (place + 1 + k) (omega arith)) ∙ rest)
      ]

same_inside : (inside : Bool) (one two : Option Style) → (inside ≡ true → one ≡ two)
    → (if inside then one else None) ≡ (if inside then two else None)
same_inside true one two same = same refl
same_inside false one two same = refl

-- the positions of an area have the styles of the ids that they are listed with
pub named_in : (styles : StyleMap) (area : Dimensions) (count : ℕ) → styles.bounds ≡ Some area
    → IsSound (Some area) count styles.ids → (position : ℕ × ℕ)
    → style_named styles position (id_among (styled_of styles) position)
    ≡ style_at styles position
named_in styles area count is sound position =
    let whole = sound.0 in
    let some : 0 < width_in area = omega (arith, whole.1) in
    let id_there : (is_in_area area position ≡ true)
    → id_among (styled_in (Some area) styles.ids) position
    ≡ slice_index styles.ids (place_in_area area position) =
    λ inside.
    let lies : IsInArea area position.0 position.1 = grind (arith, nat_tests, inside) in
    ap (λ cells. id_among cells position) (sym (styled_are area styles.ids sound.1))
    ∙ ap (λ (p : ℕ × ℕ). id_among (styled_along area 0 styles.ids) p)
    (sym (position_of_place area position.0 position.1 whole lies))
    ∙ ap (λ n. id_among (styled_along area 0 styles.ids) (position_in area n))
    (let e : place_in_area area position ≡ 0 + place_in_area area position = omega arith in e)
    ∙ id_found area some 0 (place_in_area area position) styles.ids in
    subst (λ (bounds : Option Dimensions).
    style_by bounds styles.palette position (id_among (styled_in bounds styles.ids) position)
    ≡ style_in bounds styles position) (sym is)
    (same_inside (is_in_area area position)
    (slice_get styles.palette (id_among (styled_in (Some area) styles.ids) position))
    (slice_get styles.palette (slice_index styles.ids (place_in_area area position)))
    (λ inside. ap (slice_get styles.palette) (id_there inside)))

-- a position of the area has the style that is asked for
pub named_inside : (styles : StyleMap) (area : Dimensions) (position : ℕ × ℕ) (id : ℕ)
    → styles.bounds ≡ Some area → IsInArea area position.0 position.1
    → slice_get styles.palette id ≡ style_named styles position id
named_inside styles area position id is inside =
    let test = inside_test area position inside in
    subst (λ (bounds : Option Dimensions).
    slice_get styles.palette id ≡ style_by bounds styles.palette position id) (sym is)
    (rw test refl)

-- what was looked up among styles
pub looked_up : (found : Option (Bor Style)) (styles : List Style) (id : ℕ)
    → is_some found ≡ nat_lt id (length styles)
    → IfSome found (λ own. own.now ≡ get_or styles id own.now)
    → option_copied found ≡ slice_get styles id
looked_up None styles id past same =
    sym (slice_get_past styles id (grind (arith, nat_tests, past)))
looked_up (Some own) styles id within same =
    sym (slice_get_read styles (length styles) id own.now refl
    (grind (arith, nat_tests, within)) same)
