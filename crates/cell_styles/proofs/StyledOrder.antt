-- The styled cells of an area rise, row by row, and lie in a worksheet.
use Rattle.std.proofs.Common.{◌≡◌, ℕ, ◌+◌, ◌*◌, ◌/◌, ◌%◌, ◌<◌, ◌≤◌, ◌&&◌, List, [], ◌∷◌, length}
use Rattle.std.proofs.Common.{true, All, refl, ap, sym, ◌∙◌, inl, inr, arith}
use Rattle.std.specs.Prelude.{map}
use Rattle.std.specs.Cmp.{nat_cmp_is}
use Rattle.std.specs.FinMap.Entries.{below_all}
use Rattle.std.specs.Ordering.{nat_cmp, ordering_then, is_lt}
use Rattle.std.specs.declared.cmp.Ordering.TheVariants.{Less, Equal}
use Rattle.std.proofs.Math.Nat.{div-lt_iff_lt-mul, div-add-mod}
use Rattle.std.proofs.lemmas.Bool.Decides.{eqb_tells}
use Rattle.std.proofs.lemmas.List.Elements.{All-nil, All-cons}
use Rattle.cell_refs.specs.Words.{cell_count, position_cmp, is_rising}
use Rattle.cell_refs.specs.declared.dimensions.Dimensions.{Dimensions}
use Rattle.cell_styles.specs.StyleItems.{styled_along, styled_entry, RiseOnSheet}
use Rattle.cell_styles.specs.StyleMap.{IsArea, IsOnSheet, position_in, width_in}
use Rattle.cell_styles.proofs.CellLists.{position_inside}

less_of : (x y : ℕ) → x < y → nat_cmp x y ≡ Less
less_of x y h = sym (nat_cmp_is x y Less h)

tied_of : (x y : ℕ) → x ≡ y → nat_cmp x y ≡ Equal
tied_of x y e = sym (nat_cmp_is x y Equal e)

-- a later place lies in no earlier row
rows_up : (p q width : ℕ) → 0 < width → p < q → p / width ≤ q / width
rows_up p q width some less =
    let past : q < (q / width + 1) * width = (div-lt_iff_lt-mul some).0 (omega arith) in
    let down : p / width < q / width + 1 = (div-lt_iff_lt-mul some).1 (omega arith) in
    omega arith

-- and in the same row farther to the right
columns_up : (p q width : ℕ) → p < q → p / width ≡ q / width → p % width < q % width
columns_up p q width less same =
    let one = div-add-mod p width in
    let two = div-add-mod q width in
    let rows : width * (p / width) ≡ width * (q / width) = ap (λ n. width * n) same in
    omega (arith, one, two, rows)

pub places_rise : (area : Dimensions) (p q : ℕ) → 0 < width_in area → p < q
    → position_cmp (position_in area p) (position_in area q) ≡ Less
places_rise area p q some less =
    let width = width_in area in
    let up = rows_up p q width some less in
    let columns = nat_cmp (position_in area p).1 (position_in area q).1 in
    elim (eqb_tells (p / width) (q / width)) [
      | inl same ↦
          let tied = tied_of _ _ (ap (λ n. area.start.0 + n) same.1) in
          let right = columns_up p q width less same.1 in
          let more : (position_in area p).1 < (position_in area q).1 = omega (arith, right) in
          ap (λ o. ordering_then o columns) tied ∙ less_of _ _ more
      | inr other ↦
          let apart = other.1 in
          let down : p / width < q / width = omega (arith, up, apart) in
          let lower : (position_in area p).0 < (position_in area q).0 = omega (arith, down) in
          ap (λ o. ordering_then o columns) (less_of _ _ lower)
    ]

pub below_styled : (area : Dimensions) (p place : ℕ) (ids : List ℕ) → 0 < width_in area → p < place
    → below_all position_cmp (position_in area p) (map styled_entry (styled_along area place ids))
    ≡ true
below_styled area p place [] some less = refl
below_styled area p place (id ∷ ids) some less =
    let rest = below_styled area p (place + 1) ids some (omega arith) in
    elim (eqb_tells id 0) [
      | inl none ↦ rw (none.0) rest
      | inr other ↦ rw (other.0) (ap
          (λ t. t && below_all position_cmp (position_in area p)
          (map styled_entry (styled_along area (place + 1) ids)))
          (ap is_lt (places_rise area p place some less)) ∙ rest)
    ]

styled_rising : (area : Dimensions) (place : ℕ) (ids : List ℕ) → 0 < width_in area
    → is_rising (map styled_entry (styled_along area place ids)) ≡ true
styled_rising area place [] some = refl
styled_rising area place (id ∷ ids) some =
    let rest = styled_rising area (place + 1) ids some in
    elim (eqb_tells id 0) [
      | inl none ↦ rw (none.0) rest
      | inr other ↦ rw (other.0) (ap
          (λ t. t && is_rising (map styled_entry (styled_along area (place + 1) ids)))
          (below_styled area place (place + 1) ids some (omega arith)) ∙ rest)
    ]

styled_on_sheet : (area : Dimensions) (place : ℕ) (ids : List ℕ) → IsArea area
    → place + length ids ≤ cell_count area → All IsOnSheet (styled_along area place ids)
styled_on_sheet area place [] whole within = All-nil IsOnSheet
styled_on_sheet area place (id ∷ ids) whole within =
    let rest = styled_on_sheet area (place + 1) ids whole (omega (arith, within)) in
    let inside = position_inside area place whole (omega (arith, within)) in
    elim (eqb_tells id 0) [
      | inl none ↦ rw (none.0) rest
      | inr other ↦ rw (other.0) (All-cons IsOnSheet _ _
          (omega (arith, inside.1, whole.2), omega (arith, inside.3, whole.3)) rest)
    ]

pub styled_rise : (area : Dimensions) (ids : List ℕ) → IsArea area
    → length ids ≡ cell_count area → RiseOnSheet (styled_along area 0 ids)
styled_rise area ids whole all = record {
  rising = styled_rising area 0 ids (omega (arith, whole.1));
  sheet = styled_on_sheet area 0 ids whole (omega (arith, all));
}
