-- The area that a text names ends in a worksheet, and so does what is left of it.
use Rattle.std.proofs.Common.{◌≡◌, ℕ, zero, suc, ◌<◌, List, [], ◌∷◌, true, Some, Result, Ok, Err}
use Rattle.std.proofs.Common.{refl, subst, arith}
use Rattle.std.specs.Prelude.{slice_get}
use Rattle.cell_refs.specs.Words.{corner, corners, with_corner, parts, area_of, are_sheet_bounds}
use Rattle.cell_refs.specs.A1.{area}
use Rattle.cell_refs.specs.declared.dimensions.Dimensions.{Dimensions}
use Rattle.cell_refs.specs.declared.error.RefError.{RefError}
use Rattle.cell_refs.proofs.Inside.{corner_inside}
use Rattle.xlsx_tables.specs.TableParts.{data_area}

abbrev IsInside : ℕ × ℕ → Type 0
IsInside position = (position.0 < 1048576) × (position.1 < 16384)

abbrev AreInside : List (ℕ × ℕ) → Type 0
AreInside found = (k : ℕ) (position : ℕ × ℕ) → slice_get found k ≡ Some position →
    IsInside position

one_more : (first : ℕ × ℕ) (others : List (ℕ × ℕ)) → IsInside first → AreInside others
    → AreInside (first ∷ others)
one_more first others is are zero position at =
    let same : first ≡ position = cc in
    subst IsInside same is
one_more first others is are (suc k) position at = are k position at

with_inside : (first : Result (ℕ × ℕ) RefError) (others : Result (List (ℕ × ℕ)) RefError)
    (found : List (ℕ × ℕ)) → ((position : ℕ × ℕ) → first ≡ Ok position → IsInside position)
    → ((all : List (ℕ × ℕ)) → others ≡ Ok all → AreInside all)
    → with_corner first others ≡ Ok found → AreInside found
with_inside (Err e) others found one all is = absurd (cc)
with_inside (Ok first) (Err e) found one all is = absurd (cc)
with_inside (Ok first) (Ok others) found one all is =
    let same : first ∷ others ≡ found = cc in
    subst AreInside same (one_more first others (one first refl) (all others refl))

none_inside : AreInside []
none_inside k position at = absurd (cc)

corners_inside : (texts : List (List ℕ)) (found : List (ℕ × ℕ)) → corners texts ≡ Ok found
    → AreInside found
corners_inside [] found is =
    let same : [] ≡ found = cc in
    subst AreInside same none_inside
corners_inside (text ∷ texts) found is =
    with_inside (corner text) (corners texts) found (corner_inside text) (corners_inside texts) is

area_of_inside : (found : Result (List (ℕ × ℕ)) RefError) (own : Dimensions)
    → ((all : List (ℕ × ℕ)) → found ≡ Ok all → AreInside all) → area_of found ≡ Ok own
    → IsInside own.end
area_of_inside (Err e) own all is = absurd (cc)
area_of_inside (Ok []) own all is = absurd (cc)
area_of_inside (Ok (only ∷ [])) own all is =
    let same : only ≡ own.end = cc in
    subst IsInside same (all (only ∷ []) refl 0 only refl)
area_of_inside (Ok (first ∷ second ∷ [])) own all is =
    let same : second ≡ own.end = cc in
    subst IsInside same (all (first ∷ second ∷ []) refl 1 second refl)
area_of_inside (Ok (first ∷ second ∷ third ∷ others)) own all is = absurd (cc)

pub area_inside : (text : List ℕ) (own : Dimensions) → area text ≡ Ok own → IsInside own.end
unfolding area
area_inside text own is =
    area_of_inside (corners (parts text)) own (corners_inside (parts text)) is

-- what is left of such an area without headers and totals
pub data_inside : (headers totals : ℕ) (own : Dimensions) → IsInside own.end
    → are_sheet_bounds (data_area headers totals own) ≡ true
data_inside headers totals own inside = grind arith
