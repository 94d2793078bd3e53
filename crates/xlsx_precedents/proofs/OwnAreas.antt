-- The areas of a text, piece by piece, and those of a moved text.
use Rattle.std.proofs.Common.{◌≡◌, ℕ, suc, ◌-◌, arith, List, [], ◌∷◌, ◌++◌, length, map, Option}
use Rattle.std.proofs.Common.{None, Some, refl, sym, ap, ◌∙◌}
use Rattle.std.specs.Prelude.{ℤ}
use Rattle.std.specs.List.{slice_get}
use Rattle.std.proofs.lemmas.List.{map-append, append_assoc}
use Rattle.cell_refs.specs.declared.dimensions.Dimensions.{Dimensions}
use Rattle.formula_shift.specs.Words.{area_named, own_references, last_byte, PieceText, pieces}
use Rattle.formula_shift.specs.Words.{moved, first_byte}
use Rattle.formula_shift.proofs.Cutting.{joined_pieces-pieces}
use Rattle.formula_shift.proofs.OwnReferences.{own_references-moved}
use Rattle.xlsx_precedents.specs.Kept.{own_reference}
use Rattle.xlsx_precedents.specs.Precedents.{areas, shifted_areas}

pub areas-moved : (text : List ℕ) (offset : ℤ × ℤ) →
    areas (moved text offset) ≡ shifted_areas text offset
unfolding areas
areas-moved text offset = ap (map area_named) (own_references-moved text offset)

-- the last byte of a text that has one
last_byte-at : (b : ℕ) (bs : List ℕ) → last_byte (Some b) bs ≡ slice_get (b ∷ bs) (length bs)
last_byte-at b [] = refl
last_byte-at b (c ∷ cs) = last_byte-at c cs

pub last_byte-some : (before : Option ℕ) (bs : List ℕ) (b : ℕ) →
    slice_get bs (length bs - 1) ≡ Some b → last_byte before bs ≡ Some b
last_byte-some before [] b some = cc
last_byte-some before (c ∷ cs) b some =
    let place : suc (length cs) - 1 ≡ length cs = omega arith in
    last_byte-at c cs ∙ ap (slice_get (c ∷ cs)) (sym place) ∙ some

pub own_areas_begin : (text : List ℕ) (ps : List PieceText) → ps ≡ pieces text →
    map area_named (own_references None ps) ≡ areas text
unfolding areas
own_areas_begin text ps is = ap (λ ps. map area_named (own_references None ps)) is

-- the areas of a piece, and those behind it, in front of which stands this byte
pub own_areas_next : (out more : List Dimensions) (before last behind : Option ℕ)
    (text rest bytes : List ℕ) (p : PieceText) → pieces text ≡ p ∷ pieces rest →
    behind ≡ first_byte rest → more ≡ out ++ map area_named (own_reference before p behind) →
    last ≡ last_byte before bytes → bytes ≡ p.bytes →
    more ++ map area_named (own_references last (pieces rest))
    ≡ out ++ map area_named (own_references before (pieces text))
own_areas_next out more before last behind text rest bytes p cut is more_is last_is bytes_are =
    let own = own_reference before p (first_byte rest) in
    let others = own_references (last_byte before p.bytes) (pieces rest) in
    let here : own_references before (pieces text) ≡ own ++ others =
    ap (own_references before) cut
    ∙ ap (λ t. own_reference before p (first_byte t) ++ others) (joined_pieces-pieces rest) in
    (λ i. (more_is ∙ ap (λ o. out ++ map area_named (own_reference before p o)) is) i
    ++ map area_named (own_references ((last_is ∙ ap (last_byte before) bytes_are) i)
    (pieces rest)))
    ∙ append_assoc out (map area_named own) (map area_named others)
    ∙ ap (λ all. out ++ all)
    (sym (map-append area_named own others) ∙ sym (ap (map area_named) here))
