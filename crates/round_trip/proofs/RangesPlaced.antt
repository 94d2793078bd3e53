-- The values and the formulas of ranges rise, and lie on a sheet.
use Rattle.std.proofs.Common.{◌≡◌, ℕ, Bool, true, ◌&&◌, List, [], ◌∷◌, map, refl, ap, ap₂, ◌∙◌}
use Rattle.std.specs.FinMap.Entries.{below_all}
use Rattle.std.specs.Ordering.{is_lt}
use Rattle.std.proofs.lemmas.List.Elements.{All-map}
use Rattle.cell_refs.specs.Words.{position_cmp, is_rising}
use Rattle.cell_data.specs.Words.{AreInSheet, IsPlacedInSheet, with_meaning, pairs_by, bounds_of}
use Rattle.cell_data.specs.Words.{cells_of}
use Rattle.cell_data.specs.declared.range.Range.{Range}
use Rattle.cell_data.proofs.Areas.{used_in_sheet}

module _ {X : Type 0} where
  range_in_sheet : (range : Range X) → AreInSheet (cells_of range)
  range_in_sheet range =
      used_in_sheet (bounds_of range) (cells_of range) range.limits range.inside

  range_rises : (range : Range X) → is_rising (cells_of range) ≡ true
  range_rises range = range.cells.rising

-- what is meant by cells stands where they stand
module _ {X Y : Type 0} (meaning : X → Y) where
  below_meant : (p : ℕ × ℕ) (es : List ((ℕ × ℕ) × X)) →
      below_all position_cmp p (map (with_meaning meaning) es) ≡ below_all position_cmp p es
  below_meant p [] = refl
  below_meant p (e ∷ es) = ap (λ (t : Bool). is_lt (position_cmp p e.0) && t) (below_meant p es)

  rising_meant : (es : List ((ℕ × ℕ) × X)) →
      is_rising (map (with_meaning meaning) es) ≡ is_rising es
  rising_meant [] = refl
  rising_meant (e ∷ es) = ap₂ (λ (t u : Bool). t && u) (below_meant e.0 es) (rising_meant es)

  pub pairs_rise : (range : Range X) → is_rising (pairs_by meaning range) ≡ true
  pairs_rise range = rising_meant (cells_of range) ∙ range_rises range

  pub pairs_in_sheet : (range : Range X) → AreInSheet (pairs_by meaning range)
  pairs_in_sheet range =
      All-map (IsPlacedInSheet {X = Y}) (with_meaning meaning) (cells_of range)
      (range_in_sheet range)
