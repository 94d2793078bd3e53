-- What an index keeps of the cells and their areas.
use Rattle.std.specs.Prelude.{◌≡◌, ℕ, ◌&&◌, nat_le, Bool, true, List, map, length, Option}
use Rattle.std.specs.Prelude.{replicate, [], option_to_list, if◌then◌else◌}
use Rattle.std.specs.List.{flat_map, list_all, slice_range}
use Rattle.cell_refs.specs.Words.{is_rising, is_sheet_area}
use Rattle.cell_refs.specs.declared.dimensions.Dimensions.{Dimensions}
use Rattle.formula_shift.specs.Words.{is_elsewhere, PieceText, piece_reference}
use Rattle.formula_shift.specs.declared.reference.Reference.{Reference}
use Rattle.xlsx_precedents.specs.Precedents.{all_named}
use Rattle.xlsx_precedents.specs.declared.named_areas.NamedAreas.{NamedAreas}

-- the reference of its own sheet that a piece is, if any, between these bytes
abbrev pub own_reference : Option ℕ → PieceText → Option ℕ → List Reference
own_reference before piece behind =
    if is_elsewhere before then [] else option_to_list (piece_reference piece behind)

-- the cell of each area that formulas name, in order
abbrev pub all_naming : List ((ℕ × ℕ) × List Dimensions) → List (ℕ × ℕ)
all_naming index = flat_map (λ entry. replicate (length entry.1) entry.0) index

-- a cell, and its areas by the places where they begin and end
abbrev pub entry_in : List Dimensions → (ℕ × ℕ) × (ℕ × ℕ) → (ℕ × ℕ) × List Dimensions
entry_in areas cell = (cell.0, slice_range areas cell.1.0 cell.1.1)

-- the places of a cell's areas lie among so many
abbrev pub lies_within : ℕ → (ℕ × ℕ) × (ℕ × ℕ) → Bool
lies_within count cell = nat_le cell.1.0 cell.1.1 && nat_le cell.1.1 count

-- what is known of cells, of areas, and of the cell of each area
pub record AreCellsGathered (cells : List ((ℕ × ℕ) × (ℕ × ℕ))) (named : NamedAreas) : Type 0 where
  pub within : list_all (lies_within (length named.areas.items)) cells ≡ true
  pub rising : is_rising (map (entry_in named.areas.items) cells) ≡ true
  pub areas : named.areas.items ≡ all_named (map (entry_in named.areas.items) cells)
  pub owners : named.cells.items ≡ all_naming (map (entry_in named.areas.items) cells)
  pub on_sheet : list_all is_sheet_area named.areas.items ≡ true
