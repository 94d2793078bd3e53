-- Where the cells of formulas stand in a worksheet, so do those whose formulas name a cell.
use Rattle.std.proofs.Common.{ℕ, List, map, All}
use Rattle.std.specs.Prelude.{String, filter}
use Rattle.std.specs.declared.alloc.Global.{Global}
use Rattle.std.proofs.lemmas.List.Elements.{All-filter, All-map}
use Rattle.cell_data.specs.Words.{IsPlacedInSheet, AreInSheet}
use Rattle.cell_refs.specs.declared.dimensions.Dimensions.{Dimensions}
use Rattle.list_lines.specs.Inside.{IsCellOfWorksheet}
use Rattle.xlsx_precedents.specs.Precedents.{formula_of_cell, areas_named_by, names_cell}
use Rattle.xlsx_precedents.specs.Precedents.{direct_dependents}

pub named_stand : (cells : List ((ℕ × ℕ) × String Global)) → AreInSheet cells →
    AreInSheet (map areas_named_by (map formula_of_cell cells))
named_stand cells stand =
    All-map IsPlacedInSheet areas_named_by (map formula_of_cell cells)
    (All-map (λ entry. IsPlacedInSheet (areas_named_by entry)) formula_of_cell cells stand)

pub dependents_stand : (index : List ((ℕ × ℕ) × List Dimensions)) (position : ℕ × ℕ) →
    AreInSheet index → All IsCellOfWorksheet (direct_dependents index position)
unfolding direct_dependents
dependents_stand index position stand =
    All-map IsCellOfWorksheet (λ (entry : (ℕ × ℕ) × List Dimensions). entry.0)
    (filter (λ entry. names_cell entry.1 position) index)
    (All-filter (λ entry. names_cell entry.1 position) IsPlacedInSheet index stand)
