use Rattle.std.proofs.Common.{◌≡◌, ◌++◌, map, length, true}
use Rattle.std.specs.List.{list_all}
use Rattle.cell_refs.specs.Words.{is_sheet_area}
use Rattle.formula_shift.specs.Words.{area_named, own_references, pieces_left}
use Rattle.xlsx_precedents.specs.Precedents.{areas}
use Rattle.xlsx_precedents.proofs.areas.push_areas.Given as goal

abbrev pub invariant-loop-piece : goal.invariant-loop-piece
invariant-loop-piece l = record {
  areas : l.out.items ++ map area_named (own_references l.before (pieces_left l.pieces))
      ≡ l.fn.out.items ++ areas l.formula;
  on_sheet : list_all is_sheet_area l.fn.out.items ≡ true →
      list_all is_sheet_area l.out.items ≡ true;
}

abbrev pub decreases-loop-piece : goal.decreases-loop-piece
decreases-loop-piece l = length (pieces_left l.pieces)
