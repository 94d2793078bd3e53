use Rattle.std.proofs.Common.{◌∙◌, ◌∷◌, [], ◌++◌, ap, sym, map, Some, ℕ}
use Rattle.std.proofs.lemmas.List.{map-append}
use Rattle.cell_refs.specs.Words.{area_with, least_area}
use Rattle.sorted_cells.specs.Words.{placed_left, given_cell}
use Rattle.cell_data.proofs.LeastAreas.{least_end}
use Rattle.cell_data.proofs.Placing.{one_further}
use Rattle.cell_data.proofs.area.least_area.Goals as goal

pub loop-pos-preserved : goal.loop-pos-preserved
loop-pos-preserved g c =
    let given = map (given_cell {X = g.row.T.Denot}) c.loop-pos.yielded in
    let own : (ℕ × ℕ) × g.row.T.Denot = (c.in-Some.pos, c.in-Some.field-0-1.now) in
    let more = map-append (given_cell {X = g.row.T.Denot}) c.loop-pos.yielded
    ((c.in-Some.pos, c.in-Some.field-0-1) ∷ []) in
    record {
      area = ap Some c.area_with.ensures
          ∙ ap (λ area. Some (area_with c.in-Some.pos area)) c.loop-pos.invariant.area
          ∙ sym (least_end given own) ∙ ap least_area (sym more);
      whole = ap (λ cells. cells ++ placed_left c.next.new.self) more
          ∙ one_further given own _ _ _ c.in-Some.ensures.steps c.loop-pos.invariant.whole;
    }
