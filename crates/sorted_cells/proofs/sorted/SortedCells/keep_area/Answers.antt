use Rattle.std.proofs.Common.{rules, ◌≡◌}
use Rattle.std.proofs.lemmas.Fn.{filter_same}
use Rattle.cell_refs.specs.declared.dimensions.Dimensions.{Dimensions}
use Rattle.sorted_cells.specs.Thinned.{cells_between}
use Rattle.sorted_cells.proofs.CutAreas.{area_kept}
use Rattle.sorted_cells.proofs.Pushing.{AreKept}
use Rattle.sorted_cells.proofs.sorted.SortedCells.keep_area.Goals as goal

pub invariant_of-result : goal.invariant_of-result
invariant_of-result g c =
    let area : Dimensions = record { start = c.args.start; end = c.args.end } in
    let cells : c.retain.new.self.items
    ≡ cells_between c.args.start.1 c.args.end.1 c.cut_before.new.cells.items =
    filter_same _ _ _ (λ x b f called. search rules) _ _ c.retain.ensures.filtered in
    let kept : AreKept c.args.self.rows.items c.args.self.cells.items = record {
      shared = c.args.self.shared;
      numbers = c.args.self.numbers;
      rising = c.args.self.rising;
    } in
    let left =
    area_kept area c.args.self.rows.items c.cut_before.new.rows.items c.cut_behind.new.rows.items
    c.keep_columns.new.rows.items c.args.self.cells.items c.cut_before.new.cells.items
    c.cut_behind.new.cells.items c.retain.new.self.items kept c.cut_behind.ensures.cells_are
    c.cut_before.ensures.shared c.cut_before.ensures.numbers c.cut_before.ensures.cells_are
    (search rules) cells in
    record {
      shared = left.kept.shared;
      numbers = left.kept.numbers;
      rising = left.kept.rising;
    }

pub returns : goal.returns
returns g c =
    let area : Dimensions = record { start = c.args.start; end = c.args.end } in
    let cells : c.retain.new.self.items
    ≡ cells_between c.args.start.1 c.args.end.1 c.cut_before.new.cells.items =
    filter_same _ _ _ (λ x b f called. search rules) _ _ c.retain.ensures.filtered in
    let kept : AreKept c.args.self.rows.items c.args.self.cells.items = record {
      shared = c.args.self.shared;
      numbers = c.args.self.numbers;
      rising = c.args.self.rising;
    } in
    let left =
    area_kept area c.args.self.rows.items c.cut_before.new.rows.items c.cut_behind.new.rows.items
    c.keep_columns.new.rows.items c.args.self.cells.items c.cut_before.new.cells.items
    c.cut_behind.new.cells.items c.retain.new.self.items kept c.cut_behind.ensures.cells_are
    c.cut_before.ensures.shared c.cut_before.ensures.numbers c.cut_before.ensures.cells_are
    (search rules) cells in
    left.is
