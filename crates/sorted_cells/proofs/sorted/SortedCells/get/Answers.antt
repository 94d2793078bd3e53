use Rattle.std.proofs.Common.{rules, ◌∙◌, sym, ap, map}
use Rattle.std.proofs.lemmas.List.Sorted.{answers_always}
use Rattle.std.specs.FinMap.{find}
use Rattle.std.specs.Ordering.{nat_cmp}
use Rattle.sorted_cells.specs.declared.row.Row.{Row}
use Rattle.sorted_cells.specs.Rows.{column_entry, columns_rise}
use Rattle.sorted_cells.proofs.Parts.{part_rises, found_in_row, found_in_no_row}
use Rattle.sorted_cells.proofs.sorted.SortedCells.get.Goals as goal

pub value_in-requires : goal.value_in-requires
value_in-requires g c =
    ap columns_rise c.row_cells.ensures
    ∙ part_rises c.in-Ok.row c.args.self.now.rows.items c.args.self.now.cells.items
    c.args.self.now.rising

-- the closure gives a row's number
pub returns-in-Ok : goal.returns-in-Ok
returns-in-Ok g c =
    let by_key =
    c.in-Ok.ensures.position (λ (row : Row). row.number)
    (answers_always _ _ _ (λ f a r q k. search rules)) in
    c.value_in.ensures
    ∙ (ap (λ cells. find nat_cmp c.args.pos.1 (map column_entry cells)) c.row_cells.ensures
    ∙ sym (found_in_row c.args.pos c.args.self.now.rows.items c.deref.result.now
    c.args.self.now.cells.items c.in-Ok.row c.deref.ensures.value c.args.self.now.numbers
    c.in-Ok.ensures.bound by_key))

pub returns-in-Err : goal.returns-in-Err
returns-in-Err g c =
    let by_key =
    c.in-Err.ensures.position (λ (row : Row). row.number)
    (answers_always _ _ _ (λ f a r q k. search rules)) in
    sym (found_in_no_row c.args.pos c.args.self.now.rows.items c.deref.result.now
    c.args.self.now.cells.items c.in-Err.field-0 c.deref.ensures.value c.args.self.now.numbers
    by_key)
