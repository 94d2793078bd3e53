use Rattle.std.proofs.Common.{rules, ◌≡◌, [], ◌∙◌, ap, sym, List, map, ◌++◌}
use Rattle.std.proofs.lemmas.List.{nil_from_length}
use Rattle.sorted_cells.specs.declared.row.ColumnCell.{ColumnCell}
use Rattle.sorted_cells.specs.Area.{entries_between}
use Rattle.sorted_cells.specs.Rows.{row_entry, cells_by}
use Rattle.sorted_cells.proofs.Between.{row_entered}
use Rattle.sorted_cells.proofs.area_cells.AreaCells.enter_row.Goals as goal

pub columns_between-self-requires : goal.columns_between-self-requires
columns_between-self-requires g c =
    let entered =
    row_entered c.rows.self.first c.rows.self.last c.rows.self.number c.row_size.result
    c.split_at.result.0.now c.split_at.result.0.now c.split_at.result.1.now c.in-Some.row.now
    c.in-Some.rows.now c.rows.self.rows.now c.rows.self.behind.now (search rules) (search rules)
    (search rules) (search rules) c.rows.self.shared c.rows.self.rising in
    entered.columns

pub invariant_of-self : goal.invariant_of-self
invariant_of-self g c =
    let entered =
    row_entered c.rows.self.first c.rows.self.last c.rows.self.number c.row_size.result
    c.split_at.result.0.now c.split_at.result.0.now c.split_at.result.1.now c.in-Some.row.now
    c.in-Some.rows.now c.rows.self.rows.now c.rows.self.behind.now (search rules) (search rules)
    (search rules) (search rules) c.rows.self.shared c.rows.self.rising in
    record { shared = entered.shared; rising = entered.rising }

pub rows-preserved : goal.rows-preserved
rows-preserved g c =
    let entered =
    row_entered c.rows.self.first c.rows.self.last c.rows.self.number c.row_size.result
    c.split_at.result.0.now c.columns_between-self.result.now c.split_at.result.1.now
    c.in-Some.row.now c.in-Some.rows.now c.rows.self.rows.now c.rows.self.behind.now
    (search rules) (search rules) (search rules) (search rules) c.rows.self.shared
    c.rows.self.rising in
    let empty : c.rows.self.own.now ≡ [] = nil_from_length c.rows.self.own.now (search rules) in
    entered.same c.columns_between-self.ensures
    ∙ (sym (ap (λ (cells : List (ColumnCell g.row.T.Denot)).
    map (row_entry c.rows.self.number) cells
    ++ entries_between c.rows.self.first c.rows.self.last
    (cells_by c.rows.self.rows.now c.rows.self.behind.now)) empty)
    ∙ c.rows.invariant)
