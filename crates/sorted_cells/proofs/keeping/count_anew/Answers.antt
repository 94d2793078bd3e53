use Rattle.std.proofs.Common.{rules, ◌≡◌, ◌∷◌, ◌+◌, arith, length, take, drop, get_or, true, subst}
use Rattle.std.proofs.Common.{sym, List}
use Rattle.std.proofs.lemmas.List.{drop_more}
use Rattle.sorted_cells.specs.declared.row.Row.{Row}
use Rattle.sorted_cells.specs.Rows.{are_rows, row_size}
use Rattle.sorted_cells.specs.Thinned.{thinned}
use Rattle.sorted_cells.proofs.Thinning.{counted_row, row_here}
use Rattle.sorted_cells.proofs.keeping.count_anew.Goals as goal

pub row_size-requires : goal.row_size-requires
row_size-requires g c =
    let row : Row = get_or c.loop-at.rows c.loop-at.at (record { number = 0; first = 0 }) in
    let here : are_rows row.first (row ∷ drop (c.loop-at.at + 1) c.loop-at.rows)
    (length c.loop-at.left.now) ≡ true =
    row_here c.loop-at.rows c.loop-at.at (length c.loop-at.left.now)
    (record { number = 0; first = 0 }) (omega arith) c.loop-at.invariant.shared in
    subst (λ (rows : List Row). are_rows row.first (row ∷ rows) (length c.loop-at.left.now) ≡ true)
    (sym c.split_at.ensures.back) here

pub loop-at-preserved : goal.loop-at-preserved
loop-at-preserved g c =
    let row : Row = get_or c.loop-at.rows c.loop-at.at (record { number = 0; first = 0 }) in
    let split : drop c.loop-at.at c.loop-at.rows ≡ row ∷ drop (c.loop-at.at + 1) c.loop-at.rows =
    drop_more c.loop-at.rows c.loop-at.at (record { number = 0; first = 0 }) (omega arith) in
    let own : c.split_at-in-loop-at.result.0.now
    ≡ take (row_size row.first (drop (c.loop-at.at + 1) c.loop-at.rows) (length c.loop-at.left.now))
    c.loop-at.left.now =
    search rules in
    let others : c.split_at-in-loop-at.result.1.now
    ≡ drop (row_size row.first (drop (c.loop-at.at + 1) c.loop-at.rows) (length c.loop-at.left.now))
    c.loop-at.left.now =
    search rules in
    let step =
    counted_row c.args.first c.args.last c.loop-at.rows c.write_row-written.new.rows
    (thinned c.args.first c.args.last 0 c.args.rows.now c.args.cells.now) row c.loop-at.at
    c.loop-at.written c.write_row-written.result c.loop-at.place c.count_between-size.result
    c.loop-at.left.now c.split_at-in-loop-at.result.0.now c.split_at-in-loop-at.result.1.now split
    c.loop-at.invariant.written c.loop-at.invariant.shared c.loop-at.invariant.same own others
    c.count_between-size.ensures.count c.write_row-written.ensures.front
    c.write_row-written.ensures.back in
    record {
      written = omega arith;
      fits = omega arith;
      shared = step.shared;
      same = step.same;
    }
