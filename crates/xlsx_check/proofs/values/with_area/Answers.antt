use Rattle.std.proofs.Common.{ℕ, List, map, ap, sym, ◌∙◌}
use Rattle.std.specs.List.{fold}
use Rattle.cell_data.specs.Words.{CellValue, value_of_data, cells_of}
use Rattle.cell_data.specs.declared.value.Data.{Data}
use Rattle.sorted_cells.specs.Words.{area_left}
use Rattle.sorted_cells.specs.declared.area_cells.AreaCells.{AreaCells}
use Rattle.xlsx_check.specs.Denoting.{denoted_by}
use Rattle.xlsx_check.specs.Evaluation.{Denoted, total_with_value}
use Rattle.xlsx_check.proofs.Placing.{within_area}
use Rattle.xlsx_check.proofs.values.with_area.Goals as goal

abbrev values_left : List ((ℕ × ℕ) × Data) → List CellValue
values_left cells = map (λ cell. value_of_data cell.1) cells

pub loop-value-init : goal.loop-value-init
loop-value-init c =
    ap (λ (it : AreaCells Data).
    fold total_with_value (denoted_by c.args.total) (values_left (area_left it)))
    c.into_iter-value-iterator.ensures.into_iter_gives
    ∙ (ap (λ (cells : List ((ℕ × ℕ) × Data)).
    fold total_with_value (denoted_by c.args.total) (values_left cells))
    c.used_in-value-items.ensures
    ∙ ap (λ (values : List CellValue). fold total_with_value (denoted_by c.args.total) values)
    (within_area c.args.area (cells_of c.args.values.now)))

pub loop-value-preserved : goal.loop-value-preserved
loop-value-preserved c =
    ap (λ (total : Denoted).
    fold total_with_value total (values_left (area_left c.next.new.self)))
    c.with_value-total.ensures
    ∙ (sym (ap (λ (cells : List ((ℕ × ℕ) × Data)).
    fold total_with_value (denoted_by c.loop-value.total) (values_left cells))
    c.in-Some.ensures.steps)
    ∙ c.loop-value.invariant)

pub returns : goal.returns
returns c =
    sym (ap (λ (cells : List ((ℕ × ℕ) × Data)).
    fold total_with_value (denoted_by c.loop-value.total) (values_left cells))
    c.in-None.ensures.steps.0)
    ∙ c.loop-value.invariant
