use Rattle.std.proofs.Common.{◌∙◌, ap, sym}
use Rattle.std.specs.Option.{option_copied, unwrap_or}
use Rattle.sorted_cells.specs.Words.{placed_left}
use Rattle.cell_data.specs.Range.{bounds_of, cells_of, blank_of}
use Rattle.cell_data.proofs.CellSteps.{taken, unwrapped}
use Rattle.cell_data.proofs.range_iterators.take_value.Goals as goal

pub returns-clause-value : goal.returns-clause-value
returns-clause-value g c =
    let range = c.args.range.now in
    let step =
    taken (bounds_of range) (cells_of range) c.args.pos (option_copied c.next_at.result)
    (placed_left c.args.left.now) (placed_left c.next_at.new.self) c.requires
    c.next_at.ensures.value c.next_at.ensures.left in
    unwrapped c.next_at.result c.blank.result c.unwrap_or.result c.unwrap_or.ensures
    ∙ (ap (unwrap_or (option_copied c.next_at.result)) c.blank.ensures
    ∙ ap (λ value. unwrap_or value (blank_of range)) (sym step.found))

pub returns-clause-left : goal.returns-clause-left
returns-clause-left g c =
    let range = c.args.range.now in
    let step =
    taken (bounds_of range) (cells_of range) c.args.pos (option_copied c.next_at.result)
    (placed_left c.args.left.now) (placed_left c.next_at.new.self) c.requires
    c.next_at.ensures.value c.next_at.ensures.left in
    step.left
