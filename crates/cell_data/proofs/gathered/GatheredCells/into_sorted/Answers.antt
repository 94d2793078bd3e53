use Rattle.std.proofs.Common.{rules, ◌≡◌, ◌++◌, ◌∙◌, ap, sym, length}
use Rattle.std.proofs.lemmas.List.{append-nil, nil_from_length}
use Rattle.cell_refs.specs.Words.{is_rising, last_of_each}
use Rattle.cell_data.specs.Cells.{placed_cells}
use Rattle.cell_data.proofs.Placing.{rising_last, last_rising}
use Rattle.sorted_cells.specs.Words.{kept_cells}
use Rattle.sorted_cells.proofs.Rising.{kept_rises}
use Rattle.cell_data.proofs.gathered.GatheredCells.into_sorted.Goals as goal

pub returns-then-is_empty : goal.returns-then-is_empty
returns-then-is_empty g c =
    let none : length c.args.self.others.items ≡ 0 = search rules in
    let all : kept_cells c.args.self.sorted ++ placed_cells c.args.self.others.items
    ≡ kept_cells c.args.self.sorted =
    ap (λ cells. kept_cells c.args.self.sorted ++ placed_cells cells) (nil_from_length _ none)
    ∙ append-nil (kept_cells c.args.self.sorted) in
    rising_last (kept_cells c.args.self.sorted) (kept_rises c.args.self.sorted)
    ∙ sym (ap last_of_each all)

pub sorted_of-requires : goal.sorted_of-requires
sorted_of-requires g c =
    ap is_rising
    (c.in_ok-map.ensures (kept_cells c.args.self.sorted) c.in_ok-by_position.ensures)
    ∙ last_rising (kept_cells c.args.self.sorted ++ placed_cells c.args.self.others.items)
