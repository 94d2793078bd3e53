use Rattle.std.proofs.Common.{rules, ◌≡◌, ◌==◌, ◌∙◌, sym, ap, length, ℕ}
use Rattle.sorted_cells.proofs.Pushing.{counted}
use Rattle.sorted_cells.proofs.sorted.SortedCells.is_empty.Goals as goal

pub returns : goal.returns
returns g c =
    let none : c.is_empty.result ≡ (length c.args.self.now.cells.items == 0) = search rules in
    none ∙ ap (λ (n : ℕ). n == 0) (sym (counted 0 c.args.self.now.rows.items
    c.args.self.now.cells.items c.args.self.now.shared))
