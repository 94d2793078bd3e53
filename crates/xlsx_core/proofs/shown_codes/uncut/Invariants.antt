use Rattle.std.proofs.Common.{◌≡◌, ℕ, ◌+◌, ◌-◌, ◌≤◌, List, length}
use Rattle.xlsx_core.specs.ShownCodes.{AreCutFrom}
use Rattle.xlsx_core.proofs.shown_codes.uncut.Given as goal

abbrev pub invariant-places : goal.invariant-places
invariant-places l = record {
  count : l.count ≡ length l.shared.style_sheet.styles.items;
  within : length l.cut.items ≤ l.count + 1;
  none : (codes : ℕ → List ℕ) → AreCutFrom codes l.cut.items;
}

abbrev pub decreases-places : goal.decreases-places
decreases-places l = (l.count + 1) - length l.cut.items
