use Rattle.std.proofs.Common.{◌≡◌, ◌≤◌, ℕ, List, length, drop}
use Rattle.std.specs.BTreeMap.{get_by_text}
use Rattle.xlsx_core.specs.Opened.{path_listed, path_lent}
use Rattle.xlsx_core.proofs.worksheet_list.first_paths.Given as goal

abbrev pub invariant-places : goal.invariant-places
invariant-places l = record {
  sheets : l.place ≤ length l.sheets;
  paths : l.place ≤ length l.paths;
  found : (name : List ℕ) → path_lent (get_by_text l.firsts name)
      ≡ path_listed name (drop l.place l.sheets) (drop l.place l.paths);
}

abbrev pub decreases-places : goal.decreases-places
decreases-places l = l.place
