-- The formulas of a workbook, gathered within limits.
use Rattle.std.specs.Prelude.{◌≡◌, ℕ, ◌+◌, ◌<◌, ◌≤◌, ◌⊎◌, ◌||◌, ◌&&◌, nat_lt, nat_le, Bool, true}
use Rattle.std.specs.Prelude.{false, List, [], ◌∷◌, ◌++◌, length, map, replicate, sum_by, Result}
use Rattle.std.specs.Prelude.{MatchResult}
use Rattle.std.specs.List.{list_all, slice_range}
use Rattle.cell_refs.specs.Words.{cell_count}
use Rattle.cell_refs.specs.declared.dimensions.Dimensions.{Dimensions}
use Rattle.book_names.specs.Book.{Book}
use Rattle.xlsx_graph.specs.Graph.{GraphFormula}
use Rattle.xlsx_graph.specs.Kept.{Kept, WhenTooLarge}
use Rattle.xlsx_graph.specs.Naming.{OpenText, named_in, weight}
use Rattle.xlsx_graph.specs.declared.error.NamingError.{NamingError}
use Rattle.xlsx_graph.specs.declared.named.BookArea.{BookArea}
use Rattle.xlsx_graph.specs.declared.named.Standing.{Standing}
use Rattle.xlsx_graph.specs.declared.workbook_graph.Placed.{Placed}
use Rattle.xlsx_graph.specs.declared.workbook_graph.TheConstants.{MAX_COVERED, MAX_NAMED, MAX_READ}

-- What is gathered: formulas of a workbook that has so many defined names; how much more may be
-- named, an area as often as it has sheets; how much more may be read of names; and how many more
-- cells may be covered.
pub record Gathered : Type 0 where
  pub formulas : List GraphFormula
  pub names : ℕ
  pub named_left : ℕ
  pub read_left : ℕ
  pub covered_left : ℕ

-- no formulas yet of a workbook that has so many defined names
abbrev pub nothing_gathered : ℕ → Gathered
nothing_gathered names = record {
  formulas = [];
  names = names;
  named_left = MAX_NAMED;
  read_left = MAX_READ;
  covered_left = MAX_COVERED;
}

-- a formula by its cell, the cells that it covers, and its text
abbrev pub gathered_formula : Book → Standing → Dimensions → List ℕ → GraphFormula
gathered_formula book cell covers text =
    record { cell = cell; covers = covers; found = named_in book cell text }

-- a formula was put behind what was gathered
pub record Gathers (old new : Gathered) (f : GraphFormula) : Type 0 where
  pub formulas : new.formulas ≡ old.formulas ++ f ∷ []
  pub names : new.names ≡ old.names
  pub named : new.named_left + weight f.found ≡ old.named_left
  pub read : new.read_left + f.found.read ≡ old.read_left
  pub covered : new.covered_left + cell_count f.covers ≡ old.covered_left

-- the formulas that were gathered stay; there may be less room for more
pub record Stays (old new : Gathered) : Type 0 where
  pub formulas : new.formulas ≡ old.formulas
  pub names : new.names ≡ old.names

-- a formula takes more room than there is left
abbrev pub IsOver : Gathered → GraphFormula → Type 0
IsOver gathered f =
    (gathered.named_left < weight f.found)
    ⊎ ((gathered.read_left < f.found.read) ⊎ (gathered.covered_left < cell_count f.covers))

-- What a call answers that puts a formula behind what was gathered: it is refused for a limit where
-- the formula takes more room than there is.
abbrev pub GathersOr : {T : Type 0} → Result T NamingError → Gathered → Gathered → GraphFormula →
    Type 0
GathersOr answer old new f =
    MatchResult answer (λ _. Gathers old new f) (λ e. WhenTooLarge e (IsOver old f))

-- ---- all formulas of a workbook

-- how much formulas name, an area as often as it has sheets
abbrev pub total_named : List GraphFormula → ℕ
total_named formulas = sum_by (λ f. weight f.found) formulas

-- how much is read of defined names for formulas
abbrev pub total_read : List GraphFormula → ℕ
total_read formulas = sum_by (λ f. f.found.read) formulas

-- how many cells formulas cover, each as often as it is covered
abbrev pub total_covered : List GraphFormula → ℕ
total_covered formulas = sum_by (λ f. cell_count f.covers) formulas

-- formulas take more room together than there is for those of a workbook
unfoldable pub is_too_large : List GraphFormula → Bool
is_too_large formulas =
    nat_lt MAX_NAMED (total_named formulas)
    || (nat_lt MAX_READ (total_read formulas) || nat_lt MAX_COVERED (total_covered formulas))

-- the room that is left is that of a workbook without what its formulas take
pub record IsMeasured (gathered : Gathered) : Type 0 where
  pub named : gathered.named_left + total_named gathered.formulas ≡ MAX_NAMED
  pub read : gathered.read_left + total_read gathered.formulas ≡ MAX_READ
  pub covered : gathered.covered_left + total_covered gathered.formulas ≡ MAX_COVERED

-- ---- what the code holds

-- a formula among all that is named
abbrev pub formula_in : List BookArea → List OpenText → Placed → GraphFormula
formula_in areas words p = record {
  cell = p.cell;
  covers = p.covers;
  found = record {
    areas = slice_range areas p.areas.0 p.areas.1;
    words = slice_range words p.words.0 p.words.1;
    read = p.read;
  };
}

-- the areas that a formula names lie among so many
abbrev pub lies_in_areas : ℕ → Placed → Bool
lies_in_areas areas p = nat_le p.areas.0 p.areas.1 && nat_le p.areas.1 areas

-- what a formula names lies among so many areas and words
abbrev pub lies_among : ℕ → ℕ → Placed → Bool
lies_among areas words p =
    lies_in_areas areas p && (nat_le p.words.0 p.words.1 && nat_le p.words.1 words)

-- what is known of all that is named, of the formulas, and of how many more cells may be covered:
-- what each formula names is there, no defined name is open, and no more than all may be covered
pub record AreGathered (kept : Kept) (placed : List Placed) (covered : ℕ) : Type 0 where
  pub within : list_all (lies_among (length kept.areas) (length kept.words)) placed ≡ true
  pub closed : kept.opened ≡ replicate (length kept.opened) false
  pub most : covered ≤ MAX_COVERED

-- what is gathered, of all that is named, of the formulas, and of how many more cells may be
-- covered
abbrev pub gathered_of : Kept → List Placed → ℕ → Gathered
gathered_of kept placed covered = record {
  formulas = map (formula_in kept.areas kept.words) placed;
  names = length kept.opened;
  named_left = kept.named_left;
  read_left = kept.read_left;
  covered_left = covered;
}
