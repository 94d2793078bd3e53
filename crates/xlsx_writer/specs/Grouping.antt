-- How groups are found: formulas by their places in the order of positions.
use Rattle.std.specs.Prelude.{◌≡◌, ℕ, ◌+◌, ◌<◌, ◌≤◌, ◌&&◌, nat_lt, Bool, true, false, List, []}
use Rattle.std.specs.Prelude.{length, slice_index, slice_index_or, if◌then◌else◌}
use Rattle.std.specs.Ordering.{is_lt}
use Rattle.std.specs.Str.{bytes_eq}
use Rattle.cell_refs.specs.Words.{position_cmp}
use Rattle.formula_shift.specs.Words.{moved, offset_between}
use Rattle.xlsx_writer.specs.Groups.{PlacedFormulas, is_same_position, group_head, group_end}
use Rattle.xlsx_writer.specs.declared.groups.FormulaForm.{FormulaForm}
use Rattle.xlsx_writer.specs.declared.groups.FormulaForm.TheVariants as form
use Rattle.xlsx_writer.specs.declared.groups.Member.{Member}

-- the formula at a place, with its position
abbrev pub formula_at_place : PlacedFormulas → ℕ → (ℕ × ℕ) × List ℕ
formula_at_place formulas place = slice_index_or formulas place ((0, 0), [])

-- a formula of a group by its position
abbrev pub member_entry : Member → (ℕ × ℕ) × List ℕ
member_entry member = (member.position, member.text.now)

-- the place of the head of a group's formula
abbrev pub member_head : Member → ℕ
member_head member = member.head

-- the position a row further down
abbrev pub row_below : ℕ × ℕ → ℕ × ℕ
row_below position = (position.0 + 1, position.1)

-- the formulas from one place up to another, each a row further down, stand before a position
abbrev pub ArePassed : PlacedFormulas → ℕ → ℕ → ℕ × ℕ → Type 0
ArePassed formulas from to position =
    (place : ℕ) → from ≤ place → place < to →
    is_lt (position_cmp (row_below (formula_at_place formulas place).0) position) ≡ true

-- the formula at a place, if there is one, and a row further down, doesn't stand before a position
abbrev pub StopsAt : PlacedFormulas → ℕ → ℕ × ℕ → Type 0
StopsAt formulas place position =
    place < length formulas →
    is_lt (position_cmp (row_below (formula_at_place formulas place).0) position) ≡ false

-- the places of heads aren't behind those of their formulas
abbrev pub AreUpTo : List ℕ → Type 0
AreUpTo heads = (place : ℕ) → place < length heads → slice_index heads place ≤ place

-- the formula at a place, moved to a position, is this text
abbrev pub moves_from : PlacedFormulas → ℕ → ℕ × ℕ → List ℕ → Bool
moves_from formulas place position text =
    let head = formula_at_place formulas place in
    bytes_eq text (moved head.1 (offset_between head.0 position))

-- a formula stands at a place, and right above a position
abbrev pub stands_above : PlacedFormulas → ℕ → ℕ × ℕ → Bool
stands_above formulas place position =
    nat_lt place (length formulas)
    && is_same_position (row_below (formula_at_place formulas place).0) position

-- The place of the head of the next formula behind these, whose heads are known: that of the
-- formula at a place, where it stands right above and the text of its head, moved, is this one;
-- else its own.
abbrev pub head_place : PlacedFormulas → List ℕ → ℕ → ℕ × ℕ → List ℕ → ℕ
head_place formulas heads above position text =
    if stands_above formulas above position
    && moves_from formulas (slice_index heads above) position text
    then slice_index heads above else length formulas

-- the places of the heads of the first formulas
pub record AreHeads (formulas : PlacedFormulas) (heads : List ℕ) : Type 0 where
  pub up_to : AreUpTo heads
  pub head : (place : ℕ) → place < length heads →
      (formula_at_place formulas (slice_index heads place)).0
      ≡ group_head formulas (formula_at_place formulas place).0

-- the last rows of the groups of formulas, each as if the formula were a head
abbrev pub AreLastRows : PlacedFormulas → List ℕ → Type 0
AreLastRows formulas rows =
    (place : ℕ) → place < length formulas →
    slice_index rows place ≡ group_end formulas (formula_at_place formulas place).0

-- how a formula is written, by whether it is its own head, its row, the last row of its group, and
-- the group's index
abbrev pub form_by : Bool → ℕ → ℕ → ℕ → FormulaForm
form_by is_head row last index =
    if is_head then (if nat_lt row last then form.Master last index else form.Plain)
    else form.Derived index

-- how many masters a formula is: one, or none
abbrev pub master_count : FormulaForm → ℕ
master_count (form.Master last index) = 1
master_count form.Plain = 0
master_count (form.Derived index) = 0
