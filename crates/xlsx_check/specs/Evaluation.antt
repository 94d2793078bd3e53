-- What a formula comes to, by the values that its cells have.
use Rattle.std.specs.Prelude.{ℕ, ◌^◌, ◌==◌, ◌&&◌, not, nat_abs, int_lt, Bool, if◌then◌else◌, List}
use Rattle.std.specs.Prelude.{map, ℤ, pos, ◌+ℤ◌, ◌-ℤ◌, ◌*ℤ◌, neg_ℤ, Option, Some, None, unwrap_or}
use Rattle.std.specs.FinMap.{find}
use Rattle.std.specs.List.{filter, flat_map, fold}
use Rattle.std.specs.Ordering.{int_cmp, is_lt, is_eq, is_gt}
use Rattle.std.specs.declared.cmp.Ordering.{Ordering}
use Rattle.cell_refs.specs.Words.{position_cmp, is_in_area}
use Rattle.cell_refs.specs.declared.dimensions.Dimensions.{Dimensions}
use Rattle.cell_data.specs.Words.{CellValue, nothing, integer, number, time, failure}
use Rattle.decimals.specs.Words.{has_bits, decimal_from}
use Rattle.formula_shift.specs.declared.reference.Reference.{Reference}
use Rattle.formula_shift.specs.Words.{area_named}
use Rattle.xlsx_check.specs.declared.token.Comparison.{Comparison}
use Rattle.xlsx_check.specs.declared.token.Comparison.TheVariants.{Equal, Unequal, Below, Above}
use Rattle.xlsx_check.specs.declared.token.Comparison.TheVariants.{UpTo, From}
use Rattle.xlsx_check.specs.Tokens.{formula_tokens}
use Rattle.xlsx_check.specs.Trees.{Tree, literal, cell, total, negated, grouped, added, less}
use Rattle.xlsx_check.specs.Trees.{product, compared, formula_tree}

-- what a tree comes to: a number, or a boolean, or such a one that is past the limits; or
-- nothing, where something in it isn't computed
pub data Denoted : Type 0 where
  a_number : ℤ × ℤ → Denoted
  a_truth : Bool → Denoted
  number_past : Denoted
  truth_past : Denoted
  unsupported : Denoted

-- a number, or that it is past what is kept of one
abbrev pub number_or_past : Option (ℤ × ℤ) → Denoted
number_or_past (Some n) = a_number n
number_or_past None = number_past

-- the number of this whole number and this power, where the whole number fits that is tested
abbrev pub if_fits : ℤ → ℤ × ℤ → Denoted
if_fits whole n = if has_bits 127 whole then number_or_past (decimal_from n) else number_past

-- a number of a formula is 0
abbrev pub is_zero : ℤ × ℤ → Bool
is_zero n = nat_abs n.0 == 0

-- the lower one of two powers
abbrev pub lower : ℤ → ℤ → ℤ
lower a b = if int_lt a b then a else b

-- the whole number that takes ten to this power, which is no higher than its own
abbrev pub taken_to : ℤ → ℤ × ℤ → ℤ
taken_to power n = n.0 *ℤ pos (10 ^ nat_abs (n.1 -ℤ power))

-- the number with the other sign
abbrev pub negative_of : ℤ × ℤ → Denoted
negative_of n = if_fits (neg_ℤ n.0) (neg_ℤ n.0, n.1)

-- the number of a whole number that may be past the limits
abbrev pub from_whole : Option ℤ → ℤ → Denoted
from_whole None power = number_past
from_whole (Some whole) power = number_or_past (decimal_from (whole, power))

-- what comes of two whole numbers of one power, where both fit
abbrev pub if_both_fit : ℤ → ℤ → ℤ → ℤ → Denoted
if_both_fit power a b whole =
    if has_bits 127 a && has_bits 127 b then if_fits whole (whole, power) else number_past

-- the sum of two numbers that are taken to the same power
abbrev pub sum_at : ℤ → ℤ → ℤ → Denoted
sum_at power a b = if_both_fit power a b (a +ℤ b)

-- the difference of two numbers that are taken to the same power
abbrev pub difference_at : ℤ → ℤ → ℤ → Denoted
difference_at power a b = if_both_fit power a b (a -ℤ b)

-- the sum of two numbers, exactly, or that it is past what is kept
abbrev pub sum_of : ℤ × ℤ → ℤ × ℤ → Denoted
sum_of a b =
    if is_zero b then a_number a
    else (if is_zero a then a_number b
    else sum_at (lower a.1 b.1) (taken_to (lower a.1 b.1) a) (taken_to (lower a.1 b.1) b))

-- the difference of two numbers, exactly, or that it is past what is kept
abbrev pub difference_of : ℤ × ℤ → ℤ × ℤ → Denoted
difference_of a b =
    if is_zero b then a_number a
    else (if is_zero a then negative_of b
    else difference_at (lower a.1 b.1) (taken_to (lower a.1 b.1) a) (taken_to (lower a.1 b.1) b))

-- the product of two numbers, exactly, or that it is past what is kept
abbrev pub product_of : ℤ × ℤ → ℤ × ℤ → Denoted
product_of a b = if_fits (a.0 *ℤ b.0) (a.0 *ℤ b.0, a.1 +ℤ b.1)

-- the first number less the second, as a whole number with its sign
abbrev pub gap : ℤ × ℤ → ℤ × ℤ → ℤ
gap a b = taken_to (lower a.1 b.1) a -ℤ taken_to (lower a.1 b.1) b

-- a comparison holds of two numbers of which the first stands so to the second
abbrev pub holds_by : Comparison → Ordering → Bool
holds_by Equal order = is_eq order
holds_by Unequal order = not (is_eq order)
holds_by Below order = is_lt order
holds_by Above order = is_gt order
holds_by UpTo order = not (is_gt order)
holds_by From order = not (is_lt order)

-- a comparison holds of two numbers, by the first less the second
abbrev pub holds : Comparison → ℤ → Bool
holds comparison gap = holds_by comparison (int_cmp gap (pos 0))

-- what becomes of two numbers; what isn't computed outranks what is past the limits
abbrev pub of_two : (ℤ × ℤ → ℤ × ℤ → Denoted) → Denoted → Denoted → Denoted → Denoted
of_two f past (a_number a) (a_number b) = f a b
of_two f past (a_number a) number_past = past
of_two f past number_past (a_number b) = past
of_two f past number_past number_past = past
of_two f past _ _ = unsupported

-- what a sign makes of what stands behind it
abbrev pub of_one : Denoted → Denoted
of_one (a_number n) = negative_of n
of_one number_past = number_past
of_one _ = unsupported

-- the number that a cell's value is in a formula
abbrev pub number_in : CellValue → Denoted
number_in nothing = a_number (pos 0, pos 0)
number_in (integer n) = number_or_past (decimal_from (n, pos 0))
number_in (number n) = a_number n
number_in (time days kind is_1904) = a_number days
number_in _ = unsupported

-- a total, with a value more; texts, booleans and ISO dates are passed over
abbrev pub total_with_value : Denoted → CellValue → Denoted
total_with_value so_far (integer n) = of_two sum_of number_past so_far (number_in (integer n))
total_with_value so_far (number n) = of_two sum_of number_past so_far (number_in (number n))
total_with_value so_far (time days kind is_1904) =
    of_two sum_of number_past so_far (number_in (time days kind is_1904))
total_with_value so_far (failure error) = unsupported
total_with_value so_far _ = so_far

-- the values of the used cells of an area, row by row
abbrev pub values_within : List ((ℕ × ℕ) × CellValue) → Dimensions → List CellValue
values_within values area =
    map (λ entry. entry.1) (filter (λ entry. is_in_area area entry.0) values)

-- the sum of the values in the areas of these references
abbrev pub total_of : List ((ℕ × ℕ) × CellValue) → List Reference → Denoted
total_of values rs =
    fold total_with_value (a_number (pos 0, pos 0))
    (flat_map (λ r. values_within values (area_named r)) rs)

-- the value at a position, or nothing
abbrev pub value_looked_up : List ((ℕ × ℕ) × CellValue) → ℕ × ℕ → CellValue
value_looked_up values position = unwrap_or (find position_cmp position values) nothing

-- what a tree comes to, over the values of cells
abbrev pub result_of : List ((ℕ × ℕ) × CellValue) → Tree → Denoted
result_of values (literal n) = a_number n
result_of values (cell r) = number_in (value_looked_up values (area_named r).start)
result_of values (total rs) = total_of values rs
result_of values (negated t) = of_one (result_of values t)
result_of values (grouped t) = result_of values t
result_of values (added l r) =
    of_two sum_of number_past (result_of values l) (result_of values r)
result_of values (less l r) =
    of_two difference_of number_past (result_of values l) (result_of values r)
result_of values (product l r) =
    of_two product_of number_past (result_of values l) (result_of values r)
result_of values (compared c l r) =
    of_two (λ a b. a_truth (holds c (gap a b))) truth_past (result_of values l) (result_of values r)

-- what a tree comes to over the values of cells, where a formula has one
abbrev pub of_tree : List ((ℕ × ℕ) × CellValue) → Option Tree → Denoted
of_tree values (Some t) = result_of values t
of_tree values None = unsupported

-- what a formula comes to, by its text and the values of cells
unfoldable pub denotation : List ((ℕ × ℕ) × CellValue) → List ℕ → Denoted
denotation values formula = of_tree values (formula_tree (formula_tokens formula))
