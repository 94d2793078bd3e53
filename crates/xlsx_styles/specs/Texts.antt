-- What the texts of attributes name: booleans, and values of a table.
use Rattle.std.specs.Prelude.{ℕ, List, Bool, ◌||◌, not, codes, Option, Some, None}
use Rattle.std.specs.Str.{bytes_eq}

-- the text of a boolean tells true: it is neither `0` nor `false`
abbrev pub is_boolean_true : List ℕ → Bool
is_boolean_true text = not (bytes_eq text (codes "0") || bytes_eq text (codes "false"))

-- a text tells true, or where there is no text `other`
abbrev pub truth_or : Bool → Option (List ℕ) → Bool
truth_or other None = other
truth_or other (Some text) = is_boolean_true text
