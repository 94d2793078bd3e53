-- How a reader keeps the names of the open elements: one text with all of them, and the length of
-- each.
use Rattle.std.specs.Prelude.{ℕ, ◌-◌, List, [], ◌∷◌, length, take, drop, Bool, false}
use Rattle.std.specs.Str.{bytes_eq}

-- the names, the innermost first, where their lengths are listed the innermost first
abbrev pub names_cut : List ℕ → List ℕ → List (List ℕ)
names_cut text [] = []
names_cut text (size ∷ sizes) =
    drop (length text - size) text ∷ names_cut (take (length text - size) text) sizes

-- the innermost of the names is this one
abbrev pub is_innermost : List ℕ → List (List ℕ) → Bool
is_innermost name [] = false
is_innermost name (first ∷ names) = bytes_eq name first
