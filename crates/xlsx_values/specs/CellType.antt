-- The type of a cell, by its `t`.
use Rattle.std.specs.Prelude.{ℕ, List, Bool, true, false, if◌then◌else◌, codes, Option, Some, None}
use Rattle.std.specs.Str.{bytes_eq}

-- the types of cells, as the attribute `t` tells them
pub data CellKind : Type 0 where
  untyped : CellKind
  of_number : CellKind
  of_shared : CellKind
  of_truth : CellKind
  of_error : CellKind
  of_text : CellKind
  of_date : CellKind
  of_inline : CellKind
  of_unknown : List ℕ → CellKind

-- the kind of cells that the text of their type names (ECMA-376 part 1, section 18.18.11)
abbrev pub kind_named : Option (List ℕ) → CellKind
kind_named None = untyped
kind_named (Some typ) =
    if bytes_eq typ (codes "n") then of_number
    else (if bytes_eq typ (codes "s") then of_shared
    else (if bytes_eq typ (codes "b") then of_truth
    else (if bytes_eq typ (codes "e") then of_error
    else (if bytes_eq typ (codes "str") then of_text
    else (if bytes_eq typ (codes "d") then of_date
    else (if bytes_eq typ (codes "inlineStr") then of_inline
    else (if bytes_eq typ (codes "is") then of_inline
    else of_unknown typ)))))))

-- the text of a `v` of this type is that of all its events
abbrev pub is_joined : CellKind → Bool
is_joined untyped = false
is_joined of_number = false
is_joined of_shared = false
is_joined of_truth = false
is_joined of_error = false
is_joined of_text = true
is_joined of_date = true
is_joined of_inline = false
is_joined (of_unknown typ) = true

-- the type of a cell is that of an inline string, for which no `v` counts
abbrev pub is_inline : CellKind → Bool
is_inline untyped = false
is_inline of_number = false
is_inline of_shared = false
is_inline of_truth = false
is_inline of_error = false
is_inline of_text = false
is_inline of_date = false
is_inline of_inline = true
is_inline (of_unknown typ) = false
