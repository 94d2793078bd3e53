-- How the content of a cell is placed, and what of it is protected.
use Rattle.std.specs.Prelude.{ℕ, ◌==◌, List, [], ◌∷◌, get_or, true, false, if◌then◌else◌, codes}
use Rattle.std.specs.Prelude.{Option, Some, None, Result, Ok, Err}
use Rattle.std.specs.Option.{option_and_then}
use Rattle.attr_text.specs.Words.{lookup}
use Rattle.attr_text.specs.declared.fault.AttrFault.{AttrFault}
use Rattle.part_events.specs.Words.{Tag}
use Rattle.cell_styles.specs.declared.alignment.Alignment.{Alignment}
use Rattle.cell_styles.specs.declared.alignment.HorizontalAlignment.{HorizontalAlignment}
use Rattle.cell_styles.specs.declared.alignment.HorizontalAlignment.TheVariants as horizontal
use Rattle.cell_styles.specs.declared.alignment.TextRotation.{TextRotation}
use Rattle.cell_styles.specs.declared.alignment.TextRotation.TheVariants as rotation
use Rattle.cell_styles.specs.declared.alignment.VerticalAlignment.{VerticalAlignment}
use Rattle.cell_styles.specs.declared.alignment.VerticalAlignment.TheVariants as vertical
use Rattle.cell_styles.specs.declared.protection.Protection.{Protection}
use Rattle.xlsx_sections.specs.Words.{named, number_below}
use Rattle.xlsx_styles.specs.Texts.{truth_or}

-- how a text lies in its cell from side to side, as an attribute names it (ECMA-376 part 1, section
-- 18.18.40)
abbrev pub horizontal_named : Option (List ℕ) → HorizontalAlignment
horizontal_named None = horizontal.General
horizontal_named (Some text) = named (
    (codes "left", horizontal.Left) ∷ (codes "center", horizontal.Center)
    ∷ (codes "centerContinuous", horizontal.CenterContinuous) ∷ (codes "right", horizontal.Right)
    ∷ (codes "justify", horizontal.Justify) ∷ (codes "distributed", horizontal.Distributed)
    ∷ (codes "fill", horizontal.Fill) ∷ []) horizontal.General text

-- how a text lies in its cell from top to bottom, as an attribute names it (ECMA-376 part 1,
-- section 18.18.88)
abbrev pub vertical_named : Option (List ℕ) → VerticalAlignment
vertical_named None = vertical.Bottom
vertical_named (Some text) = named (
    (codes "top", vertical.Top) ∷ (codes "center", vertical.Center)
    ∷ (codes "justify", vertical.Justify) ∷ (codes "distributed", vertical.Distributed) ∷ [])
    vertical.Bottom text

-- the rotation of a text by its degrees; 255 stands for letters one below the other
abbrev pub rotation_by : Option ℕ → TextRotation
rotation_by None = rotation.None
rotation_by (Some n) = if n == 255 then rotation.Stacked else rotation.Degrees n

-- the rotation that a text tells; without a number none
abbrev pub rotation_of : Option (List ℕ) → TextRotation
rotation_of text = rotation_by (option_and_then (number_below 65536) text)

-- the indent that a text tells, below 256
abbrev pub indent_of : Option (List ℕ) → Option ℕ
indent_of text = option_and_then (number_below 256) text

-- the alignment that the texts of its attributes tell
abbrev pub alignment_by : Result (List (Option (List ℕ))) AttrFault → Result Alignment AttrFault
alignment_by (Err fault) = Err fault
alignment_by (Ok texts) = Ok (record {
  horizontal = horizontal_named (get_or texts 0 None);
  vertical = vertical_named (get_or texts 1 None);
  text_rotation = rotation_of (get_or texts 3 None);
  wrap_text = truth_or false (get_or texts 2 None);
  indent = indent_of (get_or texts 4 None);
  shrink_to_fit = truth_or false (get_or texts 5 None);
})

-- the attributes that tell an alignment
abbrev pub alignment_keys : List (List ℕ)
alignment_keys =
    codes "horizontal" ∷ codes "vertical" ∷ codes "wrapText" ∷ codes "textRotation"
    ∷ codes "indent" ∷ codes "shrinkToFit" ∷ []

-- the alignment that a start says (ECMA-376 part 1, section 18.8.1)
abbrev pub alignment_of : Tag → Result Alignment AttrFault
alignment_of tag = alignment_by (lookup alignment_keys tag.attributes)

-- the protection that the texts of its attributes tell
abbrev pub protection_by : Result (List (Option (List ℕ))) AttrFault → Result Protection AttrFault
protection_by (Err fault) = Err fault
protection_by (Ok texts) = Ok (record {
  locked = truth_or true (get_or texts 0 None);
  hidden = truth_or false (get_or texts 1 None);
})

-- the protection that a start says (ECMA-376 part 1, section 18.8.33)
abbrev pub protection_of : Tag → Result Protection AttrFault
protection_of tag =
    protection_by (lookup (codes "locked" ∷ codes "hidden" ∷ []) tag.attributes)
