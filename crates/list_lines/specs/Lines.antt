-- The lines of lists: of each list the fields, under their keys.
use Rattle.std.specs.Prelude.{ℕ, List, [], ◌∷◌, codes, Option}
use Rattle.cell_refs.specs.declared.dimensions.Dimensions.{Dimensions}
use Rattle.list_lines.specs.Fields.{Field, keyed, line, nothing, texts, areas, word, text, marked}
use Rattle.list_lines.specs.Fields.{optional, position, area, optional_area}
use Rattle.list_lines.specs.declared.content.LineForm.{LineForm}
use Rattle.list_lines.specs.declared.content.LineForm.TheVariants.{Text}

-- the line of a sheet: its name, its type and its state, both in words
abbrev pub sheet_line : LineForm → List ℕ → List ℕ → List ℕ → List ℕ
sheet_line form name typ state =
    line form
    (keyed (codes "name") (text name) ∷ keyed (codes "type") (word typ)
    ∷ keyed (codes "state") (word state) ∷ [])
    nothing

-- the line of a text alone: of the name of a part
abbrev pub lone_text_line : List ℕ → List ℕ
lone_text_line own = line Text (keyed (codes "text") (text own) ∷ []) nothing

-- the line of a defined name: the name and what it stands for
abbrev pub name_line : LineForm → List ℕ → List ℕ → List ℕ
name_line form name formula =
    line form
    (keyed (codes "name") (text name) ∷ keyed (codes "formula") (text formula) ∷ []) nothing

-- the line of a pivot table: its sheet and its name
abbrev pub pivot_line : LineForm → List ℕ → List ℕ → List ℕ
pivot_line form sheet name =
    line form
    (keyed (codes "sheet") (text sheet) ∷ keyed (codes "name") (text name) ∷ []) nothing

-- the line of an area, such as one of merged cells
abbrev pub area_line : LineForm → Dimensions → List ℕ
area_line form own = line form (keyed (codes "area") (area own) ∷ []) nothing

-- the line of a link: its area, its target, its location, its displayed text and its tooltip
abbrev pub link_line :
    LineForm → Dimensions → Option (List ℕ) → Option (List ℕ) → Option (List ℕ)
    → Option (List ℕ) → List ℕ
link_line form own target location displayed tooltip =
    line form
    (keyed (codes "area") (area own) ∷ keyed (codes "target") (optional target)
    ∷ keyed (codes "location") (optional location)
    ∷ keyed (codes "displayed") (optional displayed)
    ∷ keyed (codes "tooltip") (optional tooltip) ∷ [])
    nothing

-- the line of a comment: the position of its cell, its author and its text
abbrev pub comment_line : LineForm → ℕ × ℕ → Option (List ℕ) → List ℕ → List ℕ
comment_line form cell author own =
    line form
    (keyed (codes "cell") (position cell) ∷ keyed (codes "author") (optional author)
    ∷ keyed (codes "text") (marked (codes "=") own) ∷ [])
    nothing

-- the line of a property, by the name of its field and its text
abbrev pub property_line : LineForm → List ℕ → List ℕ → List ℕ
property_line form name own =
    line form
    (keyed (codes "name") (word name) ∷ keyed (codes "text") (marked (codes "=") own) ∷ [])
    nothing

-- the line of a property that a user named
abbrev pub custom_line : LineForm → List ℕ → List ℕ → List ℕ
custom_line form name own =
    line form
    (keyed (codes "custom") (marked (codes "custom:") name)
    ∷ keyed (codes "text") (marked (codes "=") own) ∷ [])
    nothing

-- the line of a table: its name, that of its sheet, the area of its data and the names of its
-- columns
abbrev pub table_line :
    LineForm → List ℕ → List ℕ → Option Dimensions → List (List ℕ) → List ℕ
table_line form name sheet own columns =
    line form
    (keyed (codes "name") (text name) ∷ keyed (codes "sheet") (text sheet)
    ∷ keyed (codes "area") (optional_area own) ∷ [])
    (texts (codes "columns") columns)

-- the line of a position alone
abbrev pub position_line : ℕ × ℕ → List ℕ
position_line own = line Text (keyed (codes "cell") (position own) ∷ []) nothing

-- the line of a position and areas: of a cell and what its formula names
abbrev pub position_areas_line : ℕ × ℕ → List Dimensions → List ℕ
position_areas_line own named =
    line Text (keyed (codes "cell") (position own) ∷ []) (areas (codes "areas") named)
