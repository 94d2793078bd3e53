-- Packages that have the same parts where a sheet is read from.
use Rattle.std.specs.Prelude.{◌≡◌, ℕ, List, codes, Some}
use Rattle.part_events.specs.Words.{Part, part_of}
use Rattle.xlsx_workbook.specs.Words.{workbook_part, relationships_part, strings_part, theme_part}
use Rattle.xlsx_workbook.specs.Words.{styles_part}
use Rattle.xlsx_open.specs.Words.{Opening, OpensAs, HasPath}
use Rattle.xlsx_core.specs.SheetReading.{path_named}

-- two packages have the same events in the part of this name, or neither has such a part
abbrev pub HaveSamePart : List Part → List Part → List ℕ → Type 0
HaveSamePart one two name = part_of one name ≡ part_of two name

-- two packages have the same workbook at this path, with the same relationships, shared strings,
-- theme and styles
pub record HaveSameBook (one two : List Part) (path : List ℕ) : Type 0 where
  pub relationships : HaveSamePart one two (relationships_part path)
  pub workbook : HaveSamePart one two (workbook_part path)
  pub strings : HaveSamePart one two (strings_part path)
  pub theme : HaveSamePart one two (theme_part path)
  pub styles : HaveSamePart one two (styles_part path)

-- Two packages have the same parts where the sheet of this name is read from: the package's
-- relationships, the workbook that these lead to, and the part of the first sheet of this name in
-- it. Other parts, and the order of all, may differ.
pub record HaveSameSheet (one two : List Part) (name : List ℕ) : Type 0 where
  pub root : HaveSamePart one two (codes "_rels/.rels")
  pub book : (path : List ℕ) → HasPath one path → HaveSameBook one two path
  pub sheet :
      (opening : Opening) (path : List ℕ) → OpensAs one opening →
      path_named name opening.sheets ≡ Some path → HaveSamePart one two path
