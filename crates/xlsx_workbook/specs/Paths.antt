-- The paths of a workbook's parts.
use Rattle.std.specs.Prelude.{ℕ, List, ◌++◌, length, ◌==◌, if◌then◌else◌, codes, unwrap_or}
use Rattle.xlsx_relationships.specs.Words.{behind_slash, last_piece, folder_of}

-- the name of the workbook's part in its folder
abbrev pub name_in_folder : List ℕ → List ℕ
name_in_folder path = if length (last_piece path) == 0 then codes "workbook.xml"
    else last_piece path

-- the path of the workbook's own part
abbrev pub workbook_part : List ℕ → List ℕ
workbook_part path = folder_of path ++ name_in_folder path

-- the path of the relationships of the workbook at this path
abbrev pub relationships_part : List ℕ → List ℕ
relationships_part path = ((folder_of path ++ codes "_rels/") ++ name_in_folder path)
    ++ codes ".rels"

-- the path of the shared strings beside the workbook at this path
abbrev pub strings_part : List ℕ → List ℕ
strings_part path = folder_of path ++ codes "sharedStrings.xml"

-- the path of the theme beside the workbook at this path
abbrev pub theme_part : List ℕ → List ℕ
theme_part path = folder_of path ++ codes "theme/theme1.xml"

-- the path of the styles beside the workbook at this path
abbrev pub styles_part : List ℕ → List ℕ
styles_part path = folder_of path ++ codes "styles.xml"

-- the path of a sheet's part, by the target of its relationship
abbrev pub sheet_part : List ℕ → List ℕ → List ℕ
sheet_part folder target = unwrap_or (behind_slash target) (folder ++ target)
