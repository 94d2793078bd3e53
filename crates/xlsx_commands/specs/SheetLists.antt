-- What is listed of a sheet beside its cells, and why it isn't.
use Rattle.std.specs.Prelude.{◌≡◌, ◌⊎◌, ℕ, List, [], ◌∷◌, ◌++◌, Bool, true, false, codes, Option}
use Rattle.std.specs.Prelude.{Some}
use Rattle.std.specs.List.{flat_map}
use Rattle.cell_refs.specs.declared.dimensions.Dimensions.{Dimensions}
use Rattle.part_events.specs.Words.{Part}
use Rattle.list_lines.specs.Fields.{keyed, line, nothing, area, optional, word}
use Rattle.list_lines.specs.Inside.{LiesInWorksheet}
use Rattle.list_lines.specs.Lines.{area_line, comment_line, link_line}
use Rattle.list_lines.specs.declared.content.LineForm.{LineForm}
use Rattle.xlsx_error.specs.declared.error.XlsxError.{XlsxError}
use Rattle.xlsx_error.specs.declared.error.XlsxError.TheVariants.{WorksheetNotFound}
use Rattle.looks.specs.Words.{Look, LookCause, look_said}
use Rattle.xlsx_areas.specs.Hyperlinks.{Link, link_said}
use Rattle.xlsx_areas.specs.MergeErrors.{MergesCause}
use Rattle.xlsx_areas.specs.declared.hyperlink.Hyperlink.{Hyperlink}
use Rattle.xlsx_comments.specs.CommentParts.{CommentSaid, CommentsSaid, author_of}
use Rattle.xlsx_comments.specs.Comments.{sheet_comments_look}
use Rattle.xlsx_widths.specs.Widths.{BandSaid, WidthsSaid, sheet_widths_look}
use Rattle.xlsx_open.specs.Words.{Opening, OpensAs, OpeningCause}
use Rattle.xlsx_core.specs.Words.{merges_placed, named_sheet_look, PlacedCause, path_named}

-- the workbook opens, and the part of its first sheet of this name is at this path, if there is one
pub record OpensAt (parts : List Part) (name : List ℕ) (path : Option (List ℕ)) : Type 0 where
  pub opening : Opening
  pub opens : OpensAs parts opening
  pub named : path_named name opening.sheets ≡ path

-- the workbook opens, and this holds of its first sheet of this name, whose part is at a path
abbrev pub HasNamed : (Option (List ℕ) → List Part → Type 0) → List Part → List ℕ → Type 0
HasNamed has parts name = (path : Option (List ℕ)) × OpensAt parts name path × has path parts

-- why something isn't had of a sheet whose part is at a path
abbrev pub PathCause : Type 1
PathCause = Option (List ℕ) → List Part → XlsxError → Type 0

-- the workbook opens, and its first sheet of this name has this cause
abbrev pub HasNamedCause : PathCause → List Part → List ℕ → XlsxError → Type 0
HasNamedCause cause parts name error = HasNamed (λ path own. cause path own error) parts name

-- why something isn't had of the first sheet of a name; an opening is never refused because a sheet
-- isn't found
abbrev pub NamedCause : PathCause → List Part → List ℕ → XlsxError → Type 0
NamedCause cause parts name (WorksheetNotFound asked) =
    HasNamedCause cause parts name (WorksheetNotFound asked)
NamedCause cause parts name error =
    OpeningCause parts error ⊎ HasNamedCause cause parts name error

-- ---- what a look says

-- a look at the sheet of a name, whose part is at a path, if a sheet has the name
abbrev pub NamedLook : Type 0 → Type 1
NamedLook A = List ℕ → Option (List ℕ) → Look A

-- the workbook opens, and a look at its first sheet of this name says this
abbrev pub HasNamedLook : {A : Type 0} → NamedLook A → List Part → List ℕ → A → Type 0
HasNamedLook look parts name said =
    HasNamed (λ path own. look_said (look name path) own ≡ Some said) parts name

-- why a look at a sheet says nothing, whose part is at a path
abbrev pub LookPathCause : {A : Type 0} → NamedLook A → List ℕ → PathCause
LookPathCause look name path parts error = LookCause (look name path) parts error

-- why a look at the sheet of a name is refused
abbrev pub NamedLookCause : {A : Type 0} → NamedLook A → List Part → List ℕ → XlsxError → Type 0
NamedLookCause look parts name error = NamedCause (LookPathCause look name) parts name error

-- the workbook opens, and this is what is printed of what a look at its first sheet of this name
-- says
pub record AreLookLines {A : Type 0} (look : NamedLook A) (printed : A → List ℕ)
    (parts : List Part) (name lines : List ℕ) : Type 0 where
  pub said : A
  pub has : HasNamedLook look parts name said
  pub listed : lines ≡ printed said

-- ---- merged cells

-- the workbook opens, and its first sheet of this name has these merged cells
abbrev pub HasMerges : List Part → List ℕ → List Dimensions → Type 0
HasMerges parts name areas = HasNamed (λ path own. merges_placed path own ≡ Some areas) parts name

-- why the merged cells of a sheet aren't had, whose part is at a path
abbrev pub MergesPathCause : List ℕ → PathCause
MergesPathCause name path parts error = PlacedCause name path MergesCause parts error

-- why the merged cells of the sheet of a name are refused
abbrev pub NamedMergesCause : List Part → List ℕ → XlsxError → Type 0
NamedMergesCause parts name error = NamedCause (MergesPathCause name) parts name error

-- the lines of merged cells
abbrev pub merge_lines : LineForm → List Dimensions → List ℕ
merge_lines form areas = flat_map (area_line form) areas

-- the workbook opens, and these are the lines of the merged cells of its first sheet of this name
pub record AreMergeLines (form : LineForm) (parts : List Part) (name lines : List ℕ) : Type 0 where
  pub areas : List Dimensions
  pub has : HasMerges parts name areas
  pub listed : lines ≡ merge_lines form areas

-- ---- links

-- the line of a link by its fields: its cells, where it leads, what is shown, and its tip
abbrev pub line_of_link : LineForm → Link → List ℕ
line_of_link form own =
    link_line form own.range own.target own.location own.displayed_text own.tooltip

-- a line for each link, in order
abbrev pub link_lines : LineForm → List Link → List ℕ
link_lines form links = flat_map (line_of_link form) links

-- the cells of a link lie in a worksheet
abbrev pub IsLinkInside : Link → Type 0
IsLinkInside own = LiesInWorksheet own.range

-- a link that is kept lies in a worksheet
abbrev pub IsKeptInside : Hyperlink → Type 0
IsKeptInside own = IsLinkInside (link_said own)

-- ---- comments

-- a look at the comments of the sheet of a name, part by part
abbrev pub named_comments : List ℕ → Option (List ℕ) → Look (List CommentsSaid)
named_comments name path = named_sheet_look sheet_comments_look name path

-- the line of a comment of a part
abbrev pub line_of_comment : LineForm → CommentsSaid → CommentSaid → List ℕ
line_of_comment form part own = comment_line form own.position (author_of part own) own.text

-- the lines of the comments of a part
abbrev pub part_lines : LineForm → CommentsSaid → List ℕ
part_lines form part = flat_map (line_of_comment form part) part.comments

-- the lines of the comments of all parts of a sheet
abbrev pub comment_lines : LineForm → List CommentsSaid → List ℕ
comment_lines form all = flat_map (part_lines form) all

-- ---- widths

-- a look at the widths of the sheet of a name
abbrev pub named_widths : List ℕ → Option (List ℕ) → Look WidthsSaid
named_widths name path = named_sheet_look sheet_widths_look name path

-- the word for columns or rows that are hidden, or for others
abbrev pub visibility_word : Bool → List ℕ
visibility_word true = codes "hidden"
visibility_word false = codes "visible"

-- the line of columns or rows: their area, the width of each column, and whether they are hidden
abbrev pub band_line : LineForm → BandSaid → List ℕ
band_line form own =
    line form
    (keyed (codes "area") (area own.area) ∷ keyed (codes "width") (optional own.width)
    ∷ keyed (codes "visibility") (word (visibility_word own.is_hidden)) ∷ [])
    nothing

-- a line for each, in order
abbrev pub band_lines : LineForm → List BandSaid → List ℕ
band_lines form bands = flat_map (band_line form) bands

-- the lines of columns, and behind them those of hidden rows
abbrev pub width_lines : LineForm → WidthsSaid → List ℕ
width_lines form own = band_lines form own.columns ++ band_lines form own.hidden_rows
