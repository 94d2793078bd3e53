-- The comments of a sheet (ECMA-376 part 1, section 18.7), and which refusals they have.
use Rattle.std.specs.Prelude.{◌≡◌, ◌⊎◌, ⊤, ℕ, List, [], ◌∷◌, codes}
use Rattle.part_events.specs.declared.fault.XmlFault.TheVariants.{Break, Entity}
use Rattle.xlsx_error.specs.declared.error.XlsxError.{XlsxError}
use Rattle.xlsx_error.specs.declared.error.XlsxError.TheVariants.{OutOfMemory, Io, Xml, XmlAttr}
use Rattle.xlsx_error.specs.declared.error.XlsxError.TheVariants.{XmlEof, Alphanumeric}
use Rattle.xlsx_error.specs.declared.error.XlsxError.TheVariants.{RangeWithoutRowComponent}
use Rattle.xlsx_error.specs.declared.error.XlsxError.TheVariants.{RangeWithoutColumnComponent}
use Rattle.xlsx_error.specs.declared.error.XlsxError.TheVariants.{ColumnNumberOverflow}
use Rattle.xlsx_error.specs.declared.error.XlsxError.TheVariants.{RowNumberOverflow, DimensionCount}
use Rattle.xlsx_sections.specs.Words.{Ask}
use Rattle.looks.specs.Words.{Look, asks, look_ask, mapped, section_or}
use Rattle.xlsx_relationships.specs.Words.{each_related, IsRelatedError}
use Rattle.xlsx_comments.specs.CommentParts.{CommentEntry, CommentsSaid, entries_in, end_in_entries}
use Rattle.xlsx_comments.specs.CommentParts.{gathered, told_in_comment}

-- the refusals that the start of a comment can have
abbrev pub IsCommentStartError : XlsxError → Type 0
IsCommentStartError (XmlAttr fault) = ⊤
IsCommentStartError (Alphanumeric byte) = ⊤
IsCommentStartError RangeWithoutRowComponent = ⊤
IsCommentStartError RangeWithoutColumnComponent = ⊤
IsCommentStartError ColumnNumberOverflow = ⊤
IsCommentStartError RowNumberOverflow = ⊤
IsCommentStartError (DimensionCount count) = ⊤
IsCommentStartError _ = ⊥

-- how the end of the part is told in comments
abbrev pub IsCommentsEnd : List ℕ → Type 0
IsCommentsEnd name =
    (name ≡ codes "comments") ⊎ (name ≡ codes "author") ⊎ (name ≡ codes "t")
    ⊎ (name ≡ codes "comment")

-- the refusal of a comment, where that of its text as a string is this one
abbrev pub IsToldInComment : XlsxError → XlsxError → Type 0
IsToldInComment (XmlEof element) (XmlEof told) = told.now ≡ told_in_comment element.now
IsToldInComment (XmlEof element) told = ⊥
IsToldInComment error told = told ≡ error

-- the refusals that all comments of a part can have, whatever the package tells
abbrev pub IsCommentsError : XlsxError → Type 0
IsCommentsError OutOfMemory = ⊤
IsCommentsError Io = ⊤
IsCommentsError (Xml (Break at why)) = ⊤
IsCommentsError (Xml (Entity at)) = ⊤
IsCommentsError (XmlEof element) = IsCommentsEnd element.now
IsCommentsError error = IsCommentStartError error

-- the type of the relationships from a sheet to its comments
abbrev pub comments_type : List ℕ
comments_type =
    codes "http://schemas.openxmlformats.org/officeDocument/2006/relationships/comments"

-- the names and the comments of one part, as a list
abbrev pub one_gathered : List CommentEntry → List CommentsSaid
one_gathered entries = gathered entries ∷ []

-- a refusal that reading the comments of a sheet can have
abbrev pub AreSheetCommentsError : XlsxError → Type 0
AreSheetCommentsError error = IsRelatedError error ⊎ IsCommentsError error

-- what the elements of the part at a path say; an absent part says nothing
abbrev pub entries_look : List ℕ → Look (List CommentEntry)
entries_look path = asks path (section_or [] (codes "comments") end_in_entries entries_in)

-- the comments of the part at a path
abbrev pub comments_look : List ℕ → Look (List CommentsSaid)
comments_look path = mapped one_gathered (entries_look path)

-- the comments of the sheet whose part is at a path, in the order of its relationships
abbrev pub sheet_comments_look : List ℕ → Look (List CommentsSaid)
sheet_comments_look path = each_related comments_look comments_type path

-- what is asked for the comments of the sheet whose part is at a path
abbrev pub sheet_comments_ask : List ℕ → Ask (List CommentsSaid)
sheet_comments_ask path = look_ask AreSheetCommentsError (sheet_comments_look path)
