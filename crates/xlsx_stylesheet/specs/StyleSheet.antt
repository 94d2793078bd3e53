-- What the styles part says (ECMA-376 part 1, section 18.8.39).
use Rattle.std.specs.Prelude.{◌≡◌, ℕ, List, [], ◌∷◌, map, Bool, if◌then◌else◌, codes, Option, Some}
use Rattle.std.specs.Prelude.{Result, Ok, Err, IsSomeAnd, IsOkAnd, MatchOption}
use Rattle.std.specs.Str.{bytes_eq}
use Rattle.attr_text.specs.Words.{local_name_of}
use Rattle.part_events.specs.Words.{Tag, Event, start, Part, part_of, Reading, ahead, Element}
use Rattle.part_events.specs.Words.{content, outermost, is_named}
use Rattle.xlsx_error.specs.declared.error.XlsxError.{XlsxError}
use Rattle.cell_data.specs.declared.format.CellFormat.{CellFormat}
use Rattle.cell_styles.specs.declared.border.Borders.{Borders}
use Rattle.cell_styles.specs.declared.color.Color.{Color}
use Rattle.cell_styles.specs.declared.fill.Fill.{Fill}
use Rattle.xlsx_sections.specs.Words.{prepended, all_changes, end_among, ElementReadFails}
use Rattle.xlsx_sections.specs.Words.{closed_section_of, Refusal, in_element}
use Rattle.xlsx_styles.specs.Words.{FontSaid, said_of}
use Rattle.xlsx_formats.specs.FormatCodes.{WrittenFormat, formats_written, AreCodes}
use Rattle.xlsx_formats.specs.Formattings.{NamedSaid, StyleSaid, FormattingSaid, formatting_said}
use Rattle.xlsx_stylesheet.specs.Lists.{fonts_in, fills_in, borders_in, formattings_in}
use Rattle.xlsx_stylesheet.specs.Lists.{end_in_fonts, end_in_fills, end_in_borders, end_in_formats}
use Rattle.xlsx_stylesheet.specs.declared.style_lists.StyleList.{StyleList}
use Rattle.xlsx_stylesheet.specs.declared.style_lists.StyleList.TheVariants as list
use Rattle.xlsx_stylesheet.specs.declared.style_lists.StyleLists.{StyleLists}

-- the lists of a section of styles, as far as they were read: what a cell format can name, and the
-- cell formats
pub record ListsSaid : Type 0 where
  pub named : NamedSaid
  pub formattings : List FormattingSaid

-- the lists of a section of styles of which nothing was read
abbrev pub no_lists : ListsSaid
no_lists = record {
  named = record { formats = []; fonts = []; fills = []; borders = [] };
  formattings = [];
}

-- the list of a start's local name
abbrev pub list_named : List ℕ → StyleList
list_named name =
    if bytes_eq name (codes "numFmts") then list.NumberFormats
    else (if bytes_eq name (codes "fonts") then list.Fonts
    else (if bytes_eq name (codes "fills") then list.Fills
    else (if bytes_eq name (codes "borders") then list.Borders else list.Formats)))

-- what the lists of a style sheet say, with these written formats in place of its own
abbrev pub with_formats : ListsSaid → List WrittenFormat → ListsSaid
with_formats lists formats = record {
  named = record {
    formats = formats;
    fonts = lists.named.fonts;
    fills = lists.named.fills;
    borders = lists.named.borders;
  };
  formattings = lists.formattings;
}

-- what the lists of a style sheet say, with these fonts in place of its own
abbrev pub with_fonts : ListsSaid → List FontSaid → ListsSaid
with_fonts lists fonts = record {
  named = record {
    formats = lists.named.formats;
    fonts = fonts;
    fills = lists.named.fills;
    borders = lists.named.borders;
  };
  formattings = lists.formattings;
}

-- what the lists of a style sheet say, with these fills in place of its own
abbrev pub with_fills : ListsSaid → List Fill → ListsSaid
with_fills lists fills = record {
  named = record {
    formats = lists.named.formats;
    fonts = lists.named.fonts;
    fills = fills;
    borders = lists.named.borders;
  };
  formattings = lists.formattings;
}

-- what the lists of a style sheet say, with these borders in place of its own
abbrev pub with_borders : ListsSaid → List Borders → ListsSaid
with_borders lists borders = record {
  named = record {
    formats = lists.named.formats;
    fonts = lists.named.fonts;
    fills = lists.named.fills;
    borders = borders;
  };
  formattings = lists.formattings;
}

-- what the lists of a style sheet say, with these cell formats in place of its own
abbrev pub with_formattings : ListsSaid → List FormattingSaid → ListsSaid
with_formattings lists formattings = record { named = lists.named; formattings = formattings }

-- lists with one that was read in its place
abbrev pub with_list : {A : Type 0} → (List A → ListsSaid) → Result (List A) Refusal
    → Result ListsSaid Refusal
with_list place (Ok list) = Ok (place list)
with_list place (Err refusal) = Err refusal

-- what an element makes of the lists: what stands in it is put behind what its list has
abbrev pub list_read :
    List Color → StyleList → ListsSaid → List Event → Result ListsSaid Refusal
list_read theme list.NumberFormats lists inside =
    with_list (with_formats lists) (prepended lists.named.formats (formats_written inside))
list_read theme list.Fonts lists inside =
    with_list (with_fonts lists) (prepended lists.named.fonts (fonts_in theme inside))
list_read theme list.Fills lists inside =
    with_list (with_fills lists) (prepended lists.named.fills (fills_in theme inside))
list_read theme list.Borders lists inside =
    with_list (with_borders lists) (prepended lists.named.borders (borders_in theme inside))
list_read theme list.Formats lists inside =
    with_list (with_formattings lists)
    (prepended lists.formattings (formattings_in lists.named inside))

-- the list that a start begins
abbrev pub list_of : Tag → StyleList
list_of tag = list_named (local_name_of tag.name)

-- what an element of the style sheet makes of the lists
abbrev pub list_change : List Color → Element → ListsSaid → Result ListsSaid Refusal
list_change theme element lists =
    in_element element (list_read theme (list_of element.tag) lists element.inside)

-- a start begins one of the lists
abbrev pub is_style_list : Tag → Bool
is_style_list tag = is_named (
    codes "numFmts" ∷ codes "fonts" ∷ codes "fills" ∷ codes "borders" ∷ codes "cellXfs" ∷ []) tag

-- the lists of the section of styles: those of its outermost elements, each of which sees what
-- those before it made
abbrev pub lists_in : List Color → List Event → Result ListsSaid Refusal
lists_in theme inside = all_changes (list_change theme) (outermost is_style_list inside) no_lists

-- the formattings of lists that were read
abbrev pub formattings_of : Result ListsSaid Refusal → Result (List FormattingSaid) Refusal
formattings_of (Ok lists) = Ok lists.formattings
formattings_of (Err refusal) = Err refusal

-- the cell formats that the section of styles says, in order
abbrev pub cell_formats_in : List Color → List Event → Result (List FormattingSaid) Refusal
cell_formats_in theme inside = formattings_of (lists_in theme inside)

-- how the end of the part is told in a list
abbrev pub list_end : StyleList → List Event → Option (List ℕ)
list_end list.NumberFormats inside = Some (codes "numFmts")
list_end list.Fonts inside = end_in_fonts inside
list_end list.Fills inside = end_in_fills inside
list_end list.Borders inside = end_in_borders inside
list_end list.Formats inside = end_in_formats inside

-- the end that is told missing in an element of the style sheet
abbrev pub list_element_end : Element → Option (List ℕ)
list_element_end element = list_end (list_of element.tag) element.inside

-- the end that is told missing in the section of styles
abbrev pub end_in_styles : List Event → Option (List ℕ)
end_in_styles inside = end_among is_style_list (codes "styleSheet") list_element_end inside

-- what was read of the lists of a section of styles, with these number formats
abbrev pub lists_said : List WrittenFormat → StyleLists → ListsSaid
lists_said formats lists = record {
  named = record {
    formats = formats;
    fonts = map said_of lists.fonts.items;
    fills = lists.fills.items;
    borders = lists.borders.items;
  };
  formattings = map formatting_said lists.formattings.items;
}

-- an element of this start was read into the lists, which had these number formats
pub record IsListRead (theme : List Color) (tag : Tag) (old new : StyleLists) (inside : List Event)
    (formats : List WrittenFormat) : Type 0 where
  pub later : List WrittenFormat
  pub codes : AreCodes later new.codes
  pub said :
      list_read theme (list_of tag) (lists_said formats old) inside ≡ Ok (lists_said later new)

-- the element at whose start a reader stands was read into the lists
abbrev pub ReadsList : List Color → StyleLists → StyleLists → Reading → Type 0
ReadsList theme old new r =
    (tag : Tag) (formats : List WrittenFormat) → start tag ≡ r.source.current
    → AreCodes formats old.codes → IsListRead theme tag old new (content 0 (ahead r)) formats

-- why a list of the style sheet can't be read
abbrev pub ListFails : List Color → StyleLists → Reading → Reading → XlsxError → Type 0
ListFails theme lists old new error =
    (tag : Tag) (formats : List WrittenFormat) → start tag ≡ old.source.current
    → AreCodes formats lists.codes
    → ElementReadFails (list_end (list_of tag))
    (list_read theme (list_of tag) (lists_said formats lists)) old new error

-- what the cell formats make of numbers, and their styles, in order
abbrev pub AreStyles : List CellFormat → List StyleSaid → List FormattingSaid → Type 0
AreStyles formats styles said =
    (formats ≡ map (λ (formatting : FormattingSaid). formatting.format) said)
    × (styles ≡ map (λ (formatting : FormattingSaid). formatting.style) said)

-- what the cell formats of the styles part at a path make of numbers, and their styles; an absent
-- part has none
abbrev pub HasStyles :
    List Color → List Part → List ℕ → List CellFormat → List StyleSaid → Type 0
HasStyles theme parts path formats styles =
    MatchOption (part_of parts path) ((formats ≡ []) × (styles ≡ []))
    (λ _. IsSomeAnd (closed_section_of (codes "styleSheet") path parts)
    (λ inside. IsOkAnd (cell_formats_in theme inside) (AreStyles formats styles)))
