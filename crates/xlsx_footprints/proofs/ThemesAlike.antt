-- What a style sheet says by two themes: the same but for colors, or it is refused in one way.
use Rattle.std.proofs.Common.{◌≡◌, ◌∙◌, ℕ, List, [], ◌∷◌, ◌++◌, map, Bool, true, false, refl, sym}
use Rattle.std.proofs.Common.{ap, Option, Some, None, Result, Ok, Err, codes}
use Rattle.std.proofs.lemmas.List.{map-append}
use Rattle.std.proofs.lemmas.Option.{slice_get-map}
use Rattle.std.proofs.lemmas.Simd.{map-map}
use Rattle.std.specs.Prelude.{⊤, if◌then◌else◌, option_map, option_and_then, slice_get, get_or}
use Rattle.std.specs.Prelude.{MatchOption, IsSomeAnd, IsOkAnd}
use Rattle.std.specs.Str.{bytes_eq}
use Rattle.attr_text.specs.Words.{lookup, value_of, local_name_of}
use Rattle.attr_text.specs.declared.fault.AttrFault.{AttrFault}
use Rattle.part_events.specs.Words.{Tag, Event, Element, PlacedTag, outermost, starts_by}
use Rattle.cell_data.specs.declared.format.CellFormat.{CellFormat}
use Rattle.cell_styles.specs.declared.border.Border.{Border}
use Rattle.cell_styles.specs.declared.border.BorderStyle.{BorderStyle}
use Rattle.cell_styles.specs.declared.border.Borders.{Borders}
use Rattle.cell_styles.specs.declared.color.Color.{Color}
use Rattle.cell_styles.specs.declared.fill.Fill.{Fill}
use Rattle.cell_styles.specs.declared.style.Style.{Style}
use Rattle.cell_styles.specs.Words.{FontFields}
use Rattle.part_events.specs.declared.fault.XmlFault.TheVariants.{Break, Unclosed}
use Rattle.xlsx_error.specs.declared.error.XlsxError.{XlsxError}
use Rattle.xlsx_error.specs.declared.error.XlsxError.TheVariants.{Xml, XmlEof}
use Rattle.xlsx_sections.specs.Words.{IsInsideRefused, Ending, Refusing, PartSection, SectionCause}
use Rattle.xlsx_sections.specs.Words.{StartCause, OptionalPartCause, inside_of, last_of, section_in}
use Rattle.xlsx_sections.specs.Words.{and_others, last_answer, or_earlier, or_later, prepended}
use Rattle.xlsx_sections.specs.Words.{all_changes, changed_by, changed_with, or_fault, element_said}
use Rattle.xlsx_sections.specs.Words.{list_said, number_text, Refusal, further, in_element}
use Rattle.xlsx_sections.specs.Words.{decoded_at, count_behind, all_answers}
use Rattle.xlsx_sections.proofs.Refused.{refused_weaker}
use Rattle.xlsx_styles.specs.Words.{border_change, color_in, colored, is_side, side_by, side_color}
use Rattle.xlsx_styles.specs.Words.{side_kept, side_line, side_named, side_of, with_side, color_by}
use Rattle.xlsx_styles.specs.Words.{color_keys, color_of_texts, is_color, fill_change}
use Rattle.xlsx_styles.specs.Words.{is_foreground, is_in_fill, is_pattern, with_background}
use Rattle.xlsx_styles.specs.Words.{with_foreground, with_pattern, FontSaid, font_change}
use Rattle.xlsx_styles.specs.Words.{is_font_name, is_in_font, name_changed, said_of, with_color}
use Rattle.xlsx_styles.specs.Words.{with_decoded, with_name, with_value}
use Rattle.xlsx_styles.specs.Fonts.{value_changed}
use Rattle.xlsx_formats.specs.FormatCodes.{WrittenFormat, code_written, formats_written}
use Rattle.xlsx_formats.specs.Formattings.{FormattingSaid, NamedSaid, StyleSaid, style_said}
use Rattle.xlsx_formats.specs.Formattings.{formatting_by, formatting_keys, formatting_of}
use Rattle.xlsx_formats.specs.Formattings.{format_named, settings_of}
use Rattle.xlsx_formats.specs.declared.settings.Settings.{Settings}
use Rattle.xlsx_stylesheet.specs.Lists.{border_by, border_said, diagonals_of, fill_said, font_said}
use Rattle.xlsx_stylesheet.specs.Lists.{borders_in, fills_in, fonts_in, is_border, is_fill, is_font}
use Rattle.xlsx_stylesheet.specs.Lists.{is_format}
use Rattle.xlsx_stylesheet.specs.StyleSheet.{AreStyles, ListsSaid, cell_formats_in, formattings_of}
use Rattle.xlsx_stylesheet.specs.StyleSheet.{end_in_styles, is_style_list, list_change, list_of}
use Rattle.xlsx_stylesheet.specs.StyleSheet.{list_read, lists_in, no_lists, with_borders}
use Rattle.xlsx_stylesheet.specs.StyleSheet.{with_fills, with_fonts, with_formats, with_formattings}
use Rattle.xlsx_stylesheet.specs.StyleSheet.{with_list}
use Rattle.xlsx_stylesheet.specs.declared.style_lists.StyleList.{StyleList}
use Rattle.xlsx_stylesheet.specs.declared.style_lists.StyleList.TheVariants as list

-- ---- answers that are alike

-- two answers are given and look the same, or are refused in one way
abbrev pub Alike : {A B : Type 0} → (A → B) → Result A Refusal → Result A Refusal → Type 0
Alike look (Ok one) (Ok two) = look one ≡ look two
Alike look (Err refusal) (Err other) = refusal ≡ other
Alike look _ _ = ⊥

-- nothing is looked at
abbrev pub nothing : {A : Type 0} → A → ⊤
nothing a = tt

if_alike : {A B : Type 0} (look : A → B) (test : Bool) (one two three four : Result A Refusal)
    → Alike look one two → Alike look three four
    → Alike look (if test then one else three) (if test then two else four)
if_alike look true one two three four first second = first
if_alike look false one two three four first second = second

fault_if : {A B : Type 0} (look : A → B) (test : Bool) (one two three four : Result A AttrFault)
    → Alike look (or_fault one) (or_fault two) → Alike look (or_fault three) (or_fault four)
    → Alike look (or_fault (if test then one else three)) (or_fault (if test then two else four))
fault_if look true one two three four first second = first
fault_if look false one two three four first second = second

changed_alike : {A B : Type 0} (look : A → B) (change other : A → Result A Refusal)
    (one two : Result A Refusal) → Alike look one two
    → ((a b : A) → look a ≡ look b → Alike look (change a) (other b))
    → Alike look (changed_by change one) (changed_by other two)
changed_alike look change other (Ok a) (Ok b) same step = step a b same
changed_alike look change other (Err refusal) (Err again) same step = same
changed_alike look change other (Ok a) (Err again) same step = absurd same
changed_alike look change other (Err refusal) (Ok b) same step = absurd same

changes_alike : {X A B : Type 0} (look : A → B) (change other : X → A → Result A Refusal)
    (xs : List X)
    → ((x : X) (a b : A) → look a ≡ look b → Alike look (change x a) (other x b))
    → (a b : A) → look a ≡ look b
    → Alike look (all_changes change xs a) (all_changes other xs b)
changes_alike look change other [] step a b same = same
changes_alike look change other (x ∷ xs) step a b same =
    changed_alike look (all_changes change xs) (all_changes other xs) (change x a) (other x b)
    (step x a b same) (changes_alike look change other xs step)

others_alike : {A B : Type 0} (look : A → B) (one two : Result A Refusal)
    (three four : Result (List A) Refusal) → Alike look one two → Alike (map look) three four
    → Alike (map look) (and_others one three) (and_others two four)
others_alike look (Ok a) (Ok b) (Ok others) (Ok again) same all = λ i. same i ∷ all i
others_alike look (Ok a) (Ok b) (Err refusal) (Err other) same all = all
others_alike look (Ok a) (Ok b) (Ok others) (Err other) same all = absurd all
others_alike look (Ok a) (Ok b) (Err refusal) (Ok again) same all = absurd all
others_alike look (Err refusal) (Err other) three four same all = same
others_alike look (Ok a) (Err other) three four same all = absurd same
others_alike look (Err refusal) (Ok b) three four same all = absurd same

answers_alike : {X A B : Type 0} (look : A → B) (answer other : X → Result A Refusal)
    (xs : List X) → ((x : X) → Alike look (answer x) (other x))
    → Alike (map look) (all_answers answer xs) (all_answers other xs)
answers_alike look answer other [] each = refl
answers_alike look answer other (x ∷ xs) each =
    others_alike look (answer x) (other x) (all_answers answer xs) (all_answers other xs) (each x)
    (answers_alike look answer other xs each)

inside_alike : {A B : Type 0} (look : A → B) (element : Element) (one two : Result A Refusal)
    → Alike look one two → Alike look (in_element element one) (in_element element two)
inside_alike look element (Ok a) (Ok b) same = same
inside_alike look element (Err refusal) (Err other) same = ap (further (count_behind element)) same
inside_alike look element (Ok a) (Err other) same = absurd same
inside_alike look element (Err refusal) (Ok b) same = absurd same

list_alike : {A B : Type 0} (look : A → B) (wanted : Tag → Bool)
    (meaning other : Tag → List Event → Result A Refusal) (inside : List Event)
    → ((tag : Tag) (events : List Event) → Alike look (meaning tag events) (other tag events))
    → Alike (map look) (list_said wanted meaning inside) (list_said wanted other inside)
list_alike look wanted meaning other inside each =
    answers_alike look (element_said meaning) (element_said other) (outermost wanted inside)
    (λ element. inside_alike look element (meaning element.tag element.inside)
    (other element.tag element.inside) (each element.tag element.inside))

-- a change by what was looked up
set_alike : {A B C : Type 0} (look : A → C) (change : A → B → A) (a b : A)
    (found : Result B AttrFault) → ((x : B) → look (change a x) ≡ look (change b x))
    → Alike look (or_fault (changed_with change a found)) (or_fault (changed_with change b found))
set_alike look change a b (Ok x) step = step x
set_alike look change a b (Err fault) step = refl

-- a change by a color
color_alike : {A C : Type 0} (look : A → C) (change : A → Option Color → A)
    (theme other : List Color) (a b : A) (found : Result (List (Option (List ℕ))) AttrFault)
    → ((one two : Option Color) → look (change a one) ≡ look (change b two))
    → Alike look (or_fault (changed_with change a (color_by theme found)))
    (or_fault (changed_with change b (color_by other found)))
color_alike look change theme other a b (Ok texts) step =
    step (color_of_texts theme texts) (color_of_texts other texts)
color_alike look change theme other a b (Err fault) step = refl

-- ---- fonts

-- a font without its color
abbrev pub colorless : FontSaid → FontSaid
colorless font = record font { color = None }

decoded_alike : (a b : FontSaid) (name : Result (List ℕ) Refusal) → colorless a ≡ colorless b
    → Alike colorless (with_decoded a name) (with_decoded b name)
decoded_alike a b (Ok name) same = ap (λ (font : FontSaid). with_name font name) same
decoded_alike a b (Err refusal) same = refl

name_alike : (behind : ℕ) (a b : FontSaid) (found : Result (Option (List ℕ)) AttrFault)
    → colorless a ≡ colorless b
    → Alike colorless (name_changed behind a found) (name_changed behind b found)
name_alike behind a b (Ok None) same = same
name_alike behind a b (Ok (Some text)) same = decoded_alike a b (decoded_at behind text) same
name_alike behind a b (Err fault) same = refl

picked : (test : Bool) (one two three four : FontSaid) → colorless one ≡ three
    → colorless two ≡ four
    → colorless (if test then one else two) ≡ (if test then three else four)
picked true one two three four first second = first
picked false one two three four first second = second

value_kept : (name : List ℕ) (font : FontSaid) (text : Option (List ℕ))
    → colorless (with_value name font text) ≡ with_value name (colorless font) text
value_kept name font text =
    picked (bytes_eq name (codes "sz")) _ _ _ _ refl
    (picked (bytes_eq name (codes "b")) _ _ _ _ refl
    (picked (bytes_eq name (codes "i")) _ _ _ _ refl
    (picked (bytes_eq name (codes "u")) _ _ _ _ refl
    (picked (bytes_eq name (codes "strike")) _ _ _ _ refl refl))))

value_alike : (tag : Tag) (a b : FontSaid) → colorless a ≡ colorless b
    → Alike colorless (or_fault (value_changed tag a)) (or_fault (value_changed tag b))
unfolding value_changed
value_alike tag a b same =
    let name = local_name_of tag.name in
    set_alike colorless (with_value name) a b (value_of (codes "val") tag.attributes)
    (λ text. value_kept name a text ∙ ap (λ (font : FontSaid). with_value name font text) same
    ∙ sym (value_kept name b text))

font_step : (theme other : List Color) (start : PlacedTag) (a b : FontSaid)
    → colorless a ≡ colorless b
    → Alike colorless (font_change theme start a) (font_change other start b)
font_step theme other start a b same =
    if_alike colorless (is_font_name start.tag) _ _ _ _
    (name_alike start.behind a b (value_of (codes "val") start.tag.attributes) same)
    (if_alike colorless (is_color start.tag) _ _ _ _
    (color_alike colorless with_color theme other a b (lookup color_keys start.tag.attributes)
    (λ one two. same))
    (value_alike start.tag a b same))

fonts_alike : (theme other : List Color) (inside : List Event)
    → Alike (map colorless) (fonts_in theme inside) (fonts_in other inside)
fonts_alike theme other inside =
    list_alike colorless is_font (font_said theme) (font_said other) inside
    (λ tag events. changes_alike colorless (font_change theme) (font_change other)
    (starts_by is_in_font events) (font_step theme other) _ _ refl)

-- ---- fills

fill_step : (theme other : List Color) (start : PlacedTag) (a b : Fill)
    → Alike nothing (fill_change theme start a) (fill_change other start b)
fill_step theme other start a b =
    let found = lookup color_keys start.tag.attributes in
    fault_if nothing (is_pattern start.tag) _ _ _ _
    (set_alike nothing with_pattern a b (value_of (codes "patternType") start.tag.attributes)
    (λ text. refl))
    (fault_if nothing (is_foreground start.tag) _ _ _ _
    (color_alike nothing with_foreground theme other a b found (λ one two. refl))
    (color_alike nothing with_background theme other a b found (λ one two. refl)))

fills_alike : (theme other : List Color) (inside : List Event)
    → Alike (map nothing) (fills_in theme inside) (fills_in other inside)
fills_alike theme other inside =
    list_alike nothing is_fill (fill_said theme) (fill_said other) inside
    (λ tag events. changes_alike nothing (fill_change theme) (fill_change other)
    (starts_by is_in_fill events) (λ start a b same. fill_step theme other start a b) _ _ refl)

-- ---- borders

earlier_alike : {A : Type 0} (a b : Option A) (one two : Result (Option A) Refusal)
    → Alike nothing one two → Alike nothing (or_earlier a one) (or_earlier b two)
earlier_alike a b (Ok (Some x)) (Ok (Some y)) same = refl
earlier_alike a b (Ok (Some x)) (Ok None) same = refl
earlier_alike a b (Ok None) (Ok (Some y)) same = refl
earlier_alike a b (Ok None) (Ok None) same = refl
earlier_alike a b (Err refusal) (Err other) same = same
earlier_alike a b (Ok x) (Err other) same = absurd same
earlier_alike a b (Err refusal) (Ok y) same = absurd same

later_alike : {A : Type 0} (one two three four : Result (Option A) Refusal)
    → Alike nothing one two → Alike nothing three four
    → Alike nothing (or_later one three) (or_later two four)
later_alike (Ok a) (Ok b) three four same rest = earlier_alike a b three four rest
later_alike (Err refusal) (Err other) three four same rest = same
later_alike (Ok a) (Err other) three four same rest = absurd same
later_alike (Err refusal) (Ok b) three four same rest = absurd same

last_alike : {X A : Type 0} (answer other : X → Result (Option A) Refusal) (xs : List X)
    → ((x : X) → Alike nothing (answer x) (other x))
    → Alike nothing (last_answer answer xs) (last_answer other xs)
last_alike answer other [] each = refl
last_alike answer other (x ∷ xs) each =
    later_alike (answer x) (other x) (last_answer answer xs) (last_answer other xs) (each x)
    (last_alike answer other xs each)

named_color : (theme other : List Color) (found : Result (List (Option (List ℕ))) AttrFault)
    → Alike nothing (or_fault (color_by theme found)) (or_fault (color_by other found))
named_color theme other (Ok texts) = refl
named_color theme other (Err fault) = refl

colored_alike : (line : BorderStyle) (one two : Result (Option Color) Refusal)
    → Alike nothing one two → Alike nothing (colored line one) (colored line two)
colored_alike line (Ok a) (Ok b) same = refl
colored_alike line (Err refusal) (Err other) same = same
colored_alike line (Ok a) (Err other) same = absurd same
colored_alike line (Err refusal) (Ok b) same = absurd same

side_alike : (theme other : List Color) (inside : List Event) (line : Result BorderStyle AttrFault)
    → Alike nothing (side_by theme inside line) (side_by other inside line)
side_alike theme other inside (Ok line) =
    colored_alike line (color_in theme inside) (color_in other inside)
    (last_alike (side_color theme) (side_color other) (starts_by is_color inside)
    (λ start. named_color theme other (lookup color_keys start.tag.attributes)))
side_alike theme other inside (Err fault) = refl

kept_alike : (place again : Border → Borders) (one two : Result Border Refusal)
    → Alike nothing one two → Alike nothing (side_kept place one) (side_kept again two)
kept_alike place again (Ok a) (Ok b) same = refl
kept_alike place again (Err refusal) (Err other) same = same
kept_alike place again (Ok a) (Err other) same = absurd same
kept_alike place again (Err refusal) (Ok b) same = absurd same

border_step : (theme other : List Color) (down up : Bool) (element : Element) (a b : Borders)
    → Alike nothing (border_change theme down up element a)
    (border_change other down up element b)
border_step theme other down up element a b =
    kept_alike (with_side down up (side_named (local_name_of element.tag.name)) a)
    (with_side down up (side_named (local_name_of element.tag.name)) b) _ _
    (inside_alike nothing element (side_of theme element.tag element.inside)
    (side_of other element.tag element.inside)
    (side_alike theme other element.inside (side_line element.tag)))

border_alike : (theme other : List Color) (inside : List Event)
    (ways : Result (Bool × Bool) AttrFault)
    → Alike nothing (border_by theme inside ways) (border_by other inside ways)
border_alike theme other inside (Ok (down, up)) =
    changes_alike nothing (border_change theme down up) (border_change other down up)
    (outermost is_side inside)
    (λ element a b same. border_step theme other down up element a b) _ _ refl
border_alike theme other inside (Err fault) = refl

borders_alike : (theme other : List Color) (inside : List Event)
    → Alike (map nothing) (borders_in theme inside) (borders_in other inside)
borders_alike theme other inside =
    list_alike nothing is_border (border_said theme) (border_said other) inside
    (λ tag events. border_alike theme other events (diagonals_of tag))

-- ---- cell formats

-- what a formatting makes of a number, and its font without its color
abbrev pub plain_format : FormattingSaid → CellFormat × Option FontSaid
plain_format own = (own.format, option_map colorless own.style.font)

numbered_alike : (one two : List FontSaid) (number : Option ℕ)
    → map colorless one ≡ map colorless two
    → option_map colorless (option_and_then (slice_get one) number)
    ≡ option_map colorless (option_and_then (slice_get two) number)
numbered_alike one two None same = refl
numbered_alike one two (Some number) same =
    sym (slice_get-map colorless one number)
    ∙ ap (λ (fonts : List FontSaid). slice_get fonts number) same
    ∙ slice_get-map colorless two number

format_alike : (one two : NamedSaid) (settings : Result Settings Refusal)
    (texts : Result (List (Option (List ℕ))) AttrFault) → one.formats ≡ two.formats
    → map colorless one.fonts ≡ map colorless two.fonts
    → Alike plain_format (formatting_by one settings texts) (formatting_by two settings texts)
format_alike one two (Ok settings) (Ok texts) formats fonts =
    let format = ap (λ (own : List WrittenFormat).
    format_named (λ (id : List ℕ). code_written id own) (get_or texts 0 None)) formats in
    let font = numbered_alike one.fonts two.fonts
    (option_and_then number_text (get_or texts 1 None)) fonts in
    λ i. (format i, font i)
format_alike one two (Err refusal) (Ok texts) formats fonts = refl
format_alike one two settings (Err fault) formats fonts = refl

-- ---- the lists

-- the number formats of lists, their fonts without colors, and what their formattings make of
-- numbers
abbrev looked : ListsSaid → List WrittenFormat × List FontSaid × List (CellFormat × Option FontSaid)
looked lists =
    (lists.named.formats, map colorless lists.named.fonts, map plain_format lists.formattings)

put_alike : {A C : Type 0} (look : A → C) (place other : List A → ListsSaid) (kept more : List A)
    (one two : Result (List A) Refusal) → Alike (map look) one two
    → ((xs ys : List A) → map look xs ≡ map look ys
    → looked (place (kept ++ xs)) ≡ looked (other (more ++ ys)))
    → Alike looked (with_list place (prepended kept one)) (with_list other (prepended more two))
put_alike look place other kept more (Ok xs) (Ok ys) same step = step xs ys same
put_alike look place other kept more (Err refusal) (Err again) same step = same
put_alike look place other kept more (Ok xs) (Err again) same step = absurd same
put_alike look place other kept more (Err refusal) (Ok ys) same step = absurd same

codes_alike : (a b : ListsSaid) (own : Result (List WrittenFormat) Refusal) → looked a ≡ looked b
    → Alike looked (with_list (with_formats a) (prepended a.named.formats own))
    (with_list (with_formats b) (prepended b.named.formats own))
codes_alike a b (Ok own) same = λ i. ((same i).0 ++ own, (same i).1, (same i).2)
codes_alike a b (Err refusal) same = refl

behind_alike : {A C : Type 0} (look : A → C) (kept more xs ys : List A)
    → map look kept ≡ map look more → map look xs ≡ map look ys
    → map look (kept ++ xs) ≡ map look (more ++ ys)
behind_alike look kept more xs ys first second =
    map-append look kept xs ∙ (λ i. first i ++ second i) ∙ sym (map-append look more ys)

read_alike : (theme other : List Color) (own : StyleList) (a b : ListsSaid) (inside : List Event)
    → looked a ≡ looked b
    → Alike looked (list_read theme own a inside) (list_read other own b inside)
read_alike theme other list.NumberFormats a b inside same =
    codes_alike a b (formats_written inside) same
read_alike theme other list.Fonts a b inside same =
    put_alike colorless (with_fonts a) (with_fonts b) a.named.fonts b.named.fonts _ _
    (fonts_alike theme other inside)
    (λ xs ys alike. let fonts = behind_alike colorless a.named.fonts b.named.fonts xs ys
    (λ i. (same i).1) alike in λ i. ((same i).0, fonts i, (same i).2))
read_alike theme other list.Fills a b inside same =
    put_alike nothing (with_fills a) (with_fills b) a.named.fills b.named.fills _ _
    (fills_alike theme other inside) (λ xs ys alike. same)
read_alike theme other list.Borders a b inside same =
    put_alike nothing (with_borders a) (with_borders b) a.named.borders b.named.borders _ _
    (borders_alike theme other inside) (λ xs ys alike. same)
read_alike theme other list.Formats a b inside same =
    put_alike plain_format (with_formattings a) (with_formattings b) a.formattings b.formattings
    _ _
    (list_alike plain_format is_format (formatting_of a.named) (formatting_of b.named) inside
    (λ tag events. format_alike a.named b.named (settings_of events)
    (lookup formatting_keys tag.attributes) (λ i. (same i).0) (λ i. (same i).1)))
    (λ xs ys alike. let formattings = behind_alike plain_format a.formattings b.formattings xs ys
    (λ i. (same i).2) alike in λ i. ((same i).0, (same i).1, formattings i))

formattings_alike : (one two : Result ListsSaid Refusal) → Alike looked one two
    → Alike (map plain_format) (formattings_of one) (formattings_of two)
formattings_alike (Ok a) (Ok b) same = λ i. (same i).2
formattings_alike (Err refusal) (Err other) same = same
formattings_alike (Ok a) (Err other) same = absurd same
formattings_alike (Err refusal) (Ok b) same = absurd same

-- the cell formats of a style sheet by two themes
formats_alike : (theme other : List Color) (inside : List Event)
    → Alike (map plain_format) (cell_formats_in theme inside) (cell_formats_in other inside)
formats_alike theme other inside =
    formattings_alike (lists_in theme inside) (lists_in other inside)
    (changes_alike looked (list_change theme) (list_change other) (outermost is_style_list inside)
    (λ element a b same. inside_alike looked element
    (list_read theme (list_of element.tag) a element.inside)
    (list_read other (list_of element.tag) b element.inside)
    (read_alike theme other (list_of element.tag) a b element.inside same)) no_lists no_lists refl)

-- ---- what follows of a styles part

err_alike : {A B : Type 0} (look : A → B) (one two : Result A Refusal) (refusal : Refusal)
    → Alike look one two → one ≡ Err refusal → two ≡ Err refusal
err_alike look (Ok a) (Ok b) refusal same is = absurd (cc)
err_alike look (Err own) (Err other) refusal same is =
    ap (λ (r : Refusal). let answer : Result _ Refusal = Err r in answer) (sym same) ∙ is
err_alike look (Ok a) (Err other) refusal same is = absurd same
err_alike look (Err own) (Ok b) refusal same is = absurd same

section_weaker : (ending : Ending) (after before : Refusing) (s : PartSection) (error : XlsxError)
    → ((refusal : Refusal) → after s refusal → before s refusal)
    → SectionCause ending after s error → SectionCause ending before s error
section_weaker ending after before s (Xml (Break at why)) weaker cause = cause
section_weaker ending after before s (Xml (Unclosed at)) weaker cause = cause
section_weaker ending after before s (XmlEof element) weaker cause = cause
section_weaker ending after before s error weaker cause =
    refused_weaker (last_of s) (last_of s) (before s) (after s) error weaker refl cause

found_weaker : (ending : Ending) (after before : Refusing) (section : Option PartSection)
    (start : Type 0) (error : XlsxError)
    → ((s : PartSection) (refusal : Refusal) → after s refusal → before s refusal)
    → MatchOption section start (λ s. SectionCause ending after s error)
    → MatchOption section start (λ s. SectionCause ending before s error)
found_weaker ending after before None start error weaker cause = cause
found_weaker ending after before (Some s) start error weaker cause =
    section_weaker ending after before s error (weaker s) cause

-- a styles part that is refused by a theme is by every other
pub refused_by_theme : (theme other : List Color) (part : Option (List Event)) (error : XlsxError)
    → OptionalPartCause (codes "styleSheet") end_in_styles
    (IsInsideRefused (cell_formats_in theme)) part error
    → OptionalPartCause (codes "styleSheet") end_in_styles
    (IsInsideRefused (cell_formats_in other)) part error
refused_by_theme theme other None error cause = cause
refused_by_theme theme other (Some events) error cause =
    found_weaker end_in_styles (IsInsideRefused (cell_formats_in theme))
    (IsInsideRefused (cell_formats_in other)) (section_in (codes "styleSheet") events)
    (StartCause (codes "styleSheet") events error) error
    (λ s refusal is. err_alike (map plain_format) (cell_formats_in theme (inside_of s))
    (cell_formats_in other (inside_of s)) refusal (formats_alike theme other (inside_of s)) is)
    cause

-- the font of a style, without its color
abbrev pub style_font : StyleSaid → Option FontSaid
style_font style = option_map colorless style.font

-- the styles that a styles part has by another theme, with the same fonts but for colors
pub record HasByTheme (theme : List Color) (part section : Option (List Event))
    (formats : List CellFormat) (styles : List StyleSaid) : Type 0 where
  pub others : List StyleSaid
  pub has :
      MatchOption part ((formats ≡ []) × (others ≡ []))
      (λ _. IsSomeAnd section (λ inside. IsOkAnd (cell_formats_in theme inside)
      (AreStyles formats others)))
  pub fonts : map style_font styles ≡ map style_font others

ok_by_theme : (events : List Event) (other : List Color)
    (one two : Result (List FormattingSaid) Refusal) (formats : List CellFormat)
    (styles : List StyleSaid) → Alike (map plain_format) one two
    → IsOkAnd one (AreStyles formats styles)
    → (others : List StyleSaid) × IsOkAnd two (AreStyles formats others)
    × (map style_font styles ≡ map style_font others)
ok_by_theme events other (Ok a) (Ok b) formats styles same (is, are) = (
  map (λ (own : FormattingSaid). own.style) b,
  (
    is ∙ sym (map-map (λ (own : CellFormat × Option FontSaid). own.0) plain_format a)
        ∙ ap (map (λ (own : CellFormat × Option FontSaid). own.0)) same
        ∙ map-map (λ (own : CellFormat × Option FontSaid). own.0) plain_format b,
    refl,
  ),
  ap (map style_font) are ∙ map-map style_font (λ (own : FormattingSaid). own.style) a
      ∙ sym (map-map (λ (own : CellFormat × Option FontSaid). own.1) plain_format a)
      ∙ ap (map (λ (own : CellFormat × Option FontSaid). own.1)) same
      ∙ map-map (λ (own : CellFormat × Option FontSaid). own.1) plain_format b
      ∙ sym (map-map style_font (λ (own : FormattingSaid). own.style) b),
)
ok_by_theme events other (Err refusal) two formats styles same has = absurd has
ok_by_theme events other (Ok a) (Err refusal) formats styles same has = absurd same

pub styles_by_theme : (theme other : List Color) (part section : Option (List Event))
    (formats : List CellFormat) (styles : List StyleSaid)
    → MatchOption part ((formats ≡ []) × (styles ≡ []))
    (λ _. IsSomeAnd section (λ inside. IsOkAnd (cell_formats_in theme inside)
    (AreStyles formats styles)))
    → HasByTheme other part section formats styles
styles_by_theme theme other None section formats styles has =
    record { others = styles; has = has; fonts = refl }
styles_by_theme theme other (Some events) None formats styles has = absurd has
styles_by_theme theme other (Some events) (Some inside) formats styles has =
    let (others, are, fonts) = ok_by_theme inside other (cell_formats_in theme inside)
    (cell_formats_in other inside) formats styles (formats_alike theme other inside) has in
    record { others = others; has = are; fonts = fonts }

-- ---- the palette by another theme

abbrev font_by : Option FontFields → Option FontSaid → Option FontFields
font_by (Some font) (Some said) = Some (record font { color = said.color })
font_by _ _ = None

abbrev style_by : Style → StyleSaid → Style
style_by style said = record {
  font = font_by style.font said.font;
  fill = said.fill;
  borders = said.borders;
  alignment = said.alignment;
  number_format = said.number_format;
  protection = said.protection;
}

-- a palette with the colors of what is said by another theme
abbrev pub recolored : List Style → List StyleSaid → List Style
recolored [] others = []
recolored (style ∷ styles) [] = []
recolored (style ∷ styles) (said ∷ others) = style_by style said ∷ recolored styles others

font_said_by : (font : Option FontFields) (said : Option FontSaid)
    → option_map colorless (option_map said_of font) ≡ option_map colorless said
    → option_map said_of (font_by font said) ≡ said
font_said_by None None same = refl
font_said_by (Some font) (Some said) same =
    let own : colorless (said_of font) ≡ colorless said = cc in
    ap (λ (fields : FontSaid). Some (record fields { color = said.color })) own
font_said_by None (Some said) same = absurd (cc)
font_said_by (Some font) None same = absurd (cc)

pub recolored_said : (palette : List Style) (styles : List StyleSaid)
    → map style_font (map style_said palette) ≡ map style_font styles
    → map style_said (recolored palette styles) ≡ styles
recolored_said [] [] same = refl
recolored_said (style ∷ palette) (said ∷ styles) same =
    let font : style_font (style_said style) ≡ style_font said = cc in
    let rest : map style_font (map style_said palette) ≡ map style_font styles = cc in
    let fields = font_said_by style.font said.font font in
    let others = recolored_said palette styles rest in
    λ i. record said { font = fields i } ∷ others i
recolored_said [] (said ∷ styles) same = absurd (cc)
recolored_said (style ∷ palette) [] same = absurd (cc)
