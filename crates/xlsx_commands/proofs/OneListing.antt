-- A sheet has one listing: two readings of it that say the same have the same lines.
use Rattle.std.proofs.Common.{◌≡◌, ℕ, List, Bool, true, false, Option, Some, None, map, refl, sym}
use Rattle.std.proofs.Common.{◌∙◌, ap, if◌then◌else◌}
use mathlib.Core.Path.{fun_ext}
use Rattle.std.specs.Prelude.{slice_get, slice_index, option_map, option_and_then, is_some, ◌||◌}
use Rattle.std.specs.Prelude.{nat_lt, codes, []}
use Rattle.std.specs.List.{flat_map}
use Rattle.std.proofs.lemmas.Option.{slice_get-map}
use Rattle.cell_refs.specs.Words.{is_in_area, reference}
use Rattle.cell_refs.specs.declared.dimensions.Dimensions.{Dimensions}
use Rattle.part_events.specs.Words.{Part}
use Rattle.cell_data.specs.Words.{CellValue}
use Rattle.cell_styles.specs.Words.{color_text, fill_color, styled_in, styled_entry, StyleMap}
use Rattle.cell_styles.specs.Words.{place_in_area, style_in, style_at}
use Rattle.cell_styles.specs.declared.color.Color.{Color}
use Rattle.cell_styles.specs.declared.style.Style.{Style}
use Rattle.xlsx_formats.specs.Formattings.{StyleSaid, style_said}
use Rattle.xlsx_core.specs.Words.{SayTheSame, ReadsAs}
use Rattle.xlsx_commands.specs.Outputs.{AreLinesOf, AreCellLines}
use Rattle.json.specs.Json.{Json, string, object, no_members, member}
use Rattle.json_lines.specs.JsonLines.{json_line, optional_member}
use Rattle.list_lines.specs.declared.content.LineForm.{LineForm}
use Rattle.list_lines.specs.declared.content.LineForm.TheVariants.{Text, Json as AsJson}
use Rattle.sheet_listing.specs.CellObjects.{fill_json, formula_json, type_word, value_members}
use Rattle.sheet_listing.specs.CellObjects.{lines_in, object_listing}
use Rattle.sheet_listing.specs.SheetListing.{fill_shown, value_field, formula_field, shown_color}
use Rattle.sheet_listing.specs.SheetListing.{fill_field, line_of, value_placed, formula_placed}
use Rattle.sheet_listing.specs.SheetListing.{id_placed, used_positions, lines_with, placed_ids}
use Rattle.sheet_listing.specs.SheetListing.{listing}

-- ---- the fill of a position

-- the fill as it is printed, by what a style says
abbrev said_field : Option StyleSaid → Option (List ℕ)
said_field said =
    option_map color_text (option_and_then (λ (own : StyleSaid).
    option_and_then (λ fill. shown_color fill.pattern (fill_color fill)) own.fill) said)

field_by_said : (style : Option Style) → fill_field style ≡ said_field (option_map style_said style)
field_by_said None = refl
field_by_said (Some style) = refl

tested_by_said : (test : Bool) (one two : Option Style)
    → option_map style_said one ≡ option_map style_said two
    → option_map style_said (if test then one else None)
    ≡ option_map style_said (if test then two else None)
tested_by_said true one two same = same
tested_by_said false one two same = refl

style_by_said : (palette other : List Style) (id : ℕ)
    → map style_said palette ≡ map style_said other
    → option_map style_said (slice_get palette id) ≡ option_map style_said (slice_get other id)
style_by_said palette other id same =
    sym (slice_get-map style_said palette id)
    ∙ ap (λ (said : List StyleSaid). slice_get said id) same ∙ slice_get-map style_said other id

inside_by_said : (area : Option Dimensions) (one two : StyleMap) (position : ℕ × ℕ)
    → map style_said one.palette ≡ map style_said two.palette → one.ids ≡ two.ids
    → option_map style_said (style_in area one position)
    ≡ option_map style_said (style_in area two position)
inside_by_said None one two position palette ids = refl
inside_by_said (Some area) one two position palette ids =
    let place = place_in_area area position in
    tested_by_said (is_in_area area position)
    (slice_get one.palette (slice_index one.ids place))
    (slice_get two.palette (slice_index two.ids place))
    (style_by_said one.palette two.palette (slice_index one.ids place) palette
    ∙ ap (λ (own : List ℕ). option_map style_said (slice_get two.palette (slice_index own place)))
    ids)

fill_alike : (one two : StyleMap) → SayTheSame one two → (position : ℕ × ℕ)
    → fill_field (style_at one position) ≡ fill_field (style_at two position)
fill_alike one two same position =
    field_by_said (style_at one position)
    ∙ ap (λ (area : Option Dimensions). said_field (option_map style_said
    (style_in area one position))) same.bounds
    ∙ ap said_field (inside_by_said two.bounds one two position same.palette same.ids)
    ∙ sym (field_by_said (style_at two position))

-- ---- the lines

lines_by_fill : (values : List ((ℕ × ℕ) × CellValue)) (formulas : List ((ℕ × ℕ) × List ℕ))
    (ids : List ((ℕ × ℕ) × ℕ)) (one two : ℕ × ℕ → Option Style)
    → ((position : ℕ × ℕ) → fill_field (one position) ≡ fill_field (two position))
    → lines_with (λ position id. one position) values formulas ids
    ≡ lines_with (λ position id. two position) values formulas ids
unfolding lines_with
lines_by_fill values formulas ids one two same =
    ap (λ (fill : ℕ × ℕ → Option (List ℕ)). flat_map
    (λ position. line_of position (value_placed position values) (formula_placed position formulas)
    (id_placed position ids) (fill position))
    (used_positions values formulas ids)) (fun_ext same)

listing_alike : (values : List ((ℕ × ℕ) × CellValue)) (formulas : List ((ℕ × ℕ) × List ℕ))
    (one two : StyleMap) → SayTheSame one two
    → listing values formulas one ≡ listing values formulas two
listing_alike values formulas one two same =
    lines_by_fill values formulas (placed_ids one) (style_at one) (style_at two)
    (fill_alike one two same)
    ∙ ap (λ (area : Option Dimensions). lines_with (λ position id. style_at two position) values
    formulas (map styled_entry (styled_in area one.ids))) same.bounds
    ∙ ap (λ (ids : List ℕ). lines_with (λ position id. style_at two position) values formulas
    (map styled_entry (styled_in two.bounds ids))) same.ids

-- the sheets of this name of two packages are read in one way
abbrev pub AreReadAlike : List Part → List Part → List ℕ → Type 0
AreReadAlike parts other name =
    (values more : List ((ℕ × ℕ) × CellValue)) (formulas further : List ((ℕ × ℕ) × List ℕ))
    (styles again : StyleMap) → ReadsAs parts name values formulas styles
    → ReadsAs other name more further again
    → (values ≡ more) × (formulas ≡ further) × SayTheSame styles again

-- so they have one listing
pub one_listing :
    (parts other : List Part) (name lines others : List ℕ) → AreReadAlike parts other name
    → AreLinesOf parts name lines → AreLinesOf other name others → lines ≡ others
one_listing parts other name lines others law first second =
    let same = law first.values second.values first.formulas second.formulas first.styles
    second.styles first.reads second.reads in
    first.listed
    ∙ ap (λ (own : List ((ℕ × ℕ) × CellValue)). listing own first.formulas first.styles) same.0
    ∙ ap (λ (own : List ((ℕ × ℕ) × List ℕ)). listing second.values own first.styles) same.1
    ∙ listing_alike second.values second.formulas first.styles second.styles same.2
    ∙ sym second.listed

-- ---- the lines as JSON

fill_by_field : (style : Option Style) → fill_json style ≡ option_map string (fill_field style)
fill_by_field None = refl
fill_by_field (Some style) =
    elim (fill_shown style) as (λ (color : Option Color).
    option_map (λ own. string (color_text own)) color
    ≡ option_map string (option_map color_text color)) [
      | None ↦ refl
      | Some color ↦ refl
    ]

-- the line of a position as JSON, by its fill
abbrev object_by : ℕ × ℕ → CellValue → List ℕ → ℕ → Option Json → List ℕ
object_by position value formula id fill =
    if is_some (value_field value) || (is_some (formula_field formula) || nat_lt 0 id)
    then json_line (object (member (codes "cell") (string (reference position))
    (member (codes "type") (string (type_word value))
    (value_members value (optional_member (codes "formula") (formula_json formula)
    (optional_member (codes "fill") fill no_members)))))) else []

objects_by_fill : (values : List ((ℕ × ℕ) × CellValue)) (formulas : List ((ℕ × ℕ) × List ℕ))
    (ids : List ((ℕ × ℕ) × ℕ)) (one two : ℕ × ℕ → Option Style)
    → ((position : ℕ × ℕ) → fill_field (one position) ≡ fill_field (two position))
    → lines_in AsJson (λ position id. one position) values formulas ids
    ≡ lines_in AsJson (λ position id. two position) values formulas ids
unfolding lines_in
objects_by_fill values formulas ids one two same =
    ap (λ (fill : ℕ × ℕ → Option Json). flat_map
    (λ position. object_by position (value_placed position values)
    (formula_placed position formulas) (id_placed position ids) (fill position))
    (used_positions values formulas ids))
    (fun_ext (λ position. fill_by_field (one position) ∙ ap (option_map string) (same position)
    ∙ sym (fill_by_field (two position))))

objects_alike : (values : List ((ℕ × ℕ) × CellValue)) (formulas : List ((ℕ × ℕ) × List ℕ))
    (one two : StyleMap) → SayTheSame one two
    → object_listing values formulas one ≡ object_listing values formulas two
objects_alike values formulas one two same =
    objects_by_fill values formulas (placed_ids one) (style_at one) (style_at two)
    (fill_alike one two same)
    ∙ ap (λ (area : Option Dimensions). lines_in AsJson (λ position id. style_at two position)
    values formulas (map styled_entry (styled_in area one.ids))) same.bounds
    ∙ ap (λ (ids : List ℕ). lines_in AsJson (λ position id. style_at two position) values formulas
    (map styled_entry (styled_in two.bounds ids))) same.ids

-- so a sheet has one listing of either form
pub one_form : (form : LineForm) (parts other : List Part) (name lines others : List ℕ)
    → AreReadAlike parts other name → AreCellLines form parts name lines
    → AreCellLines form other name others → lines ≡ others
one_form Text parts other name lines others law first second =
    one_listing parts other name lines others law first second
one_form AsJson parts other name lines others law first second =
    let same = law first.values second.values first.formulas second.formulas first.styles
    second.styles first.reads second.reads in
    first.listed
    ∙ ap (λ (own : List ((ℕ × ℕ) × CellValue)). object_listing own first.formulas first.styles)
    same.0
    ∙ ap (λ (own : List ((ℕ × ℕ) × List ℕ)). object_listing second.values own first.styles) same.1
    ∙ objects_alike second.values second.formulas first.styles second.styles same.2
    ∙ sym second.listed
