-- What the elements of cell formats say (ECMA-376 part 1, section 18.8.45).
use Rattle.std.specs.Prelude.{ℕ, ◌^◌, List, [], ◌∷◌, map, get_or, slice_get, Bool, if◌then◌else◌}
use Rattle.std.specs.Prelude.{codes, Option, Some, None, option_map, Result, Ok, Err}
use Rattle.std.specs.Option.{option_and_then, option_or, unwrap_or}
use Rattle.attr_text.specs.Words.{lookup}
use Rattle.attr_text.specs.declared.fault.AttrFault.{AttrFault}
use Rattle.part_events.specs.Words.{Tag, Event, PlacedTag, starts_by, is_named}
use Rattle.cell_data.specs.Words.{builtin_format, builtin_code, custom_format}
use Rattle.cell_data.specs.declared.format.CellFormat.{CellFormat}
use Rattle.cell_data.specs.declared.format.CellFormat.TheVariants.{Other}
use Rattle.cell_styles.specs.Words.{NumberFormatFields}
use Rattle.cell_styles.specs.declared.alignment.Alignment.{Alignment}
use Rattle.cell_styles.specs.declared.border.Borders.{Borders}
use Rattle.cell_styles.specs.declared.fill.Fill.{Fill}
use Rattle.cell_styles.specs.declared.protection.Protection.{Protection}
use Rattle.cell_styles.specs.declared.style.Style.{Style}
use Rattle.xlsx_sections.specs.Words.{all_changes, or_fault, changed_with, number_text, Refusal}
use Rattle.xlsx_sections.specs.Words.{plain, lookup_fault, number_below}
use Rattle.xlsx_styles.specs.Words.{alignment_of, protection_of, FontSaid, said_of}
use Rattle.xlsx_formats.specs.FormatCodes.{WrittenFormat, code_written, formats_kept}
use Rattle.xlsx_formats.specs.declared.formatting.Formatting.{Formatting}
use Rattle.xlsx_formats.specs.declared.formatting.NamedLists.{NamedLists}
use Rattle.xlsx_formats.specs.declared.settings.Settings.{Settings}

-- what a cell format can name: the number formats that were written before it, and the fonts, fills
-- and borders that stand before it, each in order
pub record NamedSaid : Type 0 where
  pub formats : List WrittenFormat
  pub fonts : List FontSaid
  pub fills : List Fill
  pub borders : List Borders

-- a style, the size of its font as a number
pub record StyleSaid : Type 0 where
  pub font : Option FontSaid
  pub fill : Option Fill
  pub borders : Option Borders
  pub alignment : Option Alignment
  pub number_format : Option NumberFormatFields
  pub protection : Option Protection

-- what a cell format makes of a number, and its style
pub record FormattingSaid : Type 0 where
  pub format : CellFormat
  pub style : StyleSaid

-- what a style says, the size of its font as a number
abbrev pub style_said : Style → StyleSaid
style_said style = record {
  font = option_map said_of style.font;
  fill = style.fill;
  borders = style.borders;
  alignment = style.alignment;
  number_format = style.number_format;
  protection = style.protection;
}

-- what a formatting that is kept says: what it makes of a number, and its style
abbrev pub formatting_said : Formatting → FormattingSaid
formatting_said formatting = record {
  format = formatting.format;
  style = style_said formatting.style;
}

-- what the lists that a formatting names say
abbrev pub named_said : List WrittenFormat → NamedLists → NamedSaid
named_said formats lists = record {
  formats = formats;
  fonts = map said_of lists.fonts.now;
  fills = lists.fills.now;
  borders = lists.borders.now;
}

-- what the lists that a formatting names say, where their number formats are those whose codes are
-- kept
abbrev pub named_kept : NamedLists → NamedSaid
named_kept lists = named_said (formats_kept lists.codes.now) lists

-- settings with this alignment, that of a later start
abbrev pub with_alignment : Settings → Alignment → Settings
with_alignment settings alignment = record {
  alignment = Some alignment;
  protection = settings.protection;
}

-- settings with this protection, that of a later start
abbrev pub with_protection : Settings → Protection → Settings
with_protection settings protection = record {
  alignment = settings.alignment;
  protection = Some protection;
}

-- a start of the element `alignment`
abbrev pub is_alignment : Tag → Bool
is_alignment tag = is_named (codes "alignment" ∷ []) tag

-- what a start in a formatting makes of its settings
abbrev pub setting_change : PlacedTag → Settings → Result Settings Refusal
setting_change start settings =
    if is_alignment start.tag
    then or_fault (changed_with with_alignment settings (alignment_of start.tag))
    else or_fault (changed_with with_protection settings (protection_of start.tag))

-- a start is a setting of a formatting: `alignment` or `protection`
abbrev pub is_setting : Tag → Bool
is_setting tag = is_named (codes "alignment" ∷ codes "protection" ∷ []) tag

-- settings without alignment and protection
abbrev pub no_settings : Settings
no_settings = record { alignment = None; protection = None }

-- the last alignment and the last protection of a cell format, by what stands in it
abbrev pub settings_of : List Event → Result Settings Refusal
settings_of inside = all_changes setting_change (starts_by is_setting inside) no_settings

-- what stands in a list at the number that a text writes, if it writes one, and the list is longer
abbrev pub numbered : {A : Type 0} → List A → Option (List ℕ) → Option A
numbered list text = option_and_then (slice_get list) (option_and_then number_text text)

-- what the number format of an id makes of a number: by the code that was written for it, else as
-- the built-in format of the id
abbrev pub format_by : List ℕ → Option (List ℕ) → CellFormat
format_by id None = builtin_format id
format_by id (Some code) = custom_format code

-- what the number format of this number counts; without a number nothing of time
abbrev pub format_named : (List ℕ → Option (List ℕ)) → Option (List ℕ) → CellFormat
format_named code None = Other
format_named code (Some id) = format_by id (code id)

-- the number format of an id that is a number: the code that was written for it, else that of the
-- built-in format
abbrev pub numbered_format : Option (List ℕ) → ℕ → NumberFormatFields
numbered_format code number = record {
  format_code = unwrap_or (option_or code (builtin_code number)) (codes "General");
  format_id = Some number;
}

-- the number format of this number, with its code
abbrev pub number_format_of : (List ℕ → Option (List ℕ)) → List ℕ → Option NumberFormatFields
number_format_of code id = option_map (numbered_format (code id)) (number_below (2 ^ 32) id)

-- the number format whose number a formatting tells
abbrev pub number_format_named :
    (List ℕ → Option (List ℕ)) → Option (List ℕ) → Option NumberFormatFields
number_format_named code id = option_and_then (number_format_of code) id

-- the keys of the number format, the font, the fill and the borders
abbrev pub formatting_keys : List (List ℕ)
formatting_keys =
    codes "numFmtId" ∷ codes "fontId" ∷ codes "fillId" ∷ codes "borderId" ∷ []

-- what a start with the texts of these keys says, and what is set in its element; `code` gives the
-- code that was written for an id
abbrev pub formatting_named :
    (List ℕ → Option (List ℕ)) → NamedSaid → List (Option (List ℕ)) → Settings → FormattingSaid
formatting_named code lists texts settings = record {
  format = format_named code (get_or texts 0 None);
  style = record {
    font = numbered lists.fonts (get_or texts 1 None);
    fill = numbered lists.fills (get_or texts 2 None);
    borders = numbered lists.borders (get_or texts 3 None);
    alignment = settings.alignment;
    number_format = number_format_named code (get_or texts 0 None);
    protection = settings.protection;
  };
}

-- the code that the list of written formats has for a number
abbrev pub code_said : NamedSaid → List ℕ → Option (List ℕ)
code_said lists id = code_written id lists.formats

-- a formatting by its texts and its settings
abbrev pub formatting_set :
    NamedSaid → List (Option (List ℕ)) → Result Settings Refusal → Result FormattingSaid Refusal
formatting_set lists texts (Ok settings) =
    Ok (formatting_named (code_said lists) lists texts settings)
formatting_set lists texts (Err refusal) = Err refusal

-- a formatting by its texts that were looked up, and its settings
abbrev pub formatting_by :
    NamedSaid → Result Settings Refusal → Result (List (Option (List ℕ))) AttrFault
    → Result FormattingSaid Refusal
formatting_by lists settings (Ok texts) = formatting_set lists texts settings
formatting_by lists settings (Err fault) = Err (plain (lookup_fault fault))

-- a cell format, by its start and what stands in it
abbrev pub formatting_of : NamedSaid → Tag → List Event → Result FormattingSaid Refusal
formatting_of lists tag inside =
    formatting_by lists (settings_of inside) (lookup formatting_keys tag.attributes)
