-- A line is a list of fields, each with a key: as text the fields have tabs between them, and as
-- JSON the line is an object of the keys.
use Rattle.std.specs.Prelude.{ℕ, List, [], ◌∷◌, ◌++◌, codes, map, string_bytes, Option, Some, None}
use Rattle.std.specs.Prelude.{option_map}
use Rattle.std.specs.List.{flat_map}
use Rattle.std.specs.Option.{option_copied}
use Rattle.cell_refs.specs.Words.{reference}
use Rattle.cell_refs.specs.declared.dimensions.Dimensions.{Dimensions}
use Rattle.escaped_text.specs.Escaped.{escaped}
use Rattle.json.specs.Json.{Json, string, array, object, Items, no_items, item, Members, no_members}
use Rattle.json.specs.Json.{member}
use Rattle.json_lines.specs.JsonLines.{json_line, optional_member}
use Rattle.list_lines.specs.declared.content.Content.{Content}
use Rattle.list_lines.specs.declared.content.Content.TheVariants as held
use Rattle.list_lines.specs.declared.content.Listed.{Listed}
use Rattle.list_lines.specs.declared.content.Listed.TheVariants as held_list
use Rattle.list_lines.specs.declared.content.LineForm.{LineForm}
use Rattle.list_lines.specs.declared.content.LineForm.TheVariants.{Text, Json as AsJson}
use Rattle.list_lines.specs.declared.field.Field.{Field as HeldField}

-- what a field of a line is of: what it holds
pub data Value : Type 0 where
  -- a word of the program, as it is
  word : List ℕ → Value
  -- a text, escaped
  text : List ℕ → Value
  -- a text behind a mark that tells what it is
  marked : List ℕ → List ℕ → Value
  -- a text that may be missing
  optional : Option (List ℕ) → Value
  position : ℕ × ℕ → Value
  area : Dimensions → Value
  -- an area that may be missing
  optional_area : Option Dimensions → Value

-- a key and what stands there
pub record Field : Type 0 where
  pub key : List ℕ
  pub value : Value

-- a field of this key
abbrev pub keyed : List ℕ → Value → Field
keyed key value = record { key = key; value = value }

-- what ends a line: texts or areas under a key, or nothing
pub data Series : Type 0 where
  nothing : Series
  texts : List ℕ → List (List ℕ) → Series
  areas : List ℕ → List Dimensions → Series

-- ---- as text

-- a field of a line behind its first
abbrev pub next_field : List ℕ → List ℕ
next_field field = codes "\t" ++ field

-- a text that is there, which may be empty
abbrev pub text_field : List ℕ → List ℕ
text_field own = codes "=" ++ escaped own

-- the field of a text that may be missing: `-` where it is
abbrev pub optional_field : Option (List ℕ) → List ℕ
optional_field None = codes "-"
optional_field (Some own) = text_field own

-- an area by its two corners, as they were written
abbrev pub area_field : Dimensions → List ℕ
area_field own = reference own.start ++ (codes ":" ++ reference own.end)

-- an area that may be missing
abbrev pub optional_area_field : Option Dimensions → List ℕ
optional_area_field None = codes "-"
optional_area_field (Some own) = area_field own

-- the text of a field
abbrev pub value_text : Value → List ℕ
value_text (word own) = own
value_text (text own) = escaped own
value_text (marked mark own) = mark ++ escaped own
value_text (optional own) = optional_field own
value_text (position own) = reference own
value_text (area own) = area_field own
value_text (optional_area own) = optional_area_field own

-- the texts of the fields behind the first, each behind a tab
abbrev pub further_texts : List Field → List ℕ
further_texts fields = flat_map (λ field. next_field (value_text field.value)) fields

-- the texts of fields, with tabs between them
abbrev pub field_texts : List Field → List ℕ
field_texts [] = []
field_texts (field ∷ fields) = value_text field.value ++ further_texts fields

-- a field for each text or area
abbrev pub series_text : Series → List ℕ
series_text nothing = []
series_text (texts key own) = flat_map (λ one. next_field (escaped one)) own
series_text (areas key own) = flat_map (λ one. next_field (area_field one)) own

-- the line of fields as text
abbrev pub text_line : List Field → Series → List ℕ
text_line fields series = field_texts fields ++ (series_text series ++ codes "\n")

-- ---- as JSON

-- the value of a field, which may be missing
abbrev pub value_json : Value → Option Json
value_json (word own) = Some (string own)
value_json (text own) = Some (string own)
value_json (marked mark own) = Some (string own)
value_json (optional own) = option_map string own
value_json (position own) = Some (string (reference own))
value_json (area own) = Some (string (area_field own))
value_json (optional_area own) = option_map (λ one. string (area_field one)) own

-- the members of fields, in front of others; none of what is missing
abbrev pub field_members : List Field → Members → Members
field_members [] members = members
field_members (field ∷ fields) members =
    optional_member field.key (value_json field.value) (field_members fields members)

-- the items of an array of texts
abbrev pub string_items : List (List ℕ) → Items
string_items [] = no_items
string_items (own ∷ others) = item (string own) (string_items others)

-- the member of the texts or areas that end a line
abbrev pub series_members : Series → Members
series_members nothing = no_members
series_members (texts key own) = member key (array (string_items own)) no_members
series_members (areas key own) =
    member key (array (string_items (map area_field own))) no_members

-- the value of JSON that a line is: an object of its fields, and of what ends it
abbrev pub line_value : List Field → Series → Json
line_value fields series = object (field_members fields (series_members series))

-- the line of fields in a form, as text or as JSON, with what ends it
abbrev pub line : LineForm → List Field → Series → List ℕ
line Text fields series = text_line fields series
line AsJson fields series = json_line (line_value fields series)

-- ---- what the code holds

-- what a field of a line holds, as definitions see it
abbrev pub value_meant : Content → Value
value_meant (held.Word own) = word own.now
value_meant (held.Text own) = text own.now
value_meant (held.Marked mark own) = marked mark.now own.now
value_meant (held.Optional own) = optional (option_copied own)
value_meant (held.Position own) = position own
value_meant (held.Area own) = area own
value_meant (held.OptionalArea own) = optional_area own

-- a field of a line that is held, as definitions see it
abbrev pub field_meant : HeldField → Field
field_meant own = keyed own.key.now (value_meant own.content)

-- what is held behind the fields of a line, as definitions see it
abbrev pub series_meant : Listed → Series
series_meant held_list.Nothing = nothing
series_meant (held_list.Texts key own) = texts key.now (map string_bytes own.now)
series_meant (held_list.Areas key own) = areas key.now own.now
