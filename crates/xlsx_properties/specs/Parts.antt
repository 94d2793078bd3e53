-- The parts that say the properties of a workbook, each of which may be absent.
use Rattle.std.specs.Prelude.{◌≡◌, ℕ, List, [], codes, Option, Some, None, Result, Ok}
use Rattle.std.specs.Option.{option_or}
use Rattle.part_events.specs.Words.{Event, whole, Part, part_of}
use Rattle.xlsx_error.specs.declared.error.XlsxError.{XlsxError}
use Rattle.xlsx_sections.specs.Words.{Refusal}
use Rattle.xlsx_parts.specs.Words.{WholePartCause, IfThere}
use Rattle.looks.specs.Words.{Look, LookCause, asks, both}
use Rattle.xlsx_properties.specs.ByKeys.{if_there_by_keys}
use Rattle.xlsx_properties.specs.CustomProperties.{custom_in}
use Rattle.xlsx_properties.specs.Property.{core_properties, program_properties}
use Rattle.xlsx_properties.specs.PropertyTexts.{property_in}
use Rattle.xlsx_properties.specs.Said.{Saying, AreRefused}
use Rattle.xlsx_properties.specs.declared.property.Property.{Property}
use Rattle.xlsx_properties.specs.declared.property.Property.TheVariants.{Creator}

-- the part of the core properties
abbrev pub core_part : List ℕ
core_part = codes "docProps/core.xml"

-- the part of the program's properties
abbrev pub program_part : List ℕ
program_part = codes "docProps/app.xml"

-- the part of the users' own properties
abbrev pub custom_part : List ℕ
custom_part = codes "docProps/custom.xml"

-- what a part says of a key; an absent one says nothing
abbrev pub said_by : {K A : Type 0} → Saying K A → K → Option (List Event)
    → Result (Option A) Refusal
said_by saying key None = Ok None
said_by saying key (Some events) = saying key events

-- no end breaks the nesting of a part
abbrev pub IsWholeIfThere : Option (List Event) → Type 0
IsWholeIfThere None = Unit {0}
IsWholeIfThere (Some events) = whole events ≡ events

-- why a part can't be read for what it says
abbrev pub SaidCause : {K A : Type 0} → Saying K A → List ℕ → List Part → XlsxError → Type 0
SaidCause saying path parts error =
    IfThere (WholePartCause (AreRefused saying)) (part_of parts path) error

-- the properties of a workbook: the texts of those that have names of their own, and of the names
-- that users gave
pub record PropertiesSaid : Type 0 where
  pub texts : Property → Option (List ℕ)
  pub customs : List ℕ → Option (List ℕ)

-- properties by their texts
abbrev pub properties_with :
    (Property → Option (List ℕ)) → (List ℕ → Option (List ℕ)) → PropertiesSaid
properties_with texts customs = record { texts = texts; customs = customs }

-- of two texts of a key that of the later part, if it says one
abbrev pub later_texts : {K A : Type 0} → (K → Option A) → (K → Option A) → K → Option A
later_texts earlier later key = option_or (later key) (earlier key)

-- what the core part says, and behind it the program's
abbrev pub texts_look : Look (Property → Option (List ℕ))
texts_look =
    both later_texts
    (asks core_part (if_there_by_keys (property_in core_properties) Creator))
    (asks program_part (if_there_by_keys (property_in program_properties) Creator))

-- the properties of a workbook, by the three parts that say them
abbrev pub properties_look : Look PropertiesSaid
properties_look =
    both properties_with texts_look (asks custom_part (if_there_by_keys custom_in []))

-- why the properties of a workbook can't be read
abbrev pub PropertiesCause : List Part → XlsxError → Type 0
PropertiesCause parts error = LookCause properties_look parts error
