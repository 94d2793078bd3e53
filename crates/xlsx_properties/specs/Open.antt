-- What is open while properties are read.
use Rattle.std.specs.Prelude.{ℕ, List, Option, option_map, string_bytes}
use Rattle.xlsx_properties.specs.CustomProperties as custom
use Rattle.xlsx_properties.specs.CustomProperties.{custom_from}
use Rattle.xlsx_properties.specs.PropertyTexts.{PropertySoFar, continued, listed_in}
use Rattle.xlsx_properties.specs.Said.{Saying}
use Rattle.xlsx_properties.specs.declared.open_custom.CustomPlace.{CustomPlace}
use Rattle.xlsx_properties.specs.declared.open_custom.OpenCustom as open_custom
use Rattle.xlsx_properties.specs.declared.open_property.OpenProperty.{OpenProperty}
use Rattle.xlsx_properties.specs.declared.open_property.PropertyPart.{PropertyPart}
use Rattle.xlsx_properties.specs.declared.property.Property.{Property}

-- the property that is open, with its text so far
abbrev pub open_text : OpenProperty → PropertySoFar
open_text own = record { property = own.property; text = string_bytes own.text }

-- the property that is open, with its text so far, if one is open
abbrev pub open_in : Option OpenProperty → Option PropertySoFar
open_in started = option_map open_text started

-- what follows says of a property, where this one is open
abbrev pub property_behind :
    PropertyPart → Option OpenProperty → Saying Property (List ℕ)
property_behind part started wanted events =
    continued (listed_in part) wanted (open_in started) events

-- the property of the users that is open, with its text so far
abbrev pub custom_text_of : open_custom.OpenCustom → custom.OpenCustom
custom_text_of own = record { name = string_bytes own.name; text = string_bytes own.text }

-- the property of the users that is open, with its text so far, if one is open
abbrev pub custom_in_place : Option open_custom.OpenCustom → Option custom.OpenCustom
custom_in_place started = option_map custom_text_of started

-- what follows says of a name, from where reading stands among the users' own properties
abbrev pub custom_behind : CustomPlace → Saying (List ℕ) (List ℕ)
custom_behind place name events =
    custom_from name (custom_in_place place.started) place.takes events
