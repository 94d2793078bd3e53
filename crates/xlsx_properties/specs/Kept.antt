-- The texts of a workbook's properties as they are kept.
use Rattle.std.specs.Prelude.{◌≡◌, ℕ, List, map, Option, option_map, string_bytes, String}
use Rattle.std.specs.BTreeMap.{get_by_text}
use Rattle.std.specs.declared.alloc.Global.{Global}
use Rattle.xlsx_properties.specs.Parts.{PropertiesSaid, properties_with}
use Rattle.xlsx_properties.specs.declared.property.Property.{Property}
use Rattle.xlsx_properties.specs.declared.property.Property.TheVariants.{Creator, LastModifiedBy}
use Rattle.xlsx_properties.specs.declared.property.Property.TheVariants.{Created, Modified, Title}
use Rattle.xlsx_properties.specs.declared.property.Property.TheVariants.{Subject, Description}
use Rattle.xlsx_properties.specs.declared.property.Property.TheVariants.{Keywords, Category}
use Rattle.xlsx_properties.specs.declared.property.Property.TheVariants.{ContentStatus, Revision}
use Rattle.xlsx_properties.specs.declared.property.Property.TheVariants.{Version, Application}
use Rattle.xlsx_properties.specs.declared.property.Property.TheVariants.{AppVersion, Company}
use Rattle.xlsx_properties.specs.declared.property.Property.TheVariants.{Template, Manager}
use Rattle.xlsx_properties.specs.declared.workbook_properties.WorkbookProperties.{
  WorkbookProperties,
}

-- the text that is kept of a property
abbrev pub held : Property → WorkbookProperties → Option (List ℕ)
held Creator kept = option_map string_bytes kept.creator
held LastModifiedBy kept = option_map string_bytes kept.last_modified_by
held Created kept = option_map string_bytes kept.created
held Modified kept = option_map string_bytes kept.modified
held Title kept = option_map string_bytes kept.title
held Subject kept = option_map string_bytes kept.subject
held Description kept = option_map string_bytes kept.description
held Keywords kept = option_map string_bytes kept.keywords
held Category kept = option_map string_bytes kept.category
held ContentStatus kept = option_map string_bytes kept.content_status
held Revision kept = option_map string_bytes kept.revision
held Version kept = option_map string_bytes kept.version
held Application kept = option_map string_bytes kept.application
held AppVersion kept = option_map string_bytes kept.app_version
held Company kept = option_map string_bytes kept.company
held Template kept = option_map string_bytes kept.template
held Manager kept = option_map string_bytes kept.manager

-- the text that a user's own name has
abbrev pub custom_held : List ℕ → WorkbookProperties → Option (List ℕ)
custom_held name kept = option_map string_bytes (get_by_text kept.custom_properties name)

-- the name and the text of an entry
abbrev pub entry_texts : String Global × String Global → List ℕ × List ℕ
entry_texts entry = (string_bytes entry.0, string_bytes entry.1)

-- the names that users gave, with their texts, in the order of the names
abbrev pub custom_texts : WorkbookProperties → List (List ℕ × List ℕ)
custom_texts kept = map entry_texts kept.custom_properties.entries

-- the properties that are kept
abbrev pub properties_kept : WorkbookProperties → PropertiesSaid
properties_kept kept = properties_with (λ own. held own kept) (λ name. custom_held name kept)

-- two lists of properties have the same texts
pub record AreSame (one other : WorkbookProperties) : Type 0 where
  pub held : (own : Property) → held own one ≡ held own other
  pub custom : custom_texts one ≡ custom_texts other
  pub named : (name : List ℕ) → custom_held name one ≡ custom_held name other
