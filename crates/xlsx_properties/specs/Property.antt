-- The names of a workbook's properties (ECMA-376 part 2, section 11, and part 1, section 22.2).
use Rattle.std.specs.Prelude.{ℕ, ◌==◌, List, [], ◌∷◌, Bool, codes, Option, Some}
use Rattle.xlsx_properties.specs.declared.property.Property.{Property}
use Rattle.xlsx_properties.specs.declared.property.Property.TheVariants.{Creator, LastModifiedBy}
use Rattle.xlsx_properties.specs.declared.property.Property.TheVariants.{Created, Modified, Title}
use Rattle.xlsx_properties.specs.declared.property.Property.TheVariants.{Subject, Description}
use Rattle.xlsx_properties.specs.declared.property.Property.TheVariants.{Keywords, Category}
use Rattle.xlsx_properties.specs.declared.property.Property.TheVariants.{ContentStatus, Revision}
use Rattle.xlsx_properties.specs.declared.property.Property.TheVariants.{Version, Application}
use Rattle.xlsx_properties.specs.declared.property.Property.TheVariants.{AppVersion, Company}
use Rattle.xlsx_properties.specs.declared.property.Property.TheVariants.{Template, Manager}

-- the elements that the program's part may have
abbrev pub program_properties : List (List ℕ × Option Property)
program_properties =
    (codes "Application", Some Application)
    ∷ (codes "AppVersion", Some AppVersion)
    ∷ (codes "Company", Some Company)
    ∷ (codes "Template", Some Template)
    ∷ (codes "Manager", Some Manager)
    ∷ []

-- the elements that the core part may have, each with its property: its own, and those that the
-- program's part may have, too
abbrev pub core_properties : List (List ℕ × Option Property)
core_properties =
    (codes "creator", Some Creator)
    ∷ (codes "lastModifiedBy", Some LastModifiedBy)
    ∷ (codes "created", Some Created)
    ∷ (codes "modified", Some Modified)
    ∷ (codes "title", Some Title)
    ∷ (codes "subject", Some Subject)
    ∷ (codes "description", Some Description)
    ∷ (codes "keywords", Some Keywords)
    ∷ (codes "category", Some Category)
    ∷ (codes "contentStatus", Some ContentStatus)
    ∷ (codes "revision", Some Revision)
    ∷ (codes "version", Some Version)
    ∷ program_properties

-- the place of a property among all, in the order in which they are listed
abbrev pub property_place : Property → ℕ
property_place Creator = 0
property_place LastModifiedBy = 1
property_place Created = 2
property_place Modified = 3
property_place Title = 4
property_place Subject = 5
property_place Description = 6
property_place Keywords = 7
property_place Category = 8
property_place ContentStatus = 9
property_place Revision = 10
property_place Version = 11
property_place Application = 12
property_place AppVersion = 13
property_place Company = 14
property_place Template = 15
property_place Manager = 16

-- each property with the name of its field, in that order
abbrev pub named_properties : List (List ℕ × Property)
named_properties =
    (codes "creator", Creator)
    ∷ (codes "last_modified_by", LastModifiedBy)
    ∷ (codes "created", Created)
    ∷ (codes "modified", Modified)
    ∷ (codes "title", Title)
    ∷ (codes "subject", Subject)
    ∷ (codes "description", Description)
    ∷ (codes "keywords", Keywords)
    ∷ (codes "category", Category)
    ∷ (codes "content_status", ContentStatus)
    ∷ (codes "revision", Revision)
    ∷ (codes "version", Version)
    ∷ (codes "application", Application)
    ∷ (codes "app_version", AppVersion)
    ∷ (codes "company", Company)
    ∷ (codes "template", Template)
    ∷ (codes "manager", Manager)
    ∷ []

-- two properties of a workbook are one
abbrev pub is_same : Property → Property → Bool
is_same wanted own = property_place wanted == property_place own
