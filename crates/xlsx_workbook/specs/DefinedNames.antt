-- What the elements of defined names say.
use Rattle.std.specs.Prelude.{ℕ, ◌+◌, ◌-◌, ◌^◌, List, [], ◌∷◌, length, Bool, false, codes, Option}
use Rattle.std.specs.Prelude.{Some, None, Result, Ok, Err}
use Rattle.std.specs.List.{flat_map}
use Rattle.attr_text.specs.Words.{value_of}
use Rattle.attr_text.specs.declared.fault.AttrFault.{AttrFault}
use Rattle.part_events.specs.Words.{Tag, Event, joined_text, unknown_entity, Element, outermost}
use Rattle.part_events.specs.Words.{is_named}
use Rattle.xlsx_sections.specs.Words.{some_answers, name_by, number_below, Refusal, no_character}
use Rattle.xlsx_workbook.specs.declared.name_scope.NameScope.{NameScope}
use Rattle.xlsx_workbook.specs.declared.name_scope.NameScope.TheVariants.{Workbook, Sheet, Unread}

-- How many events of a section stand behind one that has `within` behind it in an element. `behind`
-- stand behind the start of the element, and `inside` in it.
abbrev pub behind_in_section : List Event → ℕ → ℕ → ℕ
behind_in_section inside behind within = (behind - length inside) + within

-- a defined name with its text, or the refusal of a reference in it
abbrev pub text_or_refusal :
    List ℕ → List ℕ → (ℕ → ℕ) → Option ℕ → Result (Option (List ℕ × List ℕ)) Refusal
text_or_refusal name text place None = Ok (Some (name, text))
text_or_refusal name text place (Some within) = Err (no_character (place within))

-- a name with the text of its element, behind whose start `behind` events of the section stand
abbrev pub name_with_text :
    List Event → ℕ → Result (Option (List ℕ)) Refusal → Result (Option (List ℕ × List ℕ)) Refusal
name_with_text inside behind (Ok (Some name)) =
    text_or_refusal name (joined_text false inside) (behind_in_section inside behind)
    (unknown_entity inside)
name_with_text inside behind (Ok None) = Ok None
name_with_text inside behind (Err refusal) = Err refusal

-- the defined name of an element; one without a name is passed over
abbrev pub defined_name : Element → Result (Option (List ℕ × List ℕ)) Refusal
defined_name element =
    name_with_text element.inside element.behind
    (name_by (record { tag = element.tag; behind = element.behind }))

-- a start of the element `definedName`
abbrev pub is_defined_name : Tag → Bool
is_defined_name tag = is_named (codes "definedName" ∷ []) tag

-- the defined names of a workbook's section, in order
abbrev pub names_in : List Event → Result (List (List ℕ × List ℕ)) Refusal
names_in inside = some_answers defined_name (outermost is_defined_name inside)

-- the scope of a sheet's number, counted from 0; a text that is none is a scope of no sheet
abbrev pub scope_numbered : Option ℕ → NameScope
scope_numbered None = Unread
scope_numbered (Some sheet) = Sheet sheet

-- the scope of a defined name, by what was looked up: the whole workbook where nothing is said
abbrev pub scope_by : Result (Option (List ℕ)) AttrFault → NameScope
scope_by (Ok None) = Workbook
scope_by (Ok (Some text)) = scope_numbered (number_below (2 ^ 32) text)
scope_by (Err fault) = Unread

-- the scope that the start of a defined name tells (ECMA-376 part 1, section 18.2.5)
abbrev pub scope_of : Tag → NameScope
scope_of tag = scope_by (value_of (codes "localSheetId") tag.attributes)

-- the scope of an element, if the element has a name
abbrev pub scope_where_named : NameScope → Result (Option (List ℕ)) Refusal → List NameScope
scope_where_named scope (Ok (Some name)) = scope ∷ []
scope_where_named scope (Ok None) = []
scope_where_named scope (Err refusal) = []

-- the scope of the defined name of an element, if it has one
abbrev pub scope_said : Element → List NameScope
scope_said element =
    scope_where_named (scope_of element.tag)
    (name_by (record { tag = element.tag; behind = element.behind }))

-- the scopes of the defined names of a workbook's section, in order
abbrev pub scopes_in : List Event → List NameScope
scopes_in inside = flat_map scope_said (outermost is_defined_name inside)
