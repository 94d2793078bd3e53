-- The names that starts give their elements, and what names stand for.
use Rattle.std.specs.Prelude.{⊤, ℕ, List, [], ◌∷◌, if◌then◌else◌, codes, Option, Some, None, Result}
use Rattle.std.specs.Prelude.{Ok, Err}
use Rattle.std.specs.Str.{bytes_eq}
use Rattle.attr_text.specs.Words.{value_of}
use Rattle.attr_text.specs.declared.fault.AttrFault.{AttrFault}
use Rattle.part_events.specs.Words.{PlacedTag}
use Rattle.part_events.specs.declared.fault.XmlFault.TheVariants.{Entity}
use Rattle.xlsx_error.specs.declared.error.XlsxError.{XlsxError}
use Rattle.xlsx_error.specs.declared.error.XlsxError.TheVariants.{OutOfMemory, Xml, XmlAttr}
use Rattle.xlsx_sections.specs.Refusal.{Refusal, plain, lookup_fault, decoded_at}

-- a text that is there
abbrev pub some_text : Result (List ℕ) Refusal → Result (Option (List ℕ)) Refusal
some_text (Ok text) = Ok (Some text)
some_text (Err refusal) = Err refusal

-- the name that was looked up, its references resolved
abbrev pub name_from :
    ℕ → Result (Option (List ℕ)) AttrFault → Result (Option (List ℕ)) Refusal
name_from behind (Ok (Some name)) = some_text (decoded_at behind name)
name_from behind (Ok None) = Ok None
name_from behind (Err fault) = Err (plain (lookup_fault fault))

-- the name, decoded, of a start that has one
abbrev pub name_by : PlacedTag → Result (Option (List ℕ)) Refusal
name_by start = name_from start.behind (value_of (codes "name") start.tag.attributes)

-- the refusals that reading the decoded name of a start can have
abbrev pub IsNameError : XlsxError → Type 0
IsNameError OutOfMemory = ⊤
IsNameError (Xml (Entity at)) = ⊤
IsNameError (XmlAttr fault) = ⊤
IsNameError _ = ⊥

-- the value that a text names in a table, or another one
abbrev pub named : {A : Type 0} → List (List ℕ × A) → A → List ℕ → A
named [] other text = other
named (entry ∷ entries) other text =
    if bytes_eq text entry.0 then entry.1 else named entries other text
