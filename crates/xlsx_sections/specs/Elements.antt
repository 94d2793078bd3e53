-- How the elements of a section are read one by one, and where its part ends.
use Rattle.std.specs.Prelude.{◌≡◌, ⊤, ℕ, suc, List, length, Bool, true, Option, Some, None, Result}
use Rattle.std.specs.Prelude.{Err, map}
use Rattle.std.specs.Borrow.{Bor}
use Rattle.part_events.specs.Words.{Tag, Event, IsStartAnd, Reading, ahead, Element, unclosed}
use Rattle.part_events.specs.Words.{is_named, IsNextElement, ClosesSection, section_ahead}
use Rattle.part_events.specs.Words.{is_closed_ahead, behind_section, section_end}
use Rattle.part_events.specs.declared.fault.XmlFault.TheVariants.{Break, Unclosed, Entity}
use Rattle.xlsx_error.specs.declared.error.XlsxError.{XlsxError}
use Rattle.xlsx_error.specs.declared.error.XlsxError.TheVariants.{OutOfMemory, Io, Xml, XmlEof}
use Rattle.xlsx_sections.specs.PartSection.{PartSection, KeepsSection, SectionFails, inside_of}
use Rattle.xlsx_sections.specs.Refusal.{Refusal}

-- a start has one of these local names, as they lie in memory
abbrev pub named_among : List (Bor (List ℕ)) → Tag → Bool
named_among names = is_named (map (λ name. name.now) names)

-- how the end of the part is told in an element, by `inner`, and outside all of them by this name
abbrev pub end_outside : List ℕ → (Element → Option (List ℕ)) → Option Element → Option (List ℕ)
end_outside name inner None = Some name
end_outside name inner (Some element) = inner element

-- how the end of the part is told in a section of this name, some of whose elements are read
abbrev pub end_among :
    (Tag → Bool) → List ℕ → (Element → Option (List ℕ)) → List Event → Option (List ℕ)
end_among wanted name inner inside = end_outside name inner (unclosed wanted inside)

-- the end of the part is told by this name, and without one by the number of the part's events
abbrev pub named_end : Option (List ℕ) → List Event → Option (List ℕ)
named_end name events = name

-- an element is refused, by what stands in it
abbrev pub IsInsideRefused :
    {A : Type 0} → (List Event → Result A Refusal) → PartSection → Refusal → Type 0
IsInsideRefused meaning s refusal = meaning (inside_of s) ≡ Err refusal

-- when the element at whose start a reader stands can't be read
abbrev pub ElementReadFails :
    {A : Type 0} → (List Event → Option (List ℕ)) → (List Event → Result A Refusal) →
    Reading → Reading → XlsxError → Type 0
ElementReadFails ending meaning old new error =
    SectionFails ending (IsInsideRefused meaning) (length old.names) old new error

-- the next wanted element is found, or the section's end
abbrev pub FindsElementIn : (Tag → Bool) → ℕ → Option ℕ → Reading → Reading → Type 0
FindsElementIn wanted base None old new = ClosesSection wanted base old new
FindsElementIn wanted base (Some at) old new =
    IsStartAnd new.source.current (λ tag. IsNextElement wanted base tag old new)

-- the elements of a section were read up to here, each to its end
pub record KeepsElements (wanted : Tag → Bool) (base : ℕ) (first now : Reading) : Type 0 where
  pub section : KeepsSection base first now
  pub unclosed :
      first.source.is_visible ≡ true →
      unclosed wanted (section_ahead base now) ≡ unclosed wanted (section_ahead base first)
  pub behind :
      first.source.is_visible ≡ true → behind_section base now ≡ behind_section base first

-- the starts of a section were read up to here, and behind the section stands what stood there
pub record KeepsStarts (base : ℕ) (first now : Reading) : Type 0 where
  pub section : KeepsSection base first now
  pub behind :
      first.source.is_visible ≡ true → behind_section base now ≡ behind_section base first

-- the refusals that reading the text of an element of this name can have, whatever the package
-- tells
abbrev pub IsTextError : List ℕ → XlsxError → Type 0
IsTextError name Io = ⊤
IsTextError name OutOfMemory = ⊤
IsTextError name (Xml (Break at why)) = ⊤
IsTextError name (Xml (Entity at)) = ⊤
IsTextError name (XmlEof element) = element.now ≡ name
IsTextError name _ = ⊥

-- the refusals that reading on to the end of an element can have, whose name is told or not
abbrev pub IsEndError : Option (List ℕ) → XlsxError → Type 0
IsEndError name Io = ⊤
IsEndError name OutOfMemory = ⊤
IsEndError name (Xml (Break at why)) = ⊤
IsEndError None (Xml (Unclosed at)) = ⊤
IsEndError (Some name) (XmlEof element) = element.now ≡ name
IsEndError name _ = ⊥

-- the end of the element that is number `base` of the open ones was taken
pub record ReachesEnd (base : ℕ) (old new : Reading) : Type 0 where
  pub closed : is_closed_ahead base old ≡ true
  pub behind : behind_section base old ≡ ahead new
  pub ends : new.at ≡ suc (section_end base old)

-- a fact, where an error tells of the part's end, or of an end that breaks the nesting
abbrev pub IfCutOff : Type 0 → XlsxError → Type 0
IfCutOff lacks (Xml (Break at why)) = lacks
IfCutOff lacks (Xml (Unclosed at)) = lacks
IfCutOff lacks (XmlEof element) = lacks
IfCutOff lacks _ = ⊤
