-- What the first element of a name says, and when it is refused.
use Rattle.std.proofs.Common.{◌≡◌, ℕ, List, [], ◌∷◌, Bool, true, Option, Some, None, Result, refl}
use Rattle.std.proofs.Common.{ap, ◌∙◌, sym, length, suc, false}
use Rattle.std.specs.Prelude.{option_map, if◌then◌else◌}
use Rattle.std.specs.Option.{option_map_or}
use Rattle.part_events.specs.Words.{Tag, Event, start, end, leaf, whole, PackageState, SameParts}
use Rattle.part_events.specs.Words.{Reading, events_of, behind_start, is_named}
use Rattle.part_events.specs.declared.fault.XmlFault.TheVariants.{Break}
use Rattle.xlsx_error.specs.declared.error.XlsxError.{XlsxError}
use Rattle.xlsx_error.specs.declared.error.XlsxError.TheVariants.{Xml}
use Rattle.xlsx_sections.specs.Words.{FailsBy, PartSection, section_in, section_from, last_of}
use Rattle.xlsx_sections.specs.Words.{always, StartCause, SectionCause, Refusal, section_events}
use Rattle.xlsx_sections.proofs.Failing.{fails_by_weaker, same_parts}
use Rattle.xlsx_parts.specs.FirstElement.{StartAhead, PartElement, first_start, element_with}
use Rattle.xlsx_parts.specs.FirstElement.{element_from, element_in, IsElementRefused}
use Rattle.xlsx_parts.specs.FirstElement.{FirstElementCause}
use Rattle.xlsx_parts.specs.WholePart.{IsBroken, FindSectionFails}

behind_first : (wanted : Tag → Bool) (events : List Event)
    → behind_start wanted events
    ≡ option_map (λ (found : StartAhead). found.ahead) (first_start wanted events)
behind_first wanted [] = refl
behind_first wanted (start tag ∷ events) =
    elim (wanted tag) as (λ b. (if b then Some events else behind_start wanted events)
    ≡ option_map (λ (found : StartAhead). found.ahead)
    (if b then Some (record { tag = tag; ahead = events }) else first_start wanted events)) [
      | true ↦ refl
      | false ↦ behind_first wanted events
    ]
behind_first wanted (end name ∷ events) = behind_first wanted events
behind_first wanted (leaf kind ∷ events) = behind_first wanted events

section_with : (events : List Event) (found : Option StartAhead) (element : PartElement)
    → option_map (element_from events) found ≡ Some element
    → option_map (section_from events)
    (option_map (λ (first : StartAhead). first.ahead) found) ≡ Some element.section
section_with events None element is = absurd (cc)
section_with events (Some first) element is =
    let same : element_from events first ≡ element = cc in
    ap (λ (own : PartElement). Some own.section) same

-- the section of the first element of a name is the first section of that name
pub section_of_element : (name : List ℕ) (events : List Event) (element : PartElement)
    → element_in name events ≡ Some element → section_in name events ≡ Some element.section
section_of_element name events element is =
    ap (option_map (section_from events)) (behind_first (is_named (name ∷ [])) (whole events))
    ∙ section_with events (first_start (is_named (name ∷ [])) (whole events)) element is

without_section : (events : List Event) (found : Option StartAhead)
    → option_map (section_from events)
    (option_map (λ (first : StartAhead). first.ahead) found) ≡ None
    → option_map (element_from events) found ≡ None
without_section events None is = refl
without_section events (Some first) is = absurd (cc)

-- without such a section there is no such element
pub no_element : (name : List ℕ) (events : List Event) → section_in name events ≡ None
    → element_in name events ≡ None
no_element name events none =
    without_section events (first_start (is_named (name ∷ [])) (whole events))
    (sym (ap (option_map (section_from events))
    (behind_first (is_named (name ∷ [])) (whole events))) ∙ none)

-- how many events the part has up to its end
pub element_events : (name : List ℕ) (events : List Event) (element : PartElement)
    → element_in name events ≡ Some element
    → section_events name events ≡ suc (last_of element.section)
element_events name events element is =
    ap (λ (found : Option PartSection). option_map_or (λ s. suc (last_of s)) found (length events))
    (section_of_element name events element is)

broken_start : (ended : List ℕ) (events : List Event) (error : XlsxError)
    → IsBroken events error → StartCause ended events error
broken_start ended events (Xml (Break at why)) is = is
broken_start ended events _ is = absurd is

-- its start isn't found, since the nesting breaks
pub find_element_refused : {A : Type 0} (name ended : List ℕ)
    (meaning : Tag → List Event → Result A Refusal) (old new : Reading) (error : XlsxError)
    → FindSectionFails name old new error
    → FailsBy (FirstElementCause name ended meaning (events_of old)) old.source new.source error
find_element_refused name ended meaning old new error fails =
    fails_by_weaker (FirstElementCause name ended meaning (events_of old))
    (λ own. (section_in name (events_of old) ≡ None) × IsBroken (events_of old) own) new.source
    error (same_parts old.source)
    (λ told both. rw (no_element name (events_of old) both.0)
    (broken_start ended (events_of old) error both.1)) fails

-- it is refused behind its start
pub element_refused : {A : Type 0} {tag : Tag} {s : PartSection} (name ended : List ℕ)
    (meaning : Tag → List Event → Result A Refusal) (old : Reading) (mid new : PackageState)
    (error : XlsxError) → SameParts old.source mid
    → (old.source.is_visible ≡ true → element_in name (events_of old) ≡ Some (element_with tag s))
    → FailsBy (SectionCause (always ended) (IsElementRefused meaning tag) s) mid new error
    → FailsBy (FirstElementCause name ended meaning (events_of old)) old.source new error
element_refused {tag = tag} {s = s} name ended meaning old mid new error same found fails =
    fails_by_weaker (FirstElementCause name ended meaning (events_of old))
    (SectionCause (always ended) (IsElementRefused meaning tag) s) new error same
    (λ told cause. rw (found told) cause) fails
