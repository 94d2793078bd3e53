-- What a step in a section comes to, for every place from which the section was kept up to here.
use Rattle.std.specs.Prelude.{◌≡◌, ℕ, suc, ◌+◌, ◌<◌, ◌≤◌, List, [], ◌∷◌, length, Bool, true, Option}
use Rattle.std.specs.Prelude.{Some, None}
use Rattle.part_events.specs.Words.{Tag, Event, IsStartAnd, Reading, TakesEvent, StepsAhead}
use Rattle.part_events.specs.Words.{Element, outermost, starts_by, IsNextElement, section_ahead}
use Rattle.part_events.specs.Words.{behind_section, section_end}
use Rattle.xlsx_error.specs.declared.error.XlsxError.{XlsxError}
use Rattle.xlsx_sections.specs.Elements.{KeepsElements, KeepsStarts, ReachesEnd, end_among}
use Rattle.xlsx_sections.specs.PartSection.{KeepsSection, SectionFails, Never, section_left}
use Rattle.xlsx_sections.specs.PartSection.{last_of}

-- a wanted start of a section was found, which is event number `place` of its part
pub record IsStartFound (wanted : Tag → Bool) (base : ℕ) (tag : Tag) (place : ℕ)
    (first old new : Reading) : Type 0 where
  pub keeps : KeepsStarts base first new
  pub starts :
      first.source.is_visible ≡ true →
      starts_by wanted (section_ahead base old)
      ≡ record { tag = tag; behind = length (section_ahead base new) }
      ∷ starts_by wanted (section_ahead base new)
  pub there :
      first.source.is_visible ≡ true →
      place + suc (length (section_ahead base new)) ≡ last_of (section_left base first)

-- the next wanted start, or the end of the section, in which none is left
abbrev pub StepsToStart : (Tag → Bool) → ℕ → Option ℕ → Reading → Reading → Reading → Type 0
StepsToStart wanted base None first old new =
    first.source.is_visible ≡ true →
    ReachesEnd base first new × (starts_by wanted (section_ahead base old) ≡ [])
StepsToStart wanted base (Some place) first old new =
    IsStartAnd new.source.current (λ tag. IsStartFound wanted base tag place first old new)

-- a wanted element of a section was found, whose start is event number `place` of its part
pub record IsElementFound (wanted : Tag → Bool) (base : ℕ) (tag : Tag) (place : ℕ)
    (first old new : Reading) : Type 0 where
  pub before : KeepsElements wanted base first old
  pub read : KeepsSection base first new
  pub next : first.source.is_visible ≡ true → IsNextElement wanted base tag old new
  pub deep : base < length new.names
  pub there :
      first.source.is_visible ≡ true →
      place + suc (length (section_ahead base new)) ≡ last_of (section_left base first)

-- the next wanted element, or the end of the section, in which none is left
abbrev pub StepsToElement : (Tag → Bool) → ℕ → Option ℕ → Reading → Reading → Reading → Type 0
StepsToElement wanted base None first old new =
    first.source.is_visible ≡ true →
    ReachesEnd base first new × (outermost wanted (section_ahead base old) ≡ [])
StepsToElement wanted base (Some place) first old new =
    IsStartAnd new.source.current (λ tag. IsElementFound wanted base tag place first old new)

-- a step comes to the next wanted element, or to the end of the section, by every place from which
-- the elements of the section were read up to here
abbrev pub StepsFromAny : (Tag → Bool) → ℕ → Option ℕ → Reading → Reading → Type 0
StepsFromAny wanted base found old new =
    (first : Reading) → KeepsElements wanted base first old
    → StepsToElement wanted base found first old new

-- a step to the next wanted element is refused, however the end of the part is told in an element
abbrev pub ElementStepFails : (Tag → Bool) → List ℕ → ℕ → Reading → Reading → XlsxError → Type 0
ElementStepFails wanted name base old new error =
    (inner : Element → Option (List ℕ))
    → SectionFails (end_among wanted name inner) Never base old new error

-- the section is refused with a step to its next wanted element, from every place from which its
-- elements were read up to here
abbrev pub ElementStepRefused :
    (Tag → Bool) → List ℕ → ℕ → Reading → Reading → XlsxError → Type 0
ElementStepRefused wanted name base old new error =
    (first : Reading) (inner : Element → Option (List ℕ)) → KeepsElements wanted base first old
    → SectionFails (end_among wanted name inner) Never base first new error

-- an event of a section was taken, which is number `place` of its part
pub record IsEventInside (base : ℕ) (event : Event) (place : ℕ) (first old new : Reading) : Type 0
  where
    pub read : KeepsSection base first new
    pub current : event ≡ new.source.current
    pub was : base ≤ length old.names
    pub takes : TakesEvent old new
    pub steps : first.source.is_visible ≡ true → StepsAhead true old new
    pub left : first.source.is_visible ≡ true → section_ahead base old ≡ event
        ∷ section_ahead base new
    pub behind : first.source.is_visible ≡ true → behind_section base old ≡ behind_section base new
    pub ends : first.source.is_visible ≡ true → section_end base old ≡ section_end base new
    pub there :
        first.source.is_visible ≡ true →
        place + suc (length (section_ahead base new)) ≡ last_of (section_left base first)
