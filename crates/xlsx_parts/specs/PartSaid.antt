-- What the parts of a package say, each by its first section of a name, or whole.
use Rattle.std.specs.Prelude.{ℕ, ◌==◌, List, [], ◌∷◌, ◌++◌, length, Bool, if◌then◌else◌, Option}
use Rattle.std.specs.Prelude.{Some, None, option_map, option_and_then, Result, Ok, Err}
use Rattle.part_events.specs.Words.{Event, whole, Part, part_of}
use Rattle.xlsx_sections.specs.Words.{PartSection, closed_section, section_in, Refusal}

-- an answer, or none where it is refused
abbrev pub ok_or_none : {A : Type 0} → Result A Refusal → Option A
ok_or_none (Ok a) = Some a
ok_or_none (Err refusal) = None

-- what the first section of a name says, where its end is there before the nesting breaks
abbrev pub section_said :
    {A : Type 0} → List ℕ → (List Event → Result A Refusal) → List Event → Option A
section_said name meaning events =
    option_and_then (λ (inside : List Event). ok_or_none (meaning inside))
    (closed_section name events)

-- what the first section of a name says in the part at a path, if the part is there
abbrev pub part_said :
    {A : Type 0} → List ℕ → (List Event → Result A Refusal) → List Part → List ℕ → Option A
part_said name meaning parts path =
    option_and_then (section_said name meaning) (part_of parts path)

-- what stands in the place of what an absent part would say
abbrev pub unless_absent : {A : Type 0} → A → Option (List Event) → Option A → Option A
unless_absent absent None said = Some absent
unless_absent absent (Some events) said = said

-- the nesting of a part's events doesn't break
abbrev pub is_whole : List Event → Bool
is_whole events = length (whole events) == length events

-- what is said by a part whose nesting holds
abbrev pub if_whole : {A : Type 0} → List Event → Option A → Option A
if_whole events said = if is_whole events then said else None

-- what a part says that is read whole
abbrev pub whole_said : {A : Type 0} → (List Event → Result A Refusal) → List Event → Option A
whole_said meaning events = if_whole events (ok_or_none (meaning (whole events)))

-- what a section says that a part may lack, which is read to its end then
abbrev pub lacking_or :
    {A : Type 0} → A → List Event → Option PartSection → Option A → Option A
lacking_or lacking events None said = if_whole events (Some lacking)
lacking_or lacking events (Some section) said = said

-- what the section of a name says, or `lacking` where the part has none
abbrev pub section_said_or :
    {A : Type 0} → A → List ℕ → (List Event → Result A Refusal) → List Event → Option A
section_said_or lacking name meaning events =
    lacking_or lacking events (section_in name events) (section_said name meaning events)

-- two lists one behind the other, if both are there
abbrev pub put_together : {A : Type 0} → Option (List A) → Option (List A) → Option (List A)
put_together None others = None
put_together (Some first) others = option_map (λ more. first ++ more) others

-- what all of these say, where each says something
abbrev pub all_said : {X A : Type 0} → (X → Option (List A)) → List X → Option (List A)
all_said said [] = Some []
all_said said (x ∷ xs) = put_together (said x) (all_said said xs)
