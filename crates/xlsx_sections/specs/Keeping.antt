-- What the starts of a section make of what is kept.
use Rattle.std.specs.Prelude.{List, [], Bool, Option, Result, Ok}
use Rattle.part_events.specs.Words.{Tag, Event, PlacedTag, starts_by}
use Rattle.xlsx_sections.specs.Answers.{some_answers, last_answer, prepended, and_others_if}
use Rattle.xlsx_sections.specs.Answers.{or_earlier}
use Rattle.xlsx_sections.specs.Changes.{all_changes}
use Rattle.xlsx_sections.specs.Refusal.{Refusal}

-- what the wanted starts in a list of events make of a value, one after the other
abbrev pub changed_in :
    {A : Type 0} → (Tag → Bool) → (PlacedTag → A → Result A Refusal) → A → List Event →
    Result A Refusal
changed_in wanted change a events = all_changes change (starts_by wanted events) a

-- what the wanted starts in a list of events give, of those that give something
abbrev pub some_in :
    {A : Type 0} → (Tag → Bool) → (PlacedTag → Result (Option A) Refusal) → List Event →
    Result (List A) Refusal
some_in wanted answer events = some_answers answer (starts_by wanted events)

-- what the last of the wanted starts in a list of events gives that gives something
abbrev pub last_in :
    {A : Type 0} → (Tag → Bool) → (PlacedTag → Result (Option A) Refusal) → List Event →
    Result (Option A) Refusal
last_in wanted answer events = last_answer answer (starts_by wanted events)

-- what a start gives, behind what was kept
abbrev pub put_behind :
    {A : Type 0} → (PlacedTag → Result (Option A) Refusal) → PlacedTag → List A →
    Result (List A) Refusal
put_behind answer start kept = prepended kept (and_others_if (answer start) (Ok []))

-- what a start gives, or else what was kept
abbrev pub or_before :
    {A : Type 0} → (PlacedTag → Result (Option A) Refusal) → PlacedTag → Option A →
    Result (Option A) Refusal
or_before answer start kept = or_earlier kept (answer start)
