-- What is asked of one part: its first section of a name, its first element, or all of it.
use Rattle.std.specs.Prelude.{◌≡◌, ◌⊎◌, ℕ, List, length, Bool, Option, Some, None, is_some}
use Rattle.std.specs.Prelude.{option_map, option_and_then, Result}
use Rattle.std.specs.Option.{option_map_or}
use Rattle.part_events.specs.Words.{Tag, Event}
use Rattle.xlsx_error.specs.declared.error.XlsxError.{XlsxError}
use Rattle.xlsx_sections.specs.Words.{Ending, FirstSectionCause, IsInsideRefused, OptionalPartCause}
use Rattle.xlsx_sections.specs.Words.{Refusal, section_events}
use Rattle.xlsx_parts.specs.Words.{FirstElementCause, IfThere, IsMeaningRefused, LackingCause}
use Rattle.xlsx_parts.specs.Words.{WholePartCause, first_said, section_said, section_said_or}
use Rattle.xlsx_parts.specs.Words.{unless_absent, whole_said}
use Rattle.xlsx_parts.proofs.SaidFrom.{mapped_from}
use Rattle.xlsx_parts.proofs.SoundParts.{no_first_said_cause, no_lacking_cause, no_said_cause}
use Rattle.xlsx_parts.proofs.SoundParts.{no_whole_cause}
use Rattle.looks.specs.Look.{PartAsk}
use Rattle.looks.specs.Lacking.{IsLacking, if_needed, needed_sound, absent_sound, required_sound}

-- what is asked of the events of a part that is there
pub record EventsAsk (A : Type 0) : Type 1 where
  -- how many of them are taken where nothing is refused
  pub exact : List Event → ℕ
  -- what they say, and why they say nothing
  pub said : List Event → Option A
  pub cause : List Event → XlsxError → Type 0
  -- what is said has no cause
  pub sound :
      (events : List Event) (own : A) (error : XlsxError) → said events ≡ Some own →
      cause events error → ⊥

-- what stands in the first section of a name, which has to be there
abbrev pub in_section :
    {A : Type 0} → List ℕ → Ending → (List Event → Result A Refusal) → EventsAsk A
in_section name ending meaning = record {
  exact = λ events. section_events name events;
  said = λ events. section_said name meaning events;
  cause = λ events. FirstSectionCause name ending (IsInsideRefused meaning) events;
  sound = λ events own error says cause.
      no_said_cause name ending own meaning (Some events) error own says cause;
}

-- the same where a part may lack the section, which it reads to its end then
abbrev pub in_section_or :
    {A : Type 0} → A → List ℕ → Ending → (List Event → Result A Refusal) → EventsAsk A
in_section_or lacking name ending meaning = record {
  exact = λ events. section_events name events;
  said = λ events. section_said_or lacking name meaning events;
  cause = λ events. LackingCause name ending (IsInsideRefused meaning) events;
  sound = λ events own error says cause.
      no_lacking_cause name ending lacking meaning events error own says cause;
}

-- what the first element of a name says by its start and by what stands in it, where the end of the
-- part in it is told by another name
abbrev pub in_first_element :
    {A : Type 0} → List ℕ → List ℕ → (Tag → List Event → Result A Refusal) → EventsAsk A
in_first_element name ended meaning = record {
  exact = λ events. section_events name events;
  said = λ events. first_said name meaning events;
  cause = λ events. FirstElementCause name ended meaning events;
  sound = λ events own error says cause.
      no_first_said_cause name ended meaning events error own says cause;
}

-- what a part says that is read to its end
abbrev pub in_whole_part : {A : Type 0} → (List Event → Result A Refusal) → EventsAsk A
in_whole_part meaning = record {
  exact = λ events. length events;
  said = λ events. whole_said meaning events;
  cause = λ events. WholePartCause (IsMeaningRefused meaning) events;
  sound = λ events own error says cause. no_whole_cause meaning events error own says cause;
}

-- what is said, put in another way
abbrev pub said_as : {A B : Type 0} → (A → B) → EventsAsk A → EventsAsk B
said_as f own = record {
  exact = own.exact;
  said = λ events. option_map f (own.said events);
  cause = own.cause;
  sound = λ events said error says cause.
      let from = mapped_from f (own.said events) said says in
      own.sound events from.0 error from.1 cause;
}

-- what may say nothing has to say something, and else is refused so
abbrev pub needing :
    {A : Type 0} → (XlsxError → Type 0) → EventsAsk (Option A) → EventsAsk A
needing lack own = record {
  exact = own.exact;
  said = λ events. if_needed (own.said events);
  cause = λ events error.
      own.cause events error ⊎ ((own.said events ≡ Some None) × lack error);
  sound = λ events needed error says cause.
      needed_sound (own.said events) needed (own.cause events error) (lack error)
      (λ some is. own.sound events (Some some) error is) says cause;
}

-- the part may be absent, and this is said then
abbrev pub or_absent : {A : Type 0} → A → EventsAsk A → PartAsk A
or_absent absent own = record {
  most = λ part. option_map_or length part 0;
  exact = λ part. option_map_or own.exact part 0;
  said = λ part. unless_absent absent part (option_and_then own.said part);
  cause = λ part. IfThere own.cause part;
  sound = λ part said error says cause.
      absent_sound absent own.said own.cause own.sound part said error says cause;
}

-- the part at this path has to be there
abbrev pub of_part : {A : Type 0} → List ℕ → EventsAsk A → PartAsk A
of_part path own = record {
  most = λ part. option_map_or length part 0;
  exact = λ part. option_map_or own.exact part 0;
  said = λ part. option_and_then own.said part;
  cause = λ part error. IsLacking path part error ⊎ IfThere own.cause part error;
  sound = λ part said error says cause.
      required_sound path own.said own.cause own.sound part said error says cause;
}

-- what stands in the first section of a name of a part that may be absent, and this is said then
abbrev pub section_or :
    {A : Type 0} → A → List ℕ → Ending → (List Event → Result A Refusal) → PartAsk A
section_or absent name ending meaning = record {
  most = λ part. option_map_or length part 0;
  exact = λ part. option_map_or (section_events name) part 0;
  said = λ part. unless_absent absent part (option_and_then (section_said name meaning) part);
  cause = λ part. OptionalPartCause name ending (IsInsideRefused meaning) part;
  sound = λ part own error says cause.
      no_said_cause name ending absent meaning part error own says cause;
}

-- whether a part is there, which takes none of its events
abbrev pub is_there : PartAsk Bool
is_there = record {
  most = λ part. 0;
  exact = λ part. 0;
  said = λ part. Some (is_some part);
  cause = λ part error. ⊥;
  sound = λ part own error says cause. cause;
}
