-- How a part is read whole.
use Rattle.std.proofs.Common.{◌≡◌, ℕ, zero, suc, List, [], ◌∷◌, ◌++◌, length, reverse, true, false}
use Rattle.std.proofs.Common.{Option, Some, None, refl, ◌∙◌, ap, arith, subst, append-nil, Result}
use Rattle.std.proofs.Common.{Err}
use Rattle.std.specs.Prelude.{slice_get, if◌then◌else◌, not}
use Rattle.std.specs.Option.{option_map_or}
use Rattle.std.specs.Str.{bytes_eq}
use Rattle.std.proofs.lemmas.List.{length-reverse}
use Rattle.part_events.specs.Words.{Tag, Event, start, end, leaf, is_flaw, open_name, closes}
use Rattle.part_events.specs.Words.{whole_rest, whole, PackageState, Reading, IsReading, ReadsOn}
use Rattle.part_events.specs.Words.{IsAtEnd, events_of, content, is_closed, section_ahead}
use Rattle.part_events.specs.Words.{is_closed_ahead, inside}
use Rattle.part_events.specs.declared.fault.XmlFault.TheVariants.{Break, Unclosed}
use Rattle.part_events.proofs.Onward.{whole_at_end}
use Rattle.xlsx_error.specs.declared.error.XlsxError.{XlsxError}
use Rattle.xlsx_error.specs.declared.error.XlsxError.TheVariants.{OutOfMemory, Io, Xml, XmlEof}
use Rattle.xlsx_sections.specs.Words.{Ending, section_left, last_of, IsInsideRefused, Refusal}
use Rattle.xlsx_sections.proofs.Failing.{fails_by_weaker, same_parts}
use Rattle.xlsx_sections.proofs.Refused.{refused_weaker}
use Rattle.xlsx_sections.proofs.SectionsRead.{nothing_past, ahead_at_first}
use Rattle.xlsx_sections.proofs.StartsSaid.{FailsFrom}
use Rattle.xlsx_parts.specs.WholePart.{IsMeaningRefused, WholePartCause, WholePartFails, StepFails}
use Rattle.xlsx_parts.specs.WholePart.{EndsPart, IsBroken}

-- these are the names of the open elements behind these events
abbrev AreOpen : List (List ℕ) → List Event → Type 0
AreOpen names past = (outside : ℕ) → open_name outside past ≡ slice_get names outside

open_at_start : (tag : Tag) (names : List (List ℕ)) (past : List Event) → AreOpen names past
    → AreOpen (tag.name ∷ names) (start tag ∷ past)
open_at_start tag names past are zero = refl
open_at_start tag names past are (suc outside) = are outside

open_at_end : (name first : List ℕ) (names : List (List ℕ)) (past : List Event)
    → AreOpen (first ∷ names) past → AreOpen names (end name ∷ past)
open_at_end name first names past are outside = are (suc outside)

-- no end of a part lies outside its elements, up to the first that breaks the nesting
pub record IsInsidePart (within : ℕ) (events : List Event) : Type 0 where
  pub content : content within events ≡ events
  pub unclosed : is_closed within events ≡ false

inside_with : (event : Event) (before after : ℕ) (events : List Event)
    → content before (event ∷ events) ≡ event ∷ content after events
    → is_closed before (event ∷ events) ≡ is_closed after events → IsInsidePart after events
    → IsInsidePart before (event ∷ events)
inside_with event before after events same closed is = record {
  content = same ∙ ap (λ (rest : List Event). event ∷ rest) is.content;
  unclosed = closed ∙ is.unclosed;
}

closes_none : (name : List ℕ) (past : List Event) → AreOpen [] past → closes past name ≡ false
closes_none name past are =
    ap (λ (first : Option (List ℕ)). option_map_or (bytes_eq name) first false) (are 0)

pub inside_part : (names : List (List ℕ)) (past rest : List Event) → AreOpen names past
    → IsInsidePart (length names) (whole_rest past rest)
inside_part names past [] are = record { content = refl; unclosed = refl }
inside_part names past (start tag ∷ rest) are =
    inside_with (start tag) (length names) (suc (length names)) (whole_rest (start tag ∷ past) rest)
    refl refl (inside_part (tag.name ∷ names) (start tag ∷ past) rest
    (open_at_start tag names past are))
inside_part [] past (end name ∷ rest) are =
    rw (closes_none name past are) (record { content = refl; unclosed = refl })
inside_part (first ∷ names) past (end name ∷ rest) are =
    elim (closes past name) as (λ b. IsInsidePart (suc (length names))
    (if b then end name ∷ whole_rest (end name ∷ past) rest else [])) [
      | true ↦ inside_with (end name) (suc (length names)) (length names)
          (whole_rest (end name ∷ past) rest) refl refl
          (inside_part names (end name ∷ past) rest (open_at_end name first names past are))
      | false ↦ record { content = refl; unclosed = refl }
    ]
inside_part names past (leaf kind ∷ rest) are =
    elim (is_flaw kind) as (λ b. IsInsidePart (length names)
    (if not b then leaf kind ∷ whole_rest (leaf kind ∷ past) rest else [])) [
      | true ↦ record { content = refl; unclosed = refl }
      | false ↦ inside_with (leaf kind) (length names) (length names)
          (whole_rest (leaf kind ∷ past) rest) refl refl
          (inside_part names (leaf kind ∷ past) rest are)
    ]

-- what is left of a part of which nothing was taken
pub record BeginsPart (r : Reading) : Type 0 where
  pub past : r.source.past ≡ []
  pub ahead : section_ahead 0 r ≡ whole (events_of r)
  pub last : last_of (section_left 0 r) ≡ length (whole (events_of r))
  pub unclosed : is_closed_ahead 0 r ≡ false

pub begins_part : (r : Reading) → IsReading r → r.at ≡ 0 → r.source.is_visible ≡ true → BeginsPart r
begins_part r is first told =
    let past = nothing_past r is first told in
    let tracked = is.tracked told in
    let all = ahead_at_first r past in
    let there = inside_part r.names r.source.past r.source.rest tracked.names in
    let none : inside 0 r ≡ length r.names = omega arith in
    let here : section_ahead 0 r ≡ whole (events_of r) = rw none (there.content ∙ all) in
    record {
      past = past;
      ahead = here;
      last = omega (arith, first, ap length here);
      unclosed = rw none there.unclosed;
    }

-- the end of a part
pub part_ended : {first old new : Reading} → ReadsOn first old → ReadsOn old new → IsAtEnd new
    → first.source.is_visible ≡ true → EndsPart first new
part_ended {first = first} {old = old} {new = new} before reads ended told =
    let still = before.moves.parts.is_visible ∙ told in
    let last = reads.moves.parts.is_visible ∙ still in
    let events : events_of new ≡ events_of first =
    reads.stays.part still ∙ before.stays.part told in
    let tracked = reads.stays.reading.tracked last in
    let own : events_of new ≡ reverse new.source.past =
    ap (λ (rest : List Event). reverse new.source.past ++ rest) ended.rest
    ∙ append-nil (reverse new.source.past) in (
      subst (λ (all : List Event). whole all ≡ all) (before.stays.part told)
          (whole_at_end reads ended still),
      omega (
        arith,
        tracked.at,
        length-reverse new.source.past,
        ap length own,
        ap length events,
      ),
    )

-- where a section isn't told by the end of its part, it is refused as a part is that is read whole
pub whole_refused : {A : Type 0} (meaning : List Event → Result A Refusal) (first : Reading)
    (last : PackageState) (error : XlsxError) → (first.source.is_visible ≡ true → BeginsPart first)
    → ((ending : Ending) → FailsFrom ending (IsInsideRefused meaning) 0 first last error)
    → WholePartFails (IsMeaningRefused meaning) first last error
whole_refused meaning first last Io begins fails = fails (λ _. None)
whole_refused meaning first last OutOfMemory begins fails = tt
whole_refused meaning first last (Xml (Break at why)) begins fails = λ told.
    (fails (λ _. None) told).0
whole_refused meaning first last (Xml (Unclosed at)) begins fails = λ told.
    let never : Some [] ≡ None = (fails (λ _. Some []) told).1 in absurd (cc)
whole_refused meaning first last (XmlEof element) begins fails = λ told.
    let never : None ≡ Some element.now = (fails (λ _. None) told).1 in absurd (cc)
whole_refused meaning first last error begins fails = λ told.
    let here = begins told in
    refused_weaker (last_of (section_left 0 first)) (length (whole (events_of first)))
    (IsMeaningRefused meaning (whole (events_of first)))
    (IsInsideRefused meaning (section_left 0 first)) error
    (λ refusal is. subst (λ (events : List Event). meaning events ≡ Err refusal) here.ahead is)
    here.last (fails (λ _. None) told)

broken_cause : (refused : List Event → Refusal → Type 0) (events : List Event) (error : XlsxError)
    → IsBroken events error → WholePartCause refused events error
broken_cause refused events (Xml (Break at why)) is = is
broken_cause refused events _ is = absurd is

-- a step over the part is refused, and so is the part
pub whole_step_refused : (refused : List Event → Refusal → Type 0) (first new : Reading)
    (error : XlsxError) → StepFails first new error
    → WholePartFails refused first new.source error
whole_step_refused refused first new error fails =
    fails_by_weaker (WholePartCause refused (events_of first)) (IsBroken (events_of first))
    new.source error (same_parts first.source)
    (λ told is. broken_cause refused (events_of first) error is) fails
