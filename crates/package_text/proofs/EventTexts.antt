-- How the texts of events begin.
use Rattle.std.proofs.Common.{◌≡◌, ℕ, zero, suc, ◌+◌, ◌<◌, ◌≤◌, List, [], ◌∷◌, length, drop, true}
use Rattle.std.proofs.Common.{false, Some, refl, ap, ◌∙◌, arith, Bor}
use Rattle.std.proofs.lemmas.List.{drop-drop, length-drop}
use Rattle.std.specs.Prelude.{slice_get}
use Rattle.std.specs.Str.{bytes_eq}
use Rattle.part_events.specs.Words.{Event, Tag, event_of, tag_of, start, end, leaf}
use Rattle.part_events.specs.declared.event.StartTag.{StartTag}
use Rattle.part_events.specs.declared.event.PartEvent.{PartEvent}
use Rattle.part_events.specs.declared.event.PartEvent.TheVariants.{Start, End, Text, CharData}
use Rattle.part_events.specs.declared.event.PartEvent.TheVariants.{EntityRef, Flaw, Other}
use Rattle.package_text.specs.WrittenPackage.{texts_of_event, texts_of_empty, event_texts}
use Rattle.package_text.specs.WrittenPackage.{is_empty_element, begins_by_end, IsWrittenAt}
use Rattle.package_text.specs.declared.spelled.SpelledEvent.TheVariants.{One, Empty}

-- a start and the end of its name are one
pub pair_texts : (tag : Tag) (name : List ℕ) (events : List Event) → bytes_eq tag.name name ≡ true
    → event_texts (start tag ∷ end name ∷ events)
    ≡ texts_of_empty tag.name tag.attributes ∷ event_texts events
pair_texts tag name events is = rw is refl

-- every other event is by itself
pub alone_texts : (event : Event) (events : List Event) → is_empty_element event events ≡ false
    → event_texts (event ∷ events) ≡ texts_of_event event ∷ event_texts events
alone_texts event [] is = refl
alone_texts (start tag) (start other ∷ events) is = refl
alone_texts (start tag) (end name ∷ events) is = rw is refl
alone_texts (start tag) (leaf kind ∷ events) is = refl
alone_texts (end name) (next ∷ events) is = refl
alone_texts (leaf kind) (next ∷ events) is = refl

-- ---- events of a list by their places

pub drop_found : (events : List Event) (place : ℕ) (event : Event)
    → slice_get events place ≡ Some event → drop place events ≡ event ∷ drop (place + 1) events
drop_found [] place event is = absurd cc
drop_found (first ∷ events) zero event is =
    let same : first ≡ event = cc in ap (λ (own : Event). own ∷ events) same
drop_found (first ∷ events) (suc place) event is =
    let more : suc place + 1 ≡ suc (place + 1) = omega arith in
    rw more (drop_found events place event is)

-- the end that is found at a place
pub end_found : (events : List Event) (place : ℕ) (name own : List ℕ)
    → slice_get events place ≡ Some (end own)
    → begins_by_end name (drop place events) ≡ bytes_eq name own
end_found events place name own is = ap (begins_by_end name) (drop_found events place (end own) is)

-- what is found there is no end
pub other_found : (events : List Event) (place : ℕ) (name : List ℕ) (event : PartEvent)
    → slice_get events place ≡ Some (event_of event)
    → ((own : Bor (List ℕ)) → event ≡ End own → ⊥) → begins_by_end name (drop place events) ≡ false
other_found events place name (Start tag) is not_end =
    ap (begins_by_end name) (drop_found events place (event_of (Start tag)) is)
other_found events place name (End own) is not_end = absurd (not_end own refl)
other_found events place name (Text content) is not_end =
    ap (begins_by_end name) (drop_found events place (event_of (Text content)) is)
other_found events place name (CharData content) is not_end =
    ap (begins_by_end name) (drop_found events place (event_of (CharData content)) is)
other_found events place name (EntityRef own) is not_end =
    ap (begins_by_end name) (drop_found events place (event_of (EntityRef own)) is)
other_found events place name (Flaw why) is not_end =
    ap (begins_by_end name) (drop_found events place (event_of (Flaw why)) is)
other_found events place name Other is not_end =
    ap (begins_by_end name) (drop_found events place (event_of Other) is)

some_behind : (name : List ℕ) (events : List Event) → begins_by_end name events ≡ true
    → 0 < length events
some_behind name [] is = absurd cc
some_behind name (event ∷ events) is = omega arith

-- a start before the end of its name
pair_begins : (tag : Tag) (events : List Event) → begins_by_end tag.name events ≡ true
    → event_texts (start tag ∷ events)
    ≡ texts_of_empty tag.name tag.attributes ∷ event_texts (drop 1 events)
pair_begins tag [] is = absurd cc
pair_begins tag (start own ∷ events) is = absurd cc
pair_begins tag (end name ∷ events) is = pair_texts tag name events is
pair_begins tag (leaf kind ∷ events) is = absurd cc

pub pair_written : (events : List Event) (place : ℕ) (tag : StartTag)
    → slice_get events place ≡ Some (start (tag_of tag))
    → begins_by_end tag.name.now (drop (place + 1) events) ≡ true
    → IsWrittenAt events place (Empty tag)
pair_written events place tag is ends = record {
  ends = omega (
    arith,
    some_behind tag.name.now (drop (place + 1) events) ends,
    length-drop (place + 1) events,
  );
  begins = ap event_texts (drop_found events place (start (tag_of tag)) is)
      ∙ pair_begins (tag_of tag) (drop (place + 1) events) ends
      ∙ ap (λ (rest : List Event). texts_of_empty tag.name.now tag.attributes.now
      ∷ event_texts rest)
      (drop-drop 1 (place + 1) events ∙ ap (λ (own : ℕ). drop own events) (omega arith));
}

within : (events : List Event) (place : ℕ) (event : Event) → slice_get events place ≡ Some event
    → place + 1 ≤ length events
within [] place event is = absurd cc
within (first ∷ events) zero event is = omega arith
within (first ∷ events) (suc place) event is = omega (arith, within events place event is)

pub alone_written : (events : List Event) (place : ℕ) (event : PartEvent)
    → slice_get events place ≡ Some (event_of event)
    → is_empty_element (event_of event) (drop (place + 1) events) ≡ false
    → IsWrittenAt events place (One event)
alone_written events place event is alone = record {
  ends = within events place (event_of event) is;
  begins = ap event_texts (drop_found events place (event_of event) is)
      ∙ alone_texts (event_of event) (drop (place + 1) events) alone;
}

-- what is no start is by itself
pub other_alone : (events : List Event) (event : PartEvent)
    → ((tag : StartTag) → event ≡ Start tag → ⊥) → is_empty_element (event_of event) events ≡ false
other_alone events (Start tag) not_start = absurd (not_start tag refl)
other_alone events (End name) not_start = refl
other_alone events (Text content) not_start = refl
other_alone events (CharData content) not_start = refl
other_alone events (EntityRef name) not_start = refl
other_alone events (Flaw why) not_start = refl
other_alone events Other not_start = refl
