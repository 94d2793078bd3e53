-- What is at hand of a text by its places, and what follows it.
use Rattle.std.proofs.Common.{◌≡◌, ℕ, suc, ◌+◌, ◌-◌, ◌<◌, ◌≤◌, List, [], ◌∷◌, ◌++◌, length, take}
use Rattle.std.proofs.Common.{drop, refl, sym, ap, ◌∙◌, arith, subst, inl, inr}
use Rattle.std.proofs.lemmas.Bool.{cases_lt}
use Rattle.std.proofs.lemmas.List.{drop-drop, length-drop, get_or-drop, drop_all}
use Rattle.std.proofs.lemmas.Str.{IsCharBoundary-before_ascii, IsCharBoundary-after_ascii}
use Rattle.std.proofs.lemmas.Str.{IsCharBoundary-end, IsCharBoundary-start}
use Rattle.std.specs.Str.{IsCharBoundary, IsUtf8}
use Rattle.part_events.specs.Words.{Event, leaf, flaw, between}
use Rattle.markup.specs.Front.{front_in_markup}
use Rattle.markup.specs.Marks.{byte_at}
use Rattle.markup.specs.Markup.{events_from, markup_events}
use Rattle.markup.specs.Found.{seen, Stands, HasAscii, EndsAt}
use Rattle.markup.specs.Cutting.{held_at, place_behind, held_event, end_to_come, Lies, to_come}
use Rattle.markup.specs.Cutting.{events_left, IsCutting, has_cut_event}
use Rattle.markup.specs.declared.cutter.Held.{Held}
use Rattle.part_events.specs.declared.flaw.Flaw.TheVariants.{Malformed}
use Rattle.markup.specs.declared.cutter.Held.TheVariants as held
use Rattle.std.specs.Option.{option_map_or}
use Rattle.std.specs.Prelude.{Some, None, true, false}
use Rattle.markup.specs.declared.found.Found.{Found}
use Rattle.markup.specs.declared.found.Found.TheVariants.{Flaw, Start, Empty, End, Text, CharData}
use Rattle.markup.specs.declared.found.Found.TheVariants.{EntityRef, Other}
use Rattle.markup.proofs.InOrder.{events_in_order, no_events}

-- the events of a text by what was seen first in it
events_by_front : (rest : List ℕ) (found : Found) → 0 < length rest
    → seen rest found ≡ front_in_markup (byte_at rest 0) (drop 1 rest)
    → markup_events rest ≡ events_from (λ n. markup_events (drop n (drop 1 rest))) (seen rest found)
events_by_front [] found some front = absurd (omega arith)
events_by_front (b ∷ bytes) found some front =
    events_in_order b bytes ∙ ap (events_from (λ n. markup_events (drop n bytes))) (sym front)

-- the bytes between two places, from behind a third one
between_from : (bytes : List ℕ) (at over size begin last : ℕ) → begin ≡ at + over
    → last ≡ begin + size → take size (drop over (drop at bytes)) ≡ between bytes begin last
between_from bytes at over size begin last b l =
    ap (take size) (drop-drop over at bytes) ∙ ap (λ n. take size (drop n bytes)) (sym b)
    ∙ ap (λ n. take n (drop begin bytes)) (omega arith)

-- what stands behind a piece
behind_from : (bytes : List ℕ) (at size : ℕ) → 0 < size
    → drop (size - 1) (drop 1 (drop at bytes)) ≡ drop (at + size) bytes
behind_from bytes at size some =
    drop-drop (size - 1) 1 (drop at bytes) ∙ drop-drop (1 + (size - 1)) at bytes
    ∙ ap (λ n. drop n bytes) (omega arith)

events_behind_from : (bytes : List ℕ) (at size : ℕ) → 0 < size
    → markup_events (drop (size - 1) (drop 1 (drop at bytes)))
    ≡ markup_events (drop (at + size) bytes)
events_behind_from bytes at size some = ap markup_events (behind_from bytes at size some)

-- the step by what was found
by_found : (bytes : List ℕ) (at : ℕ) (found : Found) → Stands (drop at bytes) found →
    events_from (λ n. markup_events (drop n (drop 1 (drop at bytes)))) (seen (drop at bytes) found)
    ≡ held_event bytes (held_at at found)
    ∷ (end_to_come bytes (held_at at found)
    ++ markup_events (drop (place_behind at (length bytes) found) bytes))
by_found bytes at Flaw stands =
    ap (λ (events : List Event). leaf (flaw Malformed) ∷ events)
    (sym (ap markup_events (drop_all (length bytes) bytes (omega arith)) ∙ no_events))
by_found bytes at (Start name attributes) stands =
    let own = between_from bytes at 1 name (at + 1) (at + 1 + name) refl refl in
    let more = between_from bytes at (suc name) attributes (at + 1 + name)
    (at + 1 + name + attributes) (omega arith) refl in
    let behind = events_behind_from bytes at (name + attributes + 2) (omega arith) in
    cc
by_found bytes at (Empty name attributes) stands =
    let own = between_from bytes at 1 name (at + 1) (at + 1 + name) refl refl in
    let more = between_from bytes at (suc name) attributes (at + 1 + name)
    (at + 1 + name + attributes) (omega arith) refl in
    let behind = events_behind_from bytes at (name + attributes + 3) (omega arith) in
    cc
by_found bytes at (End name size) stands =
    let own = between_from bytes at 2 name (at + 2) (at + 2 + name) refl refl in
    let behind = events_behind_from bytes at size (omega (arith, stands.3)) in
    cc
by_found bytes at (Text content) stands =
    let own = between_from bytes at 0 content at (at + content) (omega arith) refl in
    let behind = events_behind_from bytes at content (omega (arith, stands.1)) in
    cc
by_found bytes at (CharData content) stands =
    let own = between_from bytes at 9 content (at + 9) (at + 9 + content) refl refl in
    let behind = events_behind_from bytes at (content + 12) (omega arith) in
    cc
by_found bytes at (EntityRef name) stands =
    let own = between_from bytes at 1 name (at + 1) (at + 1 + name) refl refl in
    let behind = events_behind_from bytes at (name + 2) (omega arith) in
    cc
by_found bytes at (Other size) stands =
    let behind = events_behind_from bytes at size (omega (arith, stands.1)) in
    cc

-- A step over what was found at a place of a text: the event is at hand, and the events behind it
-- are those of the text behind it.
pub steps_over : (bytes : List ℕ) (at : ℕ) (found : Found) → at < length bytes
    → seen (drop at bytes) found ≡ front_in_markup (byte_at (drop at bytes) 0)
    (drop 1 (drop at bytes))
    → Stands (drop at bytes) found
    → markup_events (drop at bytes) ≡ held_event bytes (held_at at found)
    ∷ (end_to_come bytes (held_at at found)
    ++ markup_events (drop (place_behind at (length bytes) found) bytes))
steps_over bytes at found within front stands =
    events_by_front (drop at bytes) found (omega (arith, length-drop at bytes)) front
    ∙ by_found bytes at found stands

-- ---- where the texts lie

ascii_in : (bytes : List ℕ) (at place : ℕ) → HasAscii (drop at bytes) place
    → HasAscii bytes (at + place)
ascii_in bytes at place stands = record {
  within = omega (arith, stands.within, length-drop at bytes);
  ascii = subst (λ b. b < 128) (get_or-drop at bytes place 0) stands.ascii;
}

before : (bytes : List ℕ) (at place own : ℕ) → own ≡ at + place → HasAscii (drop at bytes) place
    → IsCharBoundary bytes own
before bytes at place own is stands =
    let there = ascii_in bytes at place stands in
    subst (IsCharBoundary bytes) (sym is)
    (IsCharBoundary-before_ascii bytes (at + place) there.within there.ascii)

behind : (bytes : List ℕ) (at place own : ℕ) → IsUtf8 bytes → own ≡ at + place + 1
    → HasAscii (drop at bytes) place → IsCharBoundary bytes own
behind bytes at place own utf8 is stands =
    let there = ascii_in bytes at place stands in
    subst (IsCharBoundary bytes) (sym is)
    (IsCharBoundary-after_ascii bytes (at + place) utf8 there.within there.ascii)

text_end : (bytes : List ℕ) (at content : ℕ) → at ≤ length bytes → EndsAt (drop at bytes) content
    → IsCharBoundary bytes (at + content)
text_end bytes at content within ends =
    let size = length-drop at bytes in
    elim (cases_lt (at + content) (length bytes)) [
      | inl inside ↦ before bytes at content (at + content) refl (record {
        within = omega arith;
        ascii = ends.ascii (omega arith);
      })
      | inr past ↦ subst (IsCharBoundary bytes) (omega (arith, ends.within))
          (IsCharBoundary-end bytes)
    ]

-- what was found lies in the text, and cutting goes on between characters
pub lies_at : (bytes : List ℕ) (at : ℕ) (found : Found) → IsUtf8 bytes → IsCharBoundary bytes at
    → Stands (drop at bytes) found → Lies bytes (held_at at found)
lies_at bytes at Flaw utf8 from stands = from.0
lies_at bytes at (Start name attributes) utf8 from stands =
    let middle = before bytes at (suc name) (at + 1 + name) (omega arith) stands.1 in (
      record {
        ordered = omega arith;
        start_fits = behind bytes at 0 (at + 1) utf8 (omega arith) stands.0;
        end_fits = middle;
      },
      record {
        ordered = omega arith;
        start_fits = middle;
        end_fits = before bytes at (suc (name + attributes)) (at + 1 + name + attributes)
            (omega arith) stands.2;
      },
    )
lies_at bytes at (Empty name attributes) utf8 from stands =
    let middle = before bytes at (suc name) (at + 1 + name) (omega arith) stands.1 in (
      record {
        ordered = omega arith;
        start_fits = behind bytes at 0 (at + 1) utf8 (omega arith) stands.0;
        end_fits = middle;
      },
      record {
        ordered = omega arith;
        start_fits = middle;
        end_fits = before bytes at (suc (name + attributes)) (at + 1 + name + attributes)
            (omega arith) stands.2;
      },
    )
lies_at bytes at (End name size) utf8 from stands = record {
  ordered = omega arith;
  start_fits = behind bytes at 1 (at + 2) utf8 (omega arith) stands.0;
  end_fits = before bytes at (suc (suc name)) (at + 2 + name) (omega arith) stands.1;
}
lies_at bytes at (Text content) utf8 from stands = record {
  ordered = omega arith;
  start_fits = from;
  end_fits = text_end bytes at content from.0 stands.0;
}
lies_at bytes at (CharData content) utf8 from stands = record {
  ordered = omega arith;
  start_fits = behind bytes at 8 (at + 9) utf8 (omega arith) stands.0;
  end_fits = before bytes at (content + 9) (at + 9 + content) (omega arith) stands.1;
}
lies_at bytes at (EntityRef name) utf8 from stands = record {
  ordered = omega arith;
  start_fits = behind bytes at 0 (at + 1) utf8 (omega arith) stands.0;
  end_fits = before bytes at (suc name) (at + 1 + name) (omega arith) stands.1;
}
lies_at bytes at (Other size) utf8 from stands = tt

pub goes_on_at : (bytes : List ℕ) (at : ℕ) (found : Found) → IsUtf8 bytes → IsCharBoundary bytes at
    → Stands (drop at bytes) found → IsCharBoundary bytes (place_behind at (length bytes) found)
goes_on_at bytes at Flaw utf8 from stands = IsCharBoundary-end bytes
goes_on_at bytes at (Start name attributes) utf8 from stands =
    behind bytes at (suc (name + attributes)) _ utf8 (omega arith) stands.2
goes_on_at bytes at (Empty name attributes) utf8 from stands =
    behind bytes at (suc (suc (name + attributes))) _ utf8 (omega arith) stands.3
goes_on_at bytes at (End name size) utf8 from stands =
    behind bytes at (size - 1) _ utf8 (omega (arith, stands.3)) stands.2
goes_on_at bytes at (Text content) utf8 from stands = text_end bytes at content from.0 stands.0
goes_on_at bytes at (CharData content) utf8 from stands =
    behind bytes at (content + 11) _ utf8 (omega arith) stands.2
goes_on_at bytes at (EntityRef name) utf8 from stands =
    behind bytes at (suc name) _ utf8 (omega arith) stands.1
goes_on_at bytes at (Other size) utf8 from stands =
    behind bytes at (size - 1) _ utf8 (omega (arith, stands.1)) stands.0

-- ---- a step

-- the end of an element with nothing in it is taken
pub end_taken : (bytes : List ℕ) (at : ℕ) (old next : Held) → to_come old ≡ Some next
    → events_left bytes (record { at = at; held = old })
    ≡ held_event bytes next ∷ events_left bytes (record { at = at; held = next })
end_taken bytes at held.Nothing next is = cc
end_taken bytes at (held.Start begin name attributes true) next is =
    let same : held.End begin name ≡ next = cc in
    subst (λ (own : Held). events_left bytes
    (record { at = at; held = held.Start begin name attributes true })
    ≡ held_event bytes own ∷ events_left bytes (record { at = at; held = own })) same refl
end_taken bytes at (held.Start begin name attributes false) next is = cc
end_taken bytes at (held.End begin name) next is = cc
end_taken bytes at (held.Text begin last) next is = cc
end_taken bytes at (held.CharData begin last) next is = cc
end_taken bytes at (held.EntityRef begin name) next is = cc
end_taken bytes at held.Other next is = cc
end_taken bytes at (held.Flaw place) next is = cc

pub end_lies : (bytes : List ℕ) (old next : Held) → to_come old ≡ Some next → Lies bytes old
    → Lies bytes next × (has_cut_event next ≡ true)
end_lies bytes held.Nothing next is lies = absurd cc
end_lies bytes (held.Start begin name attributes true) next is lies =
    let same : held.End begin name ≡ next = cc in
    subst (λ (own : Held). Lies bytes own × (has_cut_event own ≡ true)) same (lies.0, refl)
end_lies bytes (held.Start begin name attributes false) next is lies = absurd cc
end_lies bytes (held.End begin name) next is lies = absurd cc
end_lies bytes (held.Text begin last) next is lies = absurd cc
end_lies bytes (held.CharData begin last) next is lies = absurd cc
end_lies bytes (held.EntityRef begin name) next is lies = absurd cc
end_lies bytes held.Other next is lies = absurd cc
end_lies bytes (held.Flaw place) next is lies = absurd cc

none_left : (bytes : List ℕ) (at : ℕ) (old : Held) → to_come old ≡ None
    → events_left bytes (record { at = at; held = old }) ≡ markup_events (drop at bytes)
none_left bytes at old none =
    ap (λ next. option_map_or (λ own. held_event bytes own ∷ []) next []
    ++ markup_events (drop at bytes))
    none

-- at the end of the text nothing is left
pub ended : (bytes : List ℕ) (at : ℕ) (old : Held) → to_come old ≡ None → at ≡ length bytes
    → events_left bytes (record { at = at; held = old }) ≡ []
ended bytes at old none is =
    none_left bytes at old none ∙ ap markup_events (drop_all at bytes (omega arith)) ∙ no_events

-- else what was found is taken
pub stepped : (bytes : List ℕ) (at : ℕ) (old : Held) (found : Found) → to_come old ≡ None
    → at < length bytes
    → seen (drop at bytes) found ≡ front_in_markup (byte_at (drop at bytes) 0)
    (drop 1 (drop at bytes))
    → Stands (drop at bytes) found
    → events_left bytes (record { at = at; held = old }) ≡ held_event bytes (held_at at found)
    ∷ events_left bytes
    (record { at = place_behind at (length bytes) found; held = held_at at found })
stepped bytes at old found none within front stands =
    none_left bytes at old none ∙ steps_over bytes at found within front stands

pub stays_at : (bytes : List ℕ) (at : ℕ) (found : Found) → IsUtf8 bytes → IsCharBoundary bytes at
    → Stands (drop at bytes) found → IsCutting bytes
    (record { at = place_behind at (length bytes) found; held = held_at at found })
stays_at bytes at found utf8 from stands = record {
  at = goes_on_at bytes at found utf8 from stands;
  held = lies_at bytes at found utf8 from stands;
}

pub found_is_event : (at : ℕ) (found : Found) → has_cut_event (held_at at found) ≡ true
found_is_event at Flaw = refl
found_is_event at (Start name attributes) = refl
found_is_event at (Empty name attributes) = refl
found_is_event at (End name size) = refl
found_is_event at (Text content) = refl
found_is_event at (CharData content) = refl
found_is_event at (EntityRef name) = refl
found_is_event at (Other size) = refl

pub new_stands : (bytes : List ℕ) → IsUtf8 bytes
    → IsCutting bytes (record { at = 0; held = held.Nothing })
new_stands bytes utf8 = record { at = IsCharBoundary-start bytes utf8; held = tt }

-- what a step needs
pub ruleset of_step = (end_taken, end_lies, found_is_event)
