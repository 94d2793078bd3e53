-- What lies in a text stays where it is while texts are put behind it.
use Rattle.std.proofs.Common.{◌≡◌, ℕ, ◌<◌, ◌≤◌, ◌-◌, List, [], ◌∷◌, ◌++◌, length, take, drop, map}
use Rattle.std.proofs.Common.{refl, sym, ◌∙◌, ap, arith, append_assoc, inl, inr, zero, suc, subst}
use Rattle.std.proofs.lemmas.Bool.{cases_lt}
use Rattle.std.proofs.lemmas.Option.{slice_get-map, slice_get_read, get_or_from_slice_get}
use Rattle.std.specs.Prelude.{Some, option_map, slice_get, get_or}
use Rattle.std.proofs.lemmas.List.{append-nil, length-append, length-map, map_push}
use Rattle.std.proofs.lemmas.List.{get_or_append_left, take-append-le, drop-append-le, length-drop}
use Rattle.std.proofs.lemmas.List.Elements.{All-weaker, All-push, recursion_from_All}
use Rattle.std.proofs.lemmas.Str.{IsUtf8-append, IsUtf8-nil, IsCharBoundary-at_seam}
use Rattle.std.specs.List.{All, AllByRecursion}
use Rattle.std.specs.Str.{IsCharBoundary, IsUtf8}
use Rattle.part_events.specs.Event.{Event, end, leaf, text, char_data, entity_ref}
use Rattle.part_events.specs.Stored.{between, event_from, stored_event, IsPiece, LiesFrom, IsStored}
use Rattle.part_events.specs.Stored.{end_of, with_begins, begin_at, end_behind, Extends}
use Rattle.part_events.specs.declared.stored.StoredEvent.{StoredEvent}
use Rattle.part_events.specs.declared.stored.StoredEvent.TheVariants.{Start, End, Text, CharData}
use Rattle.part_events.specs.declared.stored.StoredEvent.TheVariants.{EntityRef, Flaw, Other}

pub Extends-refl : (bytes : List ℕ) → Extends bytes bytes
Extends-refl bytes = record { more = []; is_text = IsUtf8-nil; joined = sym (append-nil bytes) }

pub Extends-trans : (old mid new : List ℕ) → Extends old mid → Extends mid new → Extends old new
Extends-trans old mid new first second = record {
  more = first.more ++ second.more;
  is_text = IsUtf8-append first.more second.more first.is_text second.is_text;
  joined = second.joined ∙ ap (λ (bytes : List ℕ). bytes ++ second.more) first.joined
      ∙ append_assoc old first.more second.more;
}

boundary_before : (old more : List ℕ) (place : ℕ) → place < length old → IsCharBoundary old place
    → IsCharBoundary (old ++ more) place
boundary_before old more place before fits =
    let same = get_or_append_left old more 0 place before in
    (omega (arith, length-append old more), λ _ high. rw same (fits.1 before (rw same at high)))

boundary_at : (old more : List ℕ) (place : ℕ) → length old ≤ place → IsUtf8 more
    → IsCharBoundary old place → IsCharBoundary (old ++ more) place
boundary_at old more place past is_text fits =
    let at : place ≡ length old = omega arith in
    rw at (IsCharBoundary-at_seam (old ++ more) old more refl is_text)

boundary_joined : (old more : List ℕ) (place : ℕ) → IsUtf8 more → IsCharBoundary old place
    → IsCharBoundary (old ++ more) place
boundary_joined old more place is_text fits =
    elim (cases_lt place (length old)) [
      | inl before ↦ boundary_before old more place before fits
      | inr past ↦ boundary_at old more
          place past is_text fits
    ]

pub boundary_kept : (old new : List ℕ) (place : ℕ) → Extends old new → IsCharBoundary old place
    → IsCharBoundary new place
boundary_kept old new place extends fits =
    rw extends.joined (boundary_joined old extends.more place extends.is_text fits)

pub IsPiece_kept : (old new : List ℕ) (first last : ℕ) → Extends old new → IsPiece old first last
    → IsPiece new first last
IsPiece_kept old new first last extends fits = record {
  ordered = fits.ordered;
  start_fits = boundary_kept old new first extends fits.start_fits;
  end_fits = boundary_kept old new last extends fits.end_fits;
}

between_joined : (old more : List ℕ) (first last : ℕ) → first ≤ last → last ≤ length old
    → between (old ++ more) first last ≡ between old first last
between_joined old more first last ordered fits =
    ap (take (last - first)) (drop-append-le first old more (omega arith))
    ∙ take-append-le (last - first) (drop first old) more (omega (arith, length-drop first old))

pub between_kept : (old new : List ℕ) (first last : ℕ) → Extends old new → IsPiece old first last
    → between new first last ≡ between old first last
between_kept old new first last extends fits =
    ap (λ (bytes : List ℕ). between bytes first last) extends.joined
    ∙ between_joined old extends.more first last fits.ordered fits.end_fits.0

LiesFrom_kept : (old new : List ℕ) (first : ℕ) (event : StoredEvent) → Extends old new
    → LiesFrom old first event → LiesFrom new first event
LiesFrom_kept old new first (Start name attributes) extends fits = (
  IsPiece_kept old new first name extends fits.0,
  IsPiece_kept old new name attributes extends fits.1,
)
LiesFrom_kept old new first (End last) extends fits = IsPiece_kept old new first last extends fits
LiesFrom_kept old new first (Text last) extends fits = IsPiece_kept old new first last extends fits
LiesFrom_kept old new first (CharData last) extends fits =
    IsPiece_kept old new first last extends fits
LiesFrom_kept old new first (EntityRef last) extends fits =
    IsPiece_kept old new first last extends fits
LiesFrom_kept old new first (Flaw why last) extends fits =
    IsPiece_kept old new first last extends fits
LiesFrom_kept old new first (Other last) extends fits = IsPiece_kept old new first last extends fits

pub event_kept : (old new : List ℕ) (first : ℕ) (event : StoredEvent) → Extends old new
    → LiesFrom old first event → event_from new first event ≡ event_from old first event
event_kept old new first (Start name attributes) extends fits =
    let names = between_kept old new first name extends fits.0 in
    let texts = between_kept old new name attributes extends fits.1 in
    cc
event_kept old new first (End last) extends fits =
    ap end (between_kept old new first last extends fits)
event_kept old new first (Text last) extends fits =
    ap (λ (written : List ℕ). leaf (text written)) (between_kept old new first last extends fits)
event_kept old new first (CharData last) extends fits =
    ap (λ (written : List ℕ). leaf (char_data written))
    (between_kept old new first last extends fits)
event_kept old new first (EntityRef last) extends fits =
    ap (λ (written : List ℕ). leaf (entity_ref written))
    (between_kept old new first last extends fits)
event_kept old new first (Flaw why last) extends fits = refl
event_kept old new first (Other last) extends fits = refl

pub All_kept : (old new : List ℕ) (events : List (ℕ × StoredEvent)) → Extends old new
    → All (IsStored old) events → All (IsStored new) events
All_kept old new events extends fits =
    All-weaker (IsStored old) (IsStored new)
    (λ own. LiesFrom_kept old new own.0 own.1 extends) events fits

events_kept : (old new : List ℕ) (events : List (ℕ × StoredEvent)) → Extends old new
    → AllByRecursion (IsStored old) events
    → map (stored_event new) events ≡ map (stored_event old) events
events_kept old new [] extends fits = refl
events_kept old new (own ∷ events) extends fits =
    let first = event_kept old new own.0 own.1 extends fits.0 in
    let others = events_kept old new events extends fits.1 in
    cc

pub map_kept : (old new : List ℕ) (events : List (ℕ × StoredEvent)) → Extends old new
    → All (IsStored old) events → map (stored_event new) events ≡ map (stored_event old) events
map_kept old new events extends fits =
    events_kept old new events extends (recursion_from_All (IsStored old) events fits)

pub extends_by : (old new more : List ℕ) → IsUtf8 more → new ≡ old ++ more → Extends old new
extends_by old new more is_text joined = record { more = more; is_text = is_text; joined = joined }

-- an event behind the others begins where these end
pub begins_push : (first : ℕ) (events : List StoredEvent) (event : StoredEvent)
    → with_begins first (events ++ event ∷ [])
    ≡ with_begins first events ++ (end_behind first events, event) ∷ []
begins_push first [] event = refl
begins_push first (own ∷ others) event =
    ap (λ (rest : List (ℕ × StoredEvent)). (first, own) ∷ rest)
    (begins_push (end_of own) others event)

pub end_push : (first : ℕ) (events : List StoredEvent) (event : StoredEvent)
    → end_behind first (events ++ event ∷ []) ≡ end_of event
end_push first [] event = refl
end_push first (own ∷ others) event = end_push (end_of own) others event

pub begins_count : (first : ℕ) (events : List StoredEvent)
    → length (with_begins first events) ≡ length events
begins_count first [] = refl
begins_count first (own ∷ others) = ap suc (begins_count (end_of own) others)

pub event_count : (bytes : List ℕ) (events : List StoredEvent)
    → length (map (stored_event bytes) (with_begins 0 events)) ≡ length events
event_count bytes events =
    length-map (with_begins 0 events) (stored_event bytes) ∙ begins_count 0 events

begins_get : (first place : ℕ) (events : List StoredEvent)
    → slice_get (with_begins first events) place
    ≡ option_map (λ (own : StoredEvent). (begin_at first place events, own))
    (slice_get events place)
begins_get first place [] = refl
begins_get first zero (own ∷ others) = refl
begins_get first (suc place) (own ∷ others) = begins_get (end_of own) place others

-- the event at a place, beside where it begins
pub begins_there : (place : ℕ) (events : List StoredEvent) (own : StoredEvent)
    → place < length events → own ≡ get_or events place own
    → slice_get (with_begins 0 events) place ≡ Some (begin_at 0 place events, own)
begins_there place events own within is =
    begins_get 0 place events
    ∙ ap (option_map (λ (one : StoredEvent). (begin_at 0 place events, one)))
    (slice_get_read events (length events) place own refl within is)

pub stored_there : (bytes : List ℕ) (place : ℕ) (events : List StoredEvent) (own : StoredEvent)
    → All (IsStored bytes) (with_begins 0 events) → place < length events
    → own ≡ get_or events place own → LiesFrom bytes (begin_at 0 place events) own
stored_there bytes place events own all within is =
    let one : ℕ × StoredEvent = (begin_at 0 place events, own) in
    let there = get_or_from_slice_get (with_begins 0 events) place one one
    (begins_there place events own within is) in
    subst (IsStored bytes) there
    (all place one (subst (λ (count : ℕ). place < count) (sym (begins_count 0 events)) within))

pub event_there : (bytes : List ℕ) (place : ℕ) (events : List StoredEvent) (own : StoredEvent)
    → place < length events → own ≡ get_or events place own
    → slice_get (map (stored_event bytes) (with_begins 0 events)) place
    ≡ Some (event_from bytes (begin_at 0 place events) own)
event_there bytes place events own within is =
    slice_get-map (stored_event bytes) (with_begins 0 events) place
    ∙ ap (option_map (stored_event bytes)) (begins_there place events own within is)

begins_behind : (first place : ℕ) (events : List StoredEvent) (d : StoredEvent)
    → place < length events → begin_at first (suc place) events ≡ end_of (get_or events place d)
begins_behind first place [] d within = absurd (omega (arith, within))
begins_behind first zero (own ∷ others) d within = refl
begins_behind first (suc place) (own ∷ others) d within =
    begins_behind (end_of own) place others d (omega (arith, within))

-- an event begins where the one before it ends
pub begins : (place : ℕ) (events : List StoredEvent) (d : StoredEvent) → ¬ place ≡ 0
    → place < length events → begin_at 0 place events ≡ end_of (get_or events (place - 1) d)
begins zero events d some within = absurd (some refl)
begins (suc place) events d some within =
    let less : suc place - 1 ≡ place = omega arith in
    rw less (begins_behind 0 place events d (omega (arith, within)))

pub pushed : (old new : List ℕ) (events : List StoredEvent) (event : StoredEvent) → Extends old new
    → All (IsStored old) (with_begins 0 events) → LiesFrom new (end_behind 0 events) event
    → All (IsStored new) (with_begins 0 (events ++ event ∷ []))
pushed old new events event extends fits last =
    rw (begins_push 0 events event)
    (All-push (IsStored new) (with_begins 0 events) (end_behind 0 events, event)
    (All_kept old new (with_begins 0 events) extends fits) last)

pub same_pushed : (old new : List ℕ) (events : List StoredEvent) (event : StoredEvent)
    → Extends old new → All (IsStored old) (with_begins 0 events)
    → map (stored_event new) (with_begins 0 (events ++ event ∷ []))
    ≡ map (stored_event old) (with_begins 0 events)
    ++ event_from new (end_behind 0 events) event ∷ []
same_pushed old new events event extends fits =
    ap (map (stored_event new)) (begins_push 0 events event)
    ∙ map_push (stored_event new) (with_begins 0 events) (end_behind 0 events, event)
    ∙ ap (λ (seen : List Event). seen ++ event_from new (end_behind 0 events) event ∷ [])
    (map_kept old new (with_begins 0 events) extends fits)
