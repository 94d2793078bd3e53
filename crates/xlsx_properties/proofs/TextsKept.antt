-- What an event does to what a part says of a property.
use Rattle.std.proofs.Common.{◌≡◌, ℕ, ◌+◌, ◌-◌, suc, ◌≤◌, List, [], ◌∷◌, ◌++◌, length, Bool, true}
use Rattle.std.proofs.Common.{false, Option, Some, None, Result, Ok, Err, refl, ◌∙◌, sym, ap, arith}
use Rattle.std.proofs.Common.{append-nil, append_assoc, inl, inr, ◌⊎◌, Bor}
use Rattle.std.specs.Prelude.{if◌then◌else◌, IsSome, option_map}
use Rattle.std.specs.Option.{option_or}
use Rattle.part_events.specs.Event as event
use Rattle.part_events.specs.Words.{Tag, Event, Leaf, start, end, leaf, event_of, event_text}
use Rattle.part_events.specs.Words.{joined_text, is_unknown, unknown_entity}
use Rattle.part_events.specs.declared.event.PartEvent.{PartEvent}
use Rattle.part_events.specs.declared.event.PartEvent.TheVariants.{Text, CharData, EntityRef, Other}
use Rattle.part_events.specs.declared.event.PartEvent.TheVariants as part_event
use Rattle.part_events.specs.declared.flaw.Flaw.{Flaw}
use Rattle.xlsx_sections.specs.Words.{or_earlier, or_later, Refusal, no_character}
use Rattle.xlsx_properties.specs.Property.{is_same}
use Rattle.xlsx_properties.specs.PropertyTexts.{Listed, PropertySoFar, property_of, property_in}
use Rattle.xlsx_properties.specs.PropertyTexts.{property_begun, property_text_behind, text_if}
use Rattle.xlsx_properties.specs.PropertyTexts.{if_wanted, if_written, leaves, text_or_refused}
use Rattle.xlsx_properties.specs.PropertyTexts.{ends_next, text_kept, continued, with_text}
use Rattle.xlsx_properties.specs.declared.property.Property.{Property}

none_earlier : {A : Type 0} (answer : Result (Option A) Refusal) → or_earlier None answer ≡ answer
none_earlier (Ok None) = refl
none_earlier (Ok (Some a)) = refl
none_earlier (Err refusal) = refl

either_way : (b : Bool) (other : Option (List ℕ)) → (if b then other else other) ≡ other
either_way true other = refl
either_way false other = refl

-- what an element says and what follows, behind what was kept
later_kept : {A : Type 0} (kept said : Option A) (answer : Result (Option A) Refusal)
    → or_earlier kept (or_later (Ok said) answer) ≡ or_earlier (option_or said kept) answer
later_kept kept None (Ok None) = refl
later_kept kept None (Ok (Some a)) = refl
later_kept kept None (Err refusal) = refl
later_kept kept (Some own) (Ok None) = refl
later_kept kept (Some own) (Ok (Some a)) = refl
later_kept kept (Some own) (Err refusal) = refl

-- a start gives up the text of the one before
unless_closed : (wanted : Property) (started : Option PropertySoFar) (listed : Listed) (tag : Tag)
    (events : List Event)
    → continued listed wanted started (start tag ∷ events)
    ≡ property_in listed wanted (start tag ∷ events)
unless_closed wanted None listed tag events = refl
unless_closed wanted (Some own) listed tag events =
    ap (λ (said : Option (List ℕ)). or_later (Ok said)
    (property_in listed wanted (start tag ∷ events)))
    (either_way (is_same wanted own.property) None)
    ∙ none_earlier (property_in listed wanted (start tag ∷ events))

begun : (wanted : Property) (property : Option Property) (events : List Event)
    (others : Result (Option (List ℕ)) Refusal) (listed : Listed)
    → property_in listed wanted events ≡ others
    → or_later (text_if wanted property events) others
    ≡ continued listed wanted (property_begun property) events
begun wanted None events others listed same = none_earlier others ∙ sym same
begun wanted (Some own) events others listed same =
    ap (or_later (if_wanted (is_same wanted own) (property_text_behind [] events))) (sym same)

pub behind_start : (listed : Listed) (wanted : Property) (started : Option PropertySoFar)
    (kept : Option (List ℕ)) (tag : Tag) (events : List Event)
    → or_earlier kept (continued listed wanted started (start tag ∷ events))
    ≡ or_earlier kept (continued listed wanted (property_begun (property_of listed tag)) events)
behind_start listed wanted started kept tag events =
    ap (or_earlier kept) (unless_closed wanted started listed tag events
    ∙ begun wanted (property_of listed tag) events (property_in listed wanted events) listed refl)

text_at_end : (b : Bool) (text : List ℕ) (name : List ℕ) (events : List Event)
    → if_wanted b (property_text_behind text (end name ∷ events))
    ≡ Ok (if b then if_written text else None)
text_at_end b text name events =
    ap (λ (own : List ℕ). Ok (if b then if_written own else None)) (append-nil text)

pub behind_end : (listed : Listed) (wanted : Property) (started : Option PropertySoFar)
    (kept : Option (List ℕ)) (name : List ℕ) (events : List Event)
    → or_earlier kept (continued listed wanted started (end name ∷ events))
    ≡ or_earlier (option_or (text_kept wanted started) kept) (continued listed wanted None events)
behind_end listed wanted None kept name events = refl
behind_end listed wanted (Some own) kept name events =
    let others = property_in listed wanted events in
    let said = if is_same wanted own.property then if_written own.text else None in
    ap (λ (answer : Result (Option (List ℕ)) Refusal). or_earlier kept (or_later answer others))
    (text_at_end (is_same wanted own.property) own.text name events)
    ∙ later_kept kept said others

by_known : (text : List ℕ) (own : Leaf) (others : List Event) (beyond left : ℕ) (ends : Bool)
    (unknown : Option ℕ) → beyond ≡ left
    → text_or_refused text ends beyond (leaf own ∷ others) unknown
    ≡ text_or_refused (text ++ event_text false (leaf own)) ends left others unknown
by_known text own others beyond left ends None same =
    ap (λ (whole : List ℕ). Ok (if ends then if_written whole else None))
    (sym (append_assoc text (event_text false (leaf own)) (joined_text false others)))
by_known text own others beyond left ends (Some behind) same =
    ap (λ (n : ℕ). Err (no_character (behind + n))) same

-- a leaf goes on with the text of the start before
text_further : (text : List ℕ) (kind : Leaf) (events : List Event) → is_unknown (leaf kind) ≡ false
    → property_text_behind text (leaf kind ∷ events)
    ≡ property_text_behind (text ++ event_text false (leaf kind)) events
text_further text kind events known =
    let own = length (leaves events) in
    let left : suc (length events) - suc own ≡ length events - own = omega arith in
    rw known
    (by_known text kind (leaves events) (suc (length events) - suc own) (length events - own)
    (ends_next events) (unknown_entity (leaves events)) left)

behind_text : (listed : Listed) (wanted : Property) (own : PropertySoFar)
    (kept : Option (List ℕ)) (kind : Leaf) (events : List Event) → is_unknown (leaf kind) ≡ false
    → or_earlier kept (continued listed wanted (Some own) (leaf kind ∷ events))
    ≡ or_earlier kept (continued listed wanted
    (Some (with_text (event_text false (leaf kind)) own)) events)
behind_text listed wanted own kept kind events known =
    ap (λ (answer : Result (Option (List ℕ)) Refusal).
    or_earlier kept (or_later (if_wanted (is_same wanted own.property) answer)
    (property_in listed wanted events))) (text_further own.text kind events known)

pub behind_leaf : (listed : Listed) (wanted : Property) (started : Option PropertySoFar)
    (kept : Option (List ℕ)) (kind : Leaf) (events : List Event)
    → (IsSome started → is_unknown (leaf kind) ≡ false)
    → or_earlier kept (continued listed wanted started (leaf kind ∷ events))
    ≡ or_earlier kept (continued listed wanted
    (option_map (with_text (event_text false (leaf kind))) started) events)
behind_leaf listed wanted None kept kind events known = refl
behind_leaf listed wanted (Some own) kept kind events known =
    behind_text listed wanted own kept kind events (known refl)

leaves_fit : (events : List Event) → length (leaves events) ≤ length events
leaves_fit [] = omega arith
leaves_fit (start tag ∷ events) = omega arith
leaves_fit (end name ∷ events) = omega arith
leaves_fit (leaf kind ∷ events) = omega (arith, leaves_fit events)

text_refused : (text : List ℕ) (kind : Leaf) (events : List Event) → is_unknown (leaf kind) ≡ true
    → property_text_behind text (leaf kind ∷ events) ≡ Err (no_character (length events))
text_refused text kind events unknown =
    let own = length (leaves events) in
    let place : own + (suc (length events) - suc own) ≡ length events =
    omega (arith, leaves_fit events) in
    rw unknown (ap (λ (behind : ℕ). Err (no_character behind)) place)

-- and one without a character refuses it
refused_at_text : (listed : Listed) (wanted : Property) (own : PropertySoFar) (kind : Leaf)
    (events : List Event) → is_unknown (leaf kind) ≡ true
    → continued listed wanted (Some own) (leaf kind ∷ events) ≡ Err (no_character (length events))
refused_at_text listed wanted own kind events unknown =
    ap (λ (answer : Result (Option (List ℕ)) Refusal).
    or_later (if_wanted (is_same wanted own.property) answer)
    (property_in listed wanted events)) (text_refused own.text kind events unknown)

pub leaf_refused : (listed : Listed) (wanted : Property) (started : Option PropertySoFar)
    (kind : Leaf)
    (events : List Event) → IsSome started → is_unknown (leaf kind) ≡ true
    → continued listed wanted started (leaf kind ∷ events) ≡ Err (no_character (length events))
leaf_refused listed wanted None kind events some unknown = absurd (cc)
leaf_refused listed wanted (Some own) kind events some unknown =
    refused_at_text listed wanted own kind events unknown

-- an event that is neither a start nor an end is a leaf
pub leaf_event : (own : PartEvent)
    → ((x : Bor (List ℕ)) × (own ≡ Text x)) ⊎ (((x : Bor (List ℕ)) × (own ≡ CharData x))
    ⊎ (((x : Bor (List ℕ)) × (own ≡ EntityRef x)) ⊎ (((x : Flaw) × (own ≡ part_event.Flaw x))
    ⊎ (own ≡ Other))))
    → (kind : Leaf) × (event_of own ≡ leaf kind)
leaf_event own (inl (x, is)) = (event.text x.now, ap event_of is)
leaf_event own (inr (inl (x, is))) = (event.char_data x.now, ap event_of is)
leaf_event own (inr (inr (inl (x, is)))) = (event.entity_ref x.now, ap event_of is)
leaf_event own (inr (inr (inr (inl (x, is))))) = (event.flaw x, ap event_of is)
leaf_event own (inr (inr (inr (inr is)))) = (event.other, ap event_of is)
