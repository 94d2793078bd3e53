-- Events, parts and packages of a JSON value.
use Rattle.std.proofs.Common.{◌≡◌, ℕ, ◌<◌, ◌+◌, ◌≤◌, List, [], ◌∷◌, ◌++◌, length, drop, get_or}
use Rattle.std.proofs.Common.{refl, sym, ◌∙◌, ap, Some, None, Option, append_assoc, arith, Bool}
use Rattle.std.proofs.Common.{true, false, cond}
use Rattle.std.specs.Option.{option_map, option_and_then}
use Rattle.std.specs.Str.{IsUtf8, is_utf8}
use Rattle.std.proofs.lemmas.List.{append-nil, drop_more, get_or_read}
use Rattle.std.proofs.lemmas.Str.{IsUtf8-from_is_utf8, is_utf8-from_IsUtf8}
use Rattle.serde_json.specs.Data.{Data}
use Rattle.serde_json.specs.Find.{as_str}
use Rattle.serde_json.specs.Read.{read}
use Rattle.serde_json.specs.View.{view, items_of, items_view}
use Rattle.serde_json.specs.declared.value.Value.{Value}
use Rattle.part_events.specs.Words.{Event, Part, with_event}
use Rattle.package_text.specs.PackageText.{texts_of, events_of_texts, events_of_items}
use Rattle.package_text.specs.PackageText.{events_of_value, package_of, package_in}
use Rattle.package_text.specs.PackageText.{with_last_events}

-- what is in a text of UTF-8
pub package_in-read :
    (bytes : List ℕ) (value : Data)
    → IsUtf8 bytes → read bytes ≡ Some value → package_in bytes ≡ package_of value
unfolding package_in
package_in-read bytes value is_text reads =
    let spelled = option_and_then package_of (read bytes) in
    ap (λ (test : Bool). cond test spelled None) (is_utf8-from_IsUtf8 bytes is_text)
    ∙ ap (option_and_then package_of) reads

package_in-by :
    (bytes : List ℕ) (test : Bool) → is_utf8 bytes ≡ test → (IsUtf8 bytes → read bytes ≡ None)
    → cond test (option_and_then package_of (read bytes)) None ≡ None
package_in-by bytes true is none =
    ap (option_and_then package_of) (none (IsUtf8-from_is_utf8 bytes is))
package_in-by bytes false is none = refl

-- what isn't read is no package
pub package_in-none :
    (bytes : List ℕ) → (IsUtf8 bytes → read bytes ≡ None) → package_in bytes ≡ None
unfolding package_in
package_in-none bytes none = package_in-by bytes (is_utf8 bytes) refl none

-- the list with an item in front, where both are there
abbrev with_front : {X : Type 0} → Option X → Option (List X) → Option (List X)
with_front first rest = option_and_then (λ x. option_map (λ xs. x ∷ xs) rest) first

no_long_event :
    (is_second : Bool) (a b c d : Option (List ℕ)) (rest : Option (List (List ℕ)))
    → (let texts = with_front a (with_front b (with_front c (with_front d rest))) in
    option_and_then (events_of_texts is_second) texts ≡ None)
no_long_event is_second None b c d rest = refl
no_long_event is_second (Some a) None c d rest = refl
no_long_event is_second (Some a) (Some b) None d rest = refl
no_long_event is_second (Some a) (Some b) (Some c) None rest = refl
no_long_event is_second (Some a) (Some b) (Some c) (Some d) None = refl
no_long_event is_second (Some a) (Some b) (Some c) (Some d) (Some rest) = refl

-- an array of four items or more is no event
pub long_is_no_event :
    (is_second : Bool) (values : List Data)
    → 4 ≤ length values
    → option_and_then (events_of_texts is_second) (texts_of (items_of values)) ≡ None
long_is_no_event is_second [] long = absurd (omega arith)
long_is_no_event is_second (a ∷ []) long = absurd (omega arith)
long_is_no_event is_second (a ∷ b ∷ []) long = absurd (omega arith)
long_is_no_event is_second (a ∷ b ∷ c ∷ []) long = absurd (omega arith)
long_is_no_event is_second (a ∷ b ∷ c ∷ d ∷ values) long =
    no_long_event is_second (as_str a) (as_str b) (as_str c) (as_str d)
    (texts_of (items_of values))

-- what is in front of a rest, by more
pub fronts_more :
    {X : Type 0} (done more : List X) (rest : Option (List X))
    → option_map (λ xs. done ++ xs) (option_map (λ xs. more ++ xs) rest)
    ≡ option_map (λ xs. (done ++ more) ++ xs) rest
fronts_more done more None = refl
fronts_more done more (Some rest) = ap Some (sym (append_assoc done more rest))

-- an event behind those of the last part
with_event-push :
    (parts : List Part) (part : Part) (event : Event)
    → with_event (parts ++ part ∷ []) event
    ≡ parts ++ record { name = part.name; events = part.events ++ event ∷ [] } ∷ []
with_event-push [] part event = refl
with_event-push (first ∷ []) part event = refl
with_event-push (first ∷ second ∷ parts) part event =
    ap (λ (rest : List Part). first ∷ rest) (with_event-push (second ∷ parts) part event)

-- events behind those of the last part
pub with_events-push :
    (parts : List Part) (name : List ℕ) (done events : List Event)
    → with_last_events (parts ++ record { name = name; events = done } ∷ []) events
    ≡ parts ++ record { name = name; events = done ++ events } ∷ []
with_events-push parts name done [] =
    ap (λ (own : List Event). parts ++ record { name = name; events = own } ∷ [])
    (sym (append-nil done))
with_events-push parts name done (event ∷ events) =
    ap (λ (own : List Part). with_last_events own events)
    (with_event-push parts (record { name = name; events = done }) event)
    ∙ with_events-push parts name (done ++ event ∷ []) events
    ∙ ap (λ (own : List Event). parts ++ record { name = name; events = own } ∷ [])
    (append_assoc done (event ∷ []) events)

-- the events of what is left, where the first value stands for these
pub events_more :
    (is_second : Bool) (values : List Value) (place : ℕ) (value : Value) (own : List Event)
    → place < length values → value ≡ get_or values place value
    → Some own ≡ events_of_value is_second (view value)
    → option_map (λ events. own ++ events)
    (events_of_items is_second (items_view (drop (place + 1) values)))
    ≡ events_of_items is_second (items_view (drop place values))
events_more is_second values place value own here read is =
    let behind = drop (place + 1) values in
    let found = events_of_items is_second (items_view behind) in
    let with_first : Option (List Event) → Option (List Event) =
    λ first. option_and_then (λ e. option_map (λ events. e ++ events) found) first
    in
    ap with_first is
    ∙ ap (λ (first : Value). events_of_items is_second (items_view (first ∷ behind)))
    (get_or_read values place value here read value)
    ∙ ap (λ (rest : List Value). events_of_items is_second (items_view rest))
    (sym (drop_more values place value here))
