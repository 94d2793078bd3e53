-- Events that nest in themselves are passed over by what reads forward.
use Rattle.std.proofs.Common.{◌≡◌, ℕ, suc, List, [], ◌∷◌, ◌++◌, length, reverse, Bool, true, false}
use Rattle.std.proofs.Common.{refl, sym, ap, ◌∙◌, append_assoc, append-nil}
use Rattle.std.specs.List.{flat_map}
use Rattle.std.specs.Prelude.{if◌then◌else◌, Option, Some, None, option_map, not}
use Rattle.std.specs.Option.{option_map_or}
use Rattle.std.specs.Str.{bytes_eq}
use Rattle.std.proofs.lemmas.Slice.Eq.{bytes_eq-Decides}
use Rattle.std.proofs.lemmas.List.{reverse-append}
use Rattle.part_events.specs.Words.{Tag, Event, Leaf, start, end, leaf, text, entity_ref, is_flaw}
use Rattle.part_events.specs.Words.{OpenStart, open_start, closes, whole_rest, content, is_closed}
use Rattle.part_events.specs.Words.{behind, outermost_from, outermost, Element, element_of}
use Rattle.part_events.proofs.Nested.{reverse_on}
use Rattle.part_events.proofs.Outermost.{outermost-wanted}
use Rattle.written_markup.specs.Markup.{element}
use Rattle.written_markup.specs.WrittenText.{run_events, events_behind_run, reference_name}
use Rattle.written_markup.specs.WrittenText.{text_events}
use Rattle.written_markup.specs.Nests.{IsNested, none, leaf_then, element_then, NestsItself}

-- What holds of no events, goes on behind a leaf and behind an element of such events, holds of
-- all events that nest in themselves.
pub nested_by : (P : List Event → Type 0) → P []
    → ((kind : Leaf) (rest : List Event) → is_flaw kind ≡ false → IsNested rest → P rest
    → P (leaf kind ∷ rest))
    → ((name attributes : List ℕ) (inside rest : List Event) → IsNested inside → P inside
    → IsNested rest → P rest → P (element name attributes inside ++ rest))
    → {events : List Event} → IsNested events → P events
nested_by P nothing behind_leaf behind_element none = nothing
nested_by P nothing behind_leaf behind_element (leaf_then kind told {rest = rest} more) =
    behind_leaf kind rest told more (nested_by P nothing behind_leaf behind_element more)
nested_by P nothing behind_leaf behind_element
    (element_then name attributes {inside = inside} {rest = rest} within more) =
    behind_element name attributes inside rest within
    (nested_by P nothing behind_leaf behind_element within) more
    (nested_by P nothing behind_leaf behind_element more)

-- ---- what is nested

-- two such lists in a row
pub nested_in_row : (front behind : List Event) → IsNested front → IsNested behind
    → IsNested (front ++ behind)
nested_in_row front behind first second =
    nested_by (λ (events : List Event). IsNested (events ++ behind)) second
    (λ kind rest told is more. leaf_then kind told more)
    (λ name attributes inside rest within own is more.
    rw (append_assoc (element name attributes inside) rest behind)
    (element_then name attributes within more)) first

-- an element of such a list
pub nested_element : (name attributes : List ℕ) (inside : List Event) → IsNested inside
    → IsNested (element name attributes inside)
nested_element name attributes inside within =
    rw (← append-nil (element name attributes inside)) (element_then name attributes within none)

run_nested : (run : List ℕ) → IsNested (run_events run)
run_nested [] = none
run_nested (b ∷ bs) = leaf_then (text (b ∷ bs)) refl none

nested_behind : (run : List ℕ) (b : ℕ) (bytes : List ℕ) (found : Option (List ℕ))
    → ((own : List ℕ) → IsNested (events_behind_run own bytes))
    → IsNested (option_map_or (λ name. run_events run
    ++ (leaf (entity_ref name) ∷ events_behind_run [] bytes)) found
    (events_behind_run (run ++ b ∷ []) bytes))
nested_behind run b bytes None rest = rest (run ++ b ∷ [])
nested_behind run b bytes (Some name) rest =
    nested_in_row (run_events run) (leaf (entity_ref name) ∷ events_behind_run [] bytes)
    (run_nested run) (leaf_then (entity_ref name) refl (rest []))

all_nested : (bytes run : List ℕ) → IsNested (events_behind_run run bytes)
all_nested [] run = run_nested run
all_nested (b ∷ bytes) run = nested_behind run b bytes (reference_name b) (all_nested bytes)

-- the events of a text
pub text_events_nested : (bytes : List ℕ) → IsNested (text_events bytes)
text_events_nested bytes = all_nested bytes []

-- a list of such lists in a row
pub flat_map_nested : {A : Type 0} (f : A → List Event) (xs : List A)
    → ((x : A) → IsNested (f x)) → IsNested (flat_map f xs)
flat_map_nested f [] each = none
flat_map_nested f (x ∷ xs) each =
    nested_in_row (f x) (flat_map f xs) (each x) (flat_map_nested f xs each)

-- ---- what passes over them

-- what stands in an element, its end, and what stands behind it
in_one_row : (inside more rest : List Event) (name : List ℕ)
    → ((inside ++ end name ∷ []) ++ more) ++ rest ≡ inside ++ end name ∷ (more ++ rest)
in_one_row inside more rest name =
    append_assoc (inside ++ end name ∷ []) more rest
    ∙ append_assoc inside (end name ∷ []) (more ++ rest)

content_passes : {events : List Event} → IsNested events → (inside : ℕ) (rest : List Event)
    → content inside (events ++ rest) ≡ events ++ content inside rest
content_passes =
    nested_by (λ (events : List Event). (inside : ℕ) (rest : List Event)
    → content inside (events ++ rest) ≡ events ++ content inside rest)
    (λ inside rest. refl)
    (λ kind more told is passes inside rest. ap (λ (events : List Event). leaf kind ∷ events)
    (passes inside rest))
    (λ name attributes own more within owns is passes inside rest.
    ap (λ (events : List Event). start (record { name = name; attributes = attributes }) ∷ events)
    (ap (content (suc inside)) (in_one_row own more rest name)
    ∙ owns (suc inside) (end name ∷ (more ++ rest))
    ∙ ap (λ (events : List Event). own ++ end name ∷ events) (passes inside rest)
    ∙ sym (in_one_row own more (content inside rest) name)))

closed_passes : {events : List Event} → IsNested events → (inside : ℕ) (rest : List Event)
    → is_closed inside (events ++ rest) ≡ is_closed inside rest
closed_passes =
    nested_by (λ (events : List Event). (inside : ℕ) (rest : List Event)
    → is_closed inside (events ++ rest) ≡ is_closed inside rest)
    (λ inside rest. refl)
    (λ kind more told is passes inside rest. passes inside rest)
    (λ name attributes own more within owns is passes inside rest.
    ap (is_closed (suc inside)) (in_one_row own more rest name)
    ∙ owns (suc inside) (end name ∷ (more ++ rest)) ∙ passes inside rest)

behind_passes : {events : List Event} → IsNested events → (inside : ℕ) (rest : List Event)
    → behind inside (events ++ rest) ≡ behind inside rest
behind_passes =
    nested_by (λ (events : List Event). (inside : ℕ) (rest : List Event)
    → behind inside (events ++ rest) ≡ behind inside rest)
    (λ inside rest. refl)
    (λ kind more told is passes inside rest. passes inside rest)
    (λ name attributes own more within owns is passes inside rest.
    ap (behind (suc inside)) (in_one_row own more rest name)
    ∙ owns (suc inside) (end name ∷ (more ++ rest)) ∙ passes inside rest)

outermost_passes : (wanted : Tag → Bool) {events : List Event} → IsNested events → (within : ℕ)
    (rest : List Event) → outermost_from wanted (suc within) (events ++ rest)
    ≡ outermost_from wanted (suc within) rest
outermost_passes wanted =
    nested_by (λ (events : List Event). (within : ℕ) (rest : List Event)
    → outermost_from wanted (suc within) (events ++ rest)
    ≡ outermost_from wanted (suc within) rest)
    (λ within rest. refl)
    (λ kind more told is passes within rest. passes within rest)
    (λ name attributes own more inside owns is passes within rest.
    ap (outermost_from wanted (suc (suc within))) (in_one_row own more rest name)
    ∙ owns (suc within) (end name ∷ (more ++ rest)) ∙ passes within rest)

-- ---- looking back

-- two lists in a row, the latest first
reverse_in_row : (front behind past : List Event)
    → reverse (front ++ behind) ++ past ≡ reverse behind ++ (reverse front ++ past)
reverse_in_row front behind past =
    ap (λ (events : List Event). events ++ past) (reverse-append front behind)
    ∙ append_assoc (reverse behind) (reverse front) past

-- an element and what stands behind it, the latest first
reversed : (name attributes : List ℕ) (inside more past : List Event)
    → reverse (element name attributes inside ++ more) ++ past
    ≡ reverse more ++ end name
    ∷ (reverse inside ++ start (record { name = name; attributes = attributes }) ∷ past)
reversed name attributes inside more past =
    let tag : Tag = record { name = name; attributes = attributes } in
    ap (λ (events : List Event). reverse (start tag ∷ events) ++ past)
    (append_assoc inside (end name ∷ []) more)
    ∙ reverse_on (start tag) (inside ++ end name ∷ more) past
    ∙ reverse_in_row inside (end name ∷ more) (start tag ∷ past)
    ∙ reverse_on (end name) more (reverse inside ++ start tag ∷ past)

starts_pass : {events : List Event} → IsNested events → (out : ℕ) (past : List Event)
    → open_start out (reverse events ++ past) ≡ open_start out past
starts_pass =
    nested_by (λ (events : List Event). (out : ℕ) (past : List Event)
    → open_start out (reverse events ++ past) ≡ open_start out past)
    (λ out past. refl)
    (λ kind more told is passes out past.
    ap (open_start out) (reverse_on (leaf kind) more past) ∙ passes out (leaf kind ∷ past))
    (λ name attributes own more within owns is passes out past.
    let tag : Tag = record { name = name; attributes = attributes } in
    ap (open_start out) (reversed name attributes own more past)
    ∙ passes out (end name ∷ (reverse own ++ start tag ∷ past))
    ∙ owns (suc out) (start tag ∷ past))

-- the end of an element closes it
closes_own : (name attributes : List ℕ) (inside past : List Event) → IsNested inside
    → closes (reverse inside ++ start (record { name = name; attributes = attributes }) ∷ past) name
    ≡ true
closes_own name attributes inside past within =
    let tag : Tag = record { name = name; attributes = attributes } in
    ap (λ found. option_map_or (bytes_eq name)
    (option_map (λ (opening : OpenStart). opening.tag.name) found) false)
    (starts_pass within 0 (start tag ∷ past))
    ∙ (bytes_eq-Decides name name).1 refl

whole_passes : {events : List Event} → IsNested events → (past rest : List Event)
    → whole_rest past (events ++ rest) ≡ events ++ whole_rest (reverse events ++ past) rest
whole_passes =
    nested_by (λ (events : List Event). (past rest : List Event)
    → whole_rest past (events ++ rest) ≡ events ++ whole_rest (reverse events ++ past) rest)
    (λ past rest. refl)
    (λ kind more told is passes past rest.
    ap (λ (flawed : Bool). if not flawed
    then leaf kind ∷ whole_rest (leaf kind ∷ past) (more ++ rest) else []) told
    ∙ ap (λ (events : List Event). leaf kind ∷ events)
    (passes (leaf kind ∷ past) rest
    ∙ ap (λ (before : List Event). more ++ whole_rest before rest)
    (sym (reverse_on (leaf kind) more past))))
    (λ name attributes own more within owns is passes past rest.
    let tag : Tag = record { name = name; attributes = attributes } in
    let inner = reverse own ++ start tag ∷ past in
    ap (λ (events : List Event). start tag ∷ events)
    (ap (whole_rest (start tag ∷ past)) (in_one_row own more rest name)
    ∙ owns (start tag ∷ past) (end name ∷ (more ++ rest))
    ∙ ap (λ (b : Bool). own ++
    (if b then end name ∷ whole_rest (end name ∷ inner) (more ++ rest) else []))
    (closes_own name attributes own past within)
    ∙ ap (λ (events : List Event). own ++ end name ∷ events)
    (passes (end name ∷ inner) rest
    ∙ ap (λ (before : List Event). more ++ whole_rest before rest)
    (sym (reversed name attributes own more past)))
    ∙ sym (in_one_row own more
    (whole_rest (reverse (element name attributes own ++ more) ++ past) rest) name)))

pub nests_itself : (events : List Event) → IsNested events → NestsItself events
nests_itself events is = record {
  content = content_passes is;
  closed = closed_passes is;
  behind = behind_passes is;
  starts = starts_pass is;
  whole = whole_passes is;
  outermost = λ wanted. outermost_passes wanted is;
}

-- ---- an element among others

-- what stands in an element
pub content_of_element : (inside : List Event) (name : List ℕ) (rest : List Event)
    → IsNested inside → content 0 (inside ++ end name ∷ rest) ≡ inside
content_of_element inside name rest is =
    content_passes is 0 (end name ∷ rest) ∙ append-nil inside

-- the end of an element closes it
pub element_is_closed : (inside : List Event) (name : List ℕ) (rest : List Event)
    → IsNested inside → is_closed 0 (inside ++ end name ∷ rest) ≡ true
element_is_closed inside name rest is = closed_passes is 0 (end name ∷ rest)

-- what stands behind an element
pub behind_element : (inside : List Event) (name : List ℕ) (rest : List Event)
    → IsNested inside → behind 0 (inside ++ end name ∷ rest) ≡ rest
behind_element inside name rest is = behind_passes is 0 (end name ∷ rest)

-- an element as it is found in front of others
pub element_found : (tag : Tag) (inside : List Event) (name : List ℕ) (rest : List Event)
    → IsNested inside → element_of tag (inside ++ end name ∷ rest)
    ≡ record { tag = tag; inside = inside; behind = length (inside ++ end name ∷ rest) }
element_found tag inside name rest is =
    ap (λ (own : List Event). record {
      tag = tag;
      inside = own;
      behind = length (inside ++ end name ∷ rest);
    }) (content_of_element inside name rest is)

-- outermost elements begin with a wanted one, and go on behind it
pub outermost_of_elements : (wanted : Tag → Bool) (name attributes : List ℕ)
    (inside rest : List Event) → IsNested inside
    → wanted (record { name = name; attributes = attributes }) ≡ true
    → outermost wanted (element name attributes inside ++ rest)
    ≡ record {
      tag = record { name = name; attributes = attributes };
      inside = inside;
      behind = length (inside ++ end name ∷ rest);
    } ∷ outermost wanted rest
outermost_of_elements wanted name attributes inside rest is here =
    let tag : Tag = record { name = name; attributes = attributes } in
    ap (λ (events : List Event). outermost wanted (start tag ∷ events))
    (append_assoc inside (end name ∷ []) rest)
    ∙ outermost-wanted wanted tag (inside ++ end name ∷ rest) here
    ∙ ap (λ (first : Element). first ∷ outermost wanted (behind 0 (inside ++ end name ∷ rest)))
    (element_found tag inside name rest is)
    ∙ ap (λ (more : List Event). record {
      tag = tag;
      inside = inside;
      behind = length (inside ++ end name ∷ rest);
    } ∷ outermost wanted more) (behind_element inside name rest is)
