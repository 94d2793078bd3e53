-- The value that is written of a package spells that package.
use Rattle.std.proofs.Common.{◌≡◌, ◌||◌, ℕ, List, [], ◌∷◌, ◌++◌, Bool, true, false, Option, Some}
use Rattle.std.proofs.Common.{None, refl, ap, ◌∙◌, if◌then◌else◌}
use Rattle.std.specs.Option.{option_map, option_and_then}
use Rattle.std.specs.Str.{bytes_eq}
use Rattle.std.proofs.lemmas.Slice.Eq.{bytes_eq-Decides}
use Rattle.serde_json.specs.Data.{array}
use Rattle.serde_json.specs.Written.{has_float, items_have_float}
use Rattle.part_events.specs.Words.{Event, Tag, start, end, leaf, text, char_data, entity_ref, flaw}
use Rattle.part_events.specs.Words.{other, Part}
use Rattle.part_events.specs.declared.flaw.Flaw.TheVariants.{Malformed, NotText, Encrypted}
use Rattle.part_events.specs.declared.flaw.Flaw.TheVariants.{UnknownMethod, TooLarge, Damaged}
use Rattle.part_events.specs.declared.flaw.Flaw.TheVariants.{WrongSize, WrongChecksum}
use Rattle.package_text.specs.PackageText.{events_of_value, events_of_items, part_in, parts_in}
use Rattle.package_text.specs.PackageText.{package_of, empty_element, named_part}
use Rattle.package_text.specs.WrittenPackage.{texts_data, texts_of_event, texts_of_empty}
use Rattle.package_text.specs.WrittenPackage.{event_texts, events_data, part_data, parts_data}
use Rattle.package_text.specs.WrittenPackage.{package_data, SpellsItsParts}

-- ---- events

spelled_alone : (event : Event)
    → events_of_value true (array (texts_data (texts_of_event event))) ≡ Some (event ∷ [])
spelled_alone (start tag) = refl
spelled_alone (end name) = refl
spelled_alone (leaf (text content)) = refl
spelled_alone (leaf (char_data content)) = refl
spelled_alone (leaf (entity_ref name)) = refl
spelled_alone (leaf (flaw Malformed)) = refl
spelled_alone (leaf (flaw NotText)) = refl
spelled_alone (leaf (flaw Encrypted)) = refl
spelled_alone (leaf (flaw UnknownMethod)) = refl
spelled_alone (leaf (flaw TooLarge)) = refl
spelled_alone (leaf (flaw Damaged)) = refl
spelled_alone (leaf (flaw WrongSize)) = refl
spelled_alone (leaf (flaw WrongChecksum)) = refl
spelled_alone (leaf other) = refl

-- the events of a rest behind those of a first
abbrev behind : Option (List Event) → Option (List Event) → Option (List Event)
behind first rest = option_and_then (λ own. option_map (λ events. own ++ events) rest) first

alone_spelled : (event : Event) (texts : List (List (List ℕ))) (events : List Event)
    → events_of_items true (events_data texts) ≡ Some events
    → events_of_items true (events_data (texts_of_event event ∷ texts)) ≡ Some (event ∷ events)
alone_spelled event texts events is =
    ap (λ first. behind first (events_of_items true (events_data texts))) (spelled_alone event)
    ∙ ap (λ rest. behind (Some (event ∷ [])) rest) is

pair_spelled : (tag : Tag) (name : List ℕ) (events : List Event) (same : Bool)
    → bytes_eq tag.name name ≡ same
    → events_of_items true (events_data (event_texts events)) ≡ Some events
    → events_of_items true (events_data (event_texts (end name ∷ events)))
    ≡ Some (end name ∷ events)
    → events_of_items true (events_data (if same
    then texts_of_empty tag.name tag.attributes ∷ event_texts events
    else texts_of_event (start tag) ∷ event_texts (end name ∷ events)))
    ≡ Some (start tag ∷ end name ∷ events)
pair_spelled tag name events true is behind_both behind_first =
    ap (behind (Some (empty_element tag.name tag.attributes))) behind_both
    ∙ ap (λ (own : List ℕ). Some (start tag ∷ end own ∷ events))
    ((bytes_eq-Decides tag.name name).0 is)
pair_spelled tag name events false is behind_both behind_first =
    alone_spelled (start tag) (event_texts (end name ∷ events)) (end name ∷ events) behind_first

pub events_spelled : (events : List Event)
    → events_of_items true (events_data (event_texts events)) ≡ Some events
events_spelled [] = refl
events_spelled (event ∷ []) = alone_spelled event [] [] refl
events_spelled (start tag ∷ end name ∷ events) =
    pair_spelled tag name events (bytes_eq tag.name name) refl (events_spelled events)
    (events_spelled (end name ∷ events))
events_spelled (event ∷ next ∷ events) =
    alone_spelled event (event_texts (next ∷ events)) (next ∷ events)
    (events_spelled (next ∷ events))

-- ---- parts

part_spelled : (part : Part) → part_in true (part_data part) ≡ Some part
part_spelled part = ap (named_part part.name) (events_spelled part.events)

-- the parts of a rest behind a first
abbrev in_front : Option Part → Option (List Part) → Option (List Part)
in_front first rest = option_and_then (λ part. option_map (λ parts. part ∷ parts) rest) first

parts_spelled : (parts : List Part) → parts_in true (parts_data parts) ≡ Some parts
parts_spelled [] = refl
parts_spelled (part ∷ parts) =
    ap (λ first. in_front first (parts_in true (parts_data parts))) (part_spelled part)
    ∙ ap (in_front (Some part)) (parts_spelled parts)

-- ---- no number is other than an integer of 64 bits

pub texts_have_no_float : (texts : List (List ℕ)) → items_have_float (texts_data texts) ≡ false
texts_have_no_float [] = refl
texts_have_no_float (content ∷ texts) = texts_have_no_float texts

both_false : (one two : Bool) → one ≡ false → two ≡ false → (one || two) ≡ false
both_false one two first second = rw first second

pub events_have_no_float : (texts : List (List (List ℕ)))
    → items_have_float (events_data texts) ≡ false
events_have_no_float [] = refl
events_have_no_float (texts ∷ others) =
    both_false (items_have_float (texts_data texts)) (items_have_float (events_data others))
    (texts_have_no_float texts) (events_have_no_float others)

part_has_no_float : (part : Part) → has_float (part_data part) ≡ false
part_has_no_float part =
    both_false (items_have_float (events_data (event_texts part.events))) false
    (events_have_no_float (event_texts part.events)) refl

pub parts_have_no_float : (parts : List Part) → items_have_float (parts_data parts) ≡ false
parts_have_no_float [] = refl
parts_have_no_float (part ∷ parts) =
    both_false (has_float (part_data part)) (items_have_float (parts_data parts))
    (part_has_no_float part) (parts_have_no_float parts)

package_has_no_float : (parts : List Part) → has_float (package_data parts) ≡ false
unfolding package_data
package_has_no_float parts =
    both_false (items_have_float (parts_data parts)) false (parts_have_no_float parts) refl

-- ---- the package

pub spells_its_parts : SpellsItsParts
unfolding package_of package_data
spells_its_parts parts =
    ap (λ (float : Bool). if float then None else parts_in true (parts_data parts))
    (package_has_no_float parts)
    ∙ parts_spelled parts
