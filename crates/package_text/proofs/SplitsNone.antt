-- In no list of events that is written stands a start before the end of its name.
use Rattle.std.proofs.Common.{◌≡◌, ℕ, List, [], ◌∷◌, Bool, true, false, refl, ap, ◌∙◌}
use Rattle.std.proofs.Common.{if◌then◌else◌, codes}
use Rattle.std.specs.Str.{bytes_eq}
use Rattle.part_events.specs.Words.{Event, Tag, start, end, leaf, text, char_data, entity_ref, flaw}
use Rattle.part_events.specs.Words.{other}
use Rattle.part_events.specs.declared.flaw.Flaw.{Flaw}
use Rattle.part_events.specs.declared.flaw.Flaw.TheVariants.{Malformed, NotText, Encrypted}
use Rattle.part_events.specs.declared.flaw.Flaw.TheVariants.{UnknownMethod, TooLarge, Damaged}
use Rattle.part_events.specs.declared.flaw.Flaw.TheVariants.{WrongSize, WrongChecksum}
use Rattle.package_text.specs.WrittenPackage.{texts_of_event, texts_of_empty, event_texts}
use Rattle.package_text.specs.WrittenPackage.{is_empty_element, flaw_texts, is_start_of}
use Rattle.package_text.specs.WrittenPackage.{is_end_behind, none_splits, SplitsNone}
use Rattle.package_text.proofs.EventTexts.{pair_texts, alone_texts}

-- whether the first of these texts is the end of the start before it
abbrev first_splits : List (List ℕ) → List (List (List ℕ)) → Bool
first_splits before [] = false
first_splits before (texts ∷ others) = is_end_behind before texts

more_split : (texts : List (List ℕ)) (others : List (List (List ℕ)))
    → first_splits texts others ≡ false → none_splits others ≡ true
    → none_splits (texts ∷ others) ≡ true
more_split texts [] first rest = refl
more_split texts (next ∷ others) first rest = rw first rest

none_either : (test : Bool) → (if test then false else false) ≡ false
none_either true = refl
none_either false = refl

-- what is no start has no end behind it
none_behind : (before texts : List (List ℕ))
    → ((name : List ℕ) → is_start_of name before ≡ false) → is_end_behind before texts ≡ false
none_behind before [] none = refl
none_behind before (kind ∷ []) none = refl
none_behind before (kind ∷ name ∷ []) none =
    ap (λ (found : Bool). if bytes_eq kind (codes "e") then found else false) (none name)
    ∙ none_either (bytes_eq kind (codes "e"))
none_behind before (kind ∷ name ∷ third ∷ more) none = refl

none_split_behind : (before : List (List ℕ)) (others : List (List (List ℕ)))
    → ((name : List ℕ) → is_start_of name before ≡ false) → first_splits before others ≡ false
none_split_behind before [] none = refl
none_split_behind before (texts ∷ others) none = none_behind before texts none

-- a flaw is no end
flaw_apart : (why : Flaw) (before : List (List ℕ)) → is_end_behind before (flaw_texts why) ≡ false
flaw_apart Malformed before = refl
flaw_apart NotText before = refl
flaw_apart Encrypted before = refl
flaw_apart UnknownMethod before = refl
flaw_apart TooLarge before = refl
flaw_apart Damaged before = refl
flaw_apart WrongSize before = refl
flaw_apart WrongChecksum before = refl

-- a flaw is no start
flaw_begins : (why : Flaw) (name : List ℕ) → is_start_of name (flaw_texts why) ≡ false
flaw_begins Malformed name = refl
flaw_begins NotText name = refl
flaw_begins Encrypted name = refl
flaw_begins UnknownMethod name = refl
flaw_begins TooLarge name = refl
flaw_begins Damaged name = refl
flaw_begins WrongSize name = refl
flaw_begins WrongChecksum name = refl

-- the texts of events begin with those of the first, by itself or with its end
begin_by : (event : Event) (events : List Event) (pair : Bool) → is_empty_element event
    events ≡ pair
    → (before : List (List ℕ)) → is_end_behind before (texts_of_event event) ≡ false
    → first_splits before (event_texts (event ∷ events)) ≡ false
begin_by event events false is before apart =
    ap (first_splits before) (alone_texts event events is) ∙ apart
begin_by (start tag) [] true is before apart = absurd cc
begin_by (start tag) (start own ∷ events) true is before apart = absurd cc
begin_by (start tag) (end name ∷ events) true is before apart =
    ap (first_splits before) (pair_texts tag name events is)
begin_by (start tag) (leaf kind ∷ events) true is before apart = absurd cc
begin_by (end name) events true is before apart = absurd cc
begin_by (leaf kind) events true is before apart = absurd cc

-- a start by itself isn't directly followed by its end
apart_behind : (tag : Tag) (events : List Event) → is_empty_element (start tag) events ≡ false
    → first_splits (texts_of_event (start tag)) (event_texts events) ≡ false
apart_behind tag [] alone = refl
apart_behind tag (start own ∷ events) alone =
    begin_by (start own) events (is_empty_element (start own) events) refl
    (texts_of_event (start tag)) refl
apart_behind tag (end name ∷ events) alone =
    begin_by (end name) events false refl (texts_of_event (start tag)) alone
apart_behind tag (leaf (text content) ∷ events) alone =
    begin_by (leaf (text content)) events false refl (texts_of_event (start tag)) refl
apart_behind tag (leaf (char_data content) ∷ events) alone =
    begin_by (leaf (char_data content)) events false refl (texts_of_event (start tag)) refl
apart_behind tag (leaf (entity_ref name) ∷ events) alone =
    begin_by (leaf (entity_ref name)) events false refl (texts_of_event (start tag)) refl
apart_behind tag (leaf (flaw why) ∷ events) alone =
    begin_by (leaf (flaw why)) events false refl (texts_of_event (start tag))
    (flaw_apart why (texts_of_event (start tag)))
apart_behind tag (leaf other ∷ events) alone =
    begin_by (leaf other) events false refl (texts_of_event (start tag)) refl

alone_apart : (event : Event) (events : List Event) → is_empty_element event events ≡ false
    → first_splits (texts_of_event event) (event_texts events) ≡ false
alone_apart (start tag) events is = apart_behind tag events is
alone_apart (end name) events is =
    none_split_behind (texts_of_event (end name)) (event_texts events) (λ own. refl)
alone_apart (leaf (text content)) events is =
    none_split_behind (texts_of_event (leaf (text content))) (event_texts events) (λ own. refl)
alone_apart (leaf (char_data content)) events is =
    none_split_behind (texts_of_event (leaf (char_data content))) (event_texts events) (λ own. refl)
alone_apart (leaf (entity_ref name)) events is =
    none_split_behind (texts_of_event (leaf (entity_ref name))) (event_texts events) (λ own. refl)
alone_apart (leaf (flaw why)) events is =
    none_split_behind (flaw_texts why) (event_texts events) (flaw_begins why)
alone_apart (leaf other) events is =
    none_split_behind (texts_of_event (leaf other)) (event_texts events) (λ own. refl)

alone_splits_none : (event : Event) (events : List Event) → is_empty_element event events ≡ false
    → none_splits (event_texts events) ≡ true
    → none_splits (event_texts (event ∷ events)) ≡ true
alone_splits_none event events is rest =
    ap none_splits (alone_texts event events is)
    ∙ more_split (texts_of_event event) (event_texts events) (alone_apart event events is) rest

by_pair : (tag : Tag) (name : List ℕ) (events : List Event) (pair : Bool)
    → bytes_eq tag.name name ≡ pair → none_splits (event_texts events) ≡ true
    → none_splits (event_texts (end name ∷ events)) ≡ true
    → none_splits (event_texts (start tag ∷ end name ∷ events)) ≡ true
by_pair tag name events true is both first =
    let empty = texts_of_empty tag.name tag.attributes in
    ap none_splits (pair_texts tag name events is)
    ∙ more_split empty (event_texts events)
    (none_split_behind empty (event_texts events) (λ own. refl)) both
by_pair tag name events false is both first =
    alone_splits_none (start tag) (end name ∷ events) is first

pub splits_none : SplitsNone
splits_none [] = refl
splits_none (event ∷ []) = refl
splits_none (start tag ∷ end name ∷ events) =
    by_pair tag name events (bytes_eq tag.name name) refl (splits_none events)
    (splits_none (end name ∷ events))
splits_none (start tag ∷ start own ∷ events) =
    alone_splits_none (start tag) (start own ∷ events) refl (splits_none (start own ∷ events))
splits_none (start tag ∷ leaf kind ∷ events) =
    alone_splits_none (start tag) (leaf kind ∷ events) refl (splits_none (leaf kind ∷ events))
splits_none (end name ∷ next ∷ events) =
    alone_splits_none (end name) (next ∷ events) refl (splits_none (next ∷ events))
splits_none (leaf kind ∷ next ∷ events) =
    alone_splits_none (leaf kind) (next ∷ events) refl (splits_none (next ∷ events))
