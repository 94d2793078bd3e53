-- The events of a text say the text.
use Rattle.std.proofs.Common.{◌≡◌, ℕ, Bool, true, false, List, [], ◌∷◌, ◌++◌, Some, None, Option}
use Rattle.std.proofs.Common.{refl, sym, ap, ◌∙◌, append-nil, append_assoc, subst, eqb-true}
use Rattle.std.specs.Prelude.{◌==◌, codes, if◌then◌else◌, is_some, is_none}
use Rattle.std.specs.List.{list_any}
use Rattle.std.specs.Option.{option_map_or}
use Rattle.std.proofs.lemmas.List.Folds.{list_any-append}
use lib.Utf8.{encode}
use Rattle.attr_text.specs.Text.{entity_character}
use Rattle.part_events.specs.Words.{Event, leaf, entity_ref, joined_text, unknown_entity}
use Rattle.part_events.specs.Words.{character_text}
use Rattle.written_markup.specs.WrittenText.{has_byte, run_events, events_behind_run, text_events}
use Rattle.written_markup.specs.WrittenText.{reference_name, is_referenced}
use Rattle.written_markup.proofs.TextsReadBack.{line_ends_without_return, neither}

-- ---- references

return_says : character_text (entity_character (codes "#13")) ≡ 13 ∷ []
unfolding entity_character encode
return_says = refl

and_says : character_text (entity_character (codes "amp")) ≡ 38 ∷ []
unfolding entity_character encode
and_says = refl

less_says : character_text (entity_character (codes "lt")) ≡ 60 ∷ []
unfolding entity_character encode
less_says = refl

greater_says : character_text (entity_character (codes "gt")) ≡ 62 ∷ []
unfolding entity_character encode
greater_says = refl

-- the reference of a byte, or that of one of the others
one_says : (b c : ℕ) (word name : List ℕ) (others : Option (List ℕ)) (test : Bool)
    → (b == c) ≡ test → (if test then Some word else others) ≡ Some name
    → character_text (entity_character word) ≡ c ∷ []
    → (others ≡ Some name → character_text (entity_character name) ≡ b ∷ [])
    → character_text (entity_character name) ≡ b ∷ []
one_says b c word name others true same is says more =
    let own : word ≡ name = cc in
    subst (λ (n : List ℕ). character_text (entity_character n) ≡ b ∷ []) own
    (says ∙ ap (λ (n : ℕ). n ∷ []) (sym (eqb-true b c same)))
one_says b c word name others false same is says more = more is

-- a reference says the byte that is written as it
pub reference_says : (b : ℕ) (name : List ℕ) → reference_name b ≡ Some name
    → character_text (entity_character name) ≡ b ∷ []
reference_says b name is =
    one_says b 13 (codes "#13") name _ (b == 13) refl is return_says
    (λ other. one_says b 38 (codes "amp") name _ (b == 38) refl other and_says
    (λ further. one_says b 60 (codes "lt") name _ (b == 60) refl further less_says
    (λ last. one_says b 62 (codes "gt") name None (b == 62) refl last greater_says
    (λ none. absurd cc))))

has_character : (character : Option ℕ) (b : ℕ) → character_text character ≡ b ∷ []
    → is_none character ≡ false
has_character None b says = absurd cc
has_character (Some c) b says = refl

-- a byte that is no reference is no CR
no_return : (b : ℕ) (others : Option (List ℕ)) (test : Bool) → (b == 13) ≡ test
    → (if test then Some (codes "#13") else others) ≡ None → (b == 13) ≡ false
no_return b others true same is = absurd cc
no_return b others false same is = same

-- what isn't there
pub none_there : (found : Option (List ℕ)) → is_some found ≡ false → found ≡ None
none_there None is = refl
none_there (Some name) is = absurd cc

-- ---- runs

-- the text of a run, before other events
run_text : (run : List ℕ) (events : List Event) → has_byte 13 run ≡ false
    → joined_text false (run_events run ++ events) ≡ run ++ joined_text false events
run_text [] events none = refl
run_text (b ∷ run) events none =
    ap (λ (own : List ℕ). own ++ joined_text false events) (line_ends_without_return (b ∷ run) none)

run_is_known : (run : List ℕ) (events : List Event)
    → unknown_entity (run_events run ++ events) ≡ unknown_entity events
run_is_known [] events = refl
run_is_known (b ∷ run) events = refl

-- a run with one byte more has no CR
longer_run : (run : List ℕ) (b : ℕ) → has_byte 13 run ≡ false → (b == 13) ≡ false
    → has_byte 13 (run ++ b ∷ []) ≡ false
longer_run run b none other =
    list_any-append (λ c. c == 13) run (b ∷ []) ∙ (rw (none, other) refl)

-- ---- events

-- what goes on behind a run: one byte more, or a reference
abbrev goes_on : List ℕ → ℕ → List ℕ → Option (List ℕ) → List Event
goes_on run b bytes found =
    option_map_or (λ name. run_events run ++ (leaf (entity_ref name) ∷ events_behind_run [] bytes))
    found (events_behind_run (run ++ b ∷ []) bytes)

text_behind : (run : List ℕ) (b : ℕ) (bytes : List ℕ) (found : Option (List ℕ))
    → reference_name b ≡ found → has_byte 13 run ≡ false
    → ((own : List ℕ) → has_byte 13 own ≡ false
    → joined_text false (events_behind_run own bytes) ≡ own ++ bytes)
    → joined_text false (goes_on run b bytes found) ≡ run ++ b ∷ bytes
text_behind run b bytes None is none rest =
    rest (run ++ b ∷ []) (longer_run run b none (no_return b _ (b == 13) refl is))
    ∙ append_assoc run (b ∷ []) bytes
text_behind run b bytes (Some name) is none rest =
    run_text run (leaf (entity_ref name) ∷ events_behind_run [] bytes) none
    ∙ ap (λ (more : List ℕ). run ++ more)
    (ap (λ (own : List ℕ). own ++ joined_text false (events_behind_run [] bytes))
    (reference_says b name is)
    ∙ ap (λ (more : List ℕ). b ∷ more) (rest [] refl))

text_joined : (bytes run : List ℕ) → has_byte 13 run ≡ false
    → joined_text false (events_behind_run run bytes) ≡ run ++ bytes
text_joined [] run none =
    ap (joined_text false) (sym (append-nil (run_events run))) ∙ run_text run [] none
text_joined (b ∷ bytes) run none =
    text_behind run b bytes (reference_name b) refl none (text_joined bytes)

-- the joined text of a text's events is the text
pub joined_text_events : (bytes : List ℕ) → joined_text false (text_events bytes) ≡ bytes
joined_text_events bytes = text_joined bytes [] refl

known_behind : (run : List ℕ) (b : ℕ) (bytes : List ℕ) (found : Option (List ℕ))
    → reference_name b ≡ found
    → ((own : List ℕ) → unknown_entity (events_behind_run own bytes) ≡ None)
    → unknown_entity (goes_on run b bytes found) ≡ None
known_behind run b bytes None is rest = rest (run ++ b ∷ [])
known_behind run b bytes (Some name) is rest =
    run_is_known run (leaf (entity_ref name) ∷ events_behind_run [] bytes)
    ∙ (rw (has_character (entity_character name) b (reference_says b name is)) (rest []))

all_known : (bytes run : List ℕ) → unknown_entity (events_behind_run run bytes) ≡ None
all_known [] run = ap unknown_entity (sym (append-nil (run_events run))) ∙ run_is_known run []
all_known (b ∷ bytes) run = known_behind run b bytes (reference_name b) refl (all_known bytes)

-- none of its references is without a character
pub text_events_are_known : (bytes : List ℕ) → unknown_entity (text_events bytes) ≡ None
text_events_are_known bytes = all_known bytes []

-- ---- texts without references

plain_behind : (bytes run : List ℕ) → list_any is_referenced bytes ≡ false
    → events_behind_run run bytes ≡ run_events (run ++ bytes)
plain_behind [] run none = ap run_events (sym (append-nil run))
plain_behind (b ∷ bytes) run none =
    let both = neither (is_referenced b) (list_any is_referenced bytes) none in
    ap (goes_on run b bytes) (none_there (reference_name b) both.0)
    ∙ plain_behind bytes (run ++ b ∷ []) both.1
    ∙ ap run_events (append_assoc run (b ∷ []) bytes)

-- a text without references is one run
pub one_run : (bytes : List ℕ) → list_any is_referenced bytes ≡ false
    → text_events bytes ≡ run_events bytes
one_run bytes none = plain_behind bytes [] none

reference_behind : (front run : List ℕ) (b : ℕ) (name behind : List ℕ)
    → list_any is_referenced front ≡ false → reference_name b ≡ Some name
    → events_behind_run run (front ++ b ∷ behind)
    ≡ run_events (run ++ front) ++ (leaf (entity_ref name) ∷ text_events behind)
reference_behind [] run b name behind none is =
    ap (goes_on run b behind) is
    ∙ ap (λ (own : List ℕ). run_events own ++ (leaf (entity_ref name) ∷ text_events behind))
    (sym (append-nil run))
reference_behind (c ∷ front) run b name behind none is =
    let both = neither (is_referenced c) (list_any is_referenced front) none in
    ap (goes_on run c (front ++ b ∷ behind)) (none_there (reference_name c) both.0)
    ∙ reference_behind front (run ++ c ∷ []) b name behind both.1 is
    ∙ ap (λ (own : List ℕ). run_events own ++ (leaf (entity_ref name) ∷ text_events behind))
    (append_assoc run (c ∷ []) front)

-- a run, a byte that is written as a reference, and what stands behind it
pub run_and_reference : (run : List ℕ) (b : ℕ) (name behind : List ℕ)
    → list_any is_referenced run ≡ false → reference_name b ≡ Some name
    → text_events (run ++ b ∷ behind)
    ≡ run_events run ++ (leaf (entity_ref name) ∷ text_events behind)
run_and_reference run b name behind none is = reference_behind run [] b name behind none is
