-- What an event does to what a part says of a name of the users' own.
use Rattle.std.proofs.Common.{◌≡◌, ◌∷◌, ℕ, List, length, Bool, true, Option, Err, refl}
use Rattle.part_events.specs.Words.{Tag, Event, Leaf, start, leaf, is_unknown}
use Rattle.xlsx_sections.specs.Words.{Refusal, no_character, placed_at, name_by}
use Rattle.xlsx_properties.specs.CustomProperties.{OpenCustom, custom_from, is_property, is_taken}

pub name_refused : (name : List ℕ) (own : Option OpenCustom) (takes : Bool) (tag : Tag)
    (events : List Event) (refusal : Refusal) → is_property tag ≡ true
    → name_by (placed_at tag (length events)) ≡ Err refusal
    → custom_from name own takes (start tag ∷ events) ≡ Err refusal
name_refused name own takes tag events refusal is refuses = rw (is, refuses) refl

pub text_refused : (name : List ℕ) (own : Option OpenCustom) (takes : Bool) (kind : Leaf)
    (events : List Event) → is_taken own takes ≡ true → is_unknown (leaf kind) ≡ true
    → custom_from name own takes (leaf kind ∷ events) ≡ Err (no_character (length events))
text_refused name own takes kind events taken unknown = rw (taken, unknown) refl
