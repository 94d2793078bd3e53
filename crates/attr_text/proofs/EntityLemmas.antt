-- The character of a name that is none of the five.
use Rattle.std.proofs.Common.{◌≡◌, ℕ, false, List}
use Rattle.std.specs.Prelude.{codes}
use Rattle.std.specs.Str.{bytes_eq}
use Rattle.std.proofs.lemmas.Bool.{false_from_ne_true}
use Rattle.std.proofs.lemmas.Slice.Eq.{bytes_eq-Decides}
use Rattle.attr_text.specs.Text.{entity_character, unnamed_character}

other : (xs ys : List ℕ) → (xs ≡ ys → ⊥) → bytes_eq xs ys ≡ false
other xs ys ne = false_from_ne_true (bytes_eq xs ys) (λ same. ne ((bytes_eq-Decides xs ys).0 same))

pub entity_character-other : (name : List ℕ) → (name ≡ codes "lt" → ⊥) → (name ≡ codes "gt" → ⊥) →
    (name ≡ codes "amp" → ⊥) → (name ≡ codes "apos" → ⊥) → (name ≡ codes "quot" → ⊥)
    → unnamed_character name ≡ entity_character name
unfolding entity_character
entity_character-other name lt gt amp apos quot =
    rw (
      other name (codes "lt") lt,
      other name (codes "gt") gt,
      other name (codes "amp") amp,
      other name (codes "apos") apos,
      other name (codes "quot") quot,
    )
