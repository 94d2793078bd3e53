-- A text of digits is read as the number that it writes.
use Rattle.std.proofs.Common.{◌≡◌, ◌<◌, ℕ, List, [], ◌∷◌, length, Bool, true, false, refl, ap, sym}
use Rattle.std.proofs.Common.{subst, ◌∙◌, arith, Some, None}
use Rattle.std.specs.Prelude.{◌&&◌, ◌^◌, nat_lt, ◌==◌, if◌then◌else◌}
use Rattle.std.specs.Char.{is_ascii_digit}
use Rattle.std.specs.Int.{IsInRange}
use Rattle.std.specs.List.{list_all}
use Rattle.std.specs.Str.{all_ascii_digits}
use Rattle.std.specs.Str.Parse.{IsNumeral, digits_value, without_leading_plus}
use Rattle.std.proofs.lemmas.Bool.{ltb-true, false_from_ne_true}
use Rattle.std.proofs.lemmas.Str.Parse.{IsNumeralModel, numerals_by_value, tells_all_ascii_digits}
use Rattle.std.proofs.lemmas.Str.Parse.{without_leading_plus_none}
use Rattle.xlsx_sections.specs.NumberText.{number_text}

pub all_digits : (text : List ℕ) → list_all is_ascii_digit text ≡ all_ascii_digits text
all_digits [] = refl
all_digits (c ∷ cs) = ap (λ (b : Bool). is_ascii_digit c && b) (all_digits cs)

numerals : IsNumeralModel (λ ds. all_ascii_digits ds ≡ true) (digits_value 10)
numerals = numerals_by_value (λ ds. all_ascii_digits ds ≡ true) tells_all_ascii_digits

no_plus : (text : List ℕ) → 0 < length text → all_ascii_digits text ≡ true
    → without_leading_plus text ≡ text
no_plus [] some digits = absurd (omega (arith, some))
no_plus (c ∷ cs) some digits =
    let first : IsInRange 48 57 c = (tells_all_ascii_digits.parts c cs digits).0 in
    without_leading_plus_none (c ∷ cs) (λ is. omega (arith, first.0, is))

pub not_empty : (text : List ℕ) → (length text == 0) ≡ false → 0 < length text
not_empty [] some = absurd (cc)
not_empty (c ∷ cs) some = omega arith

-- the guards of the definition, where the text is one or more digits
by_size : (text : List ℕ) → 0 < length text → all_ascii_digits text ≡ true → number_text text
    ≡ (if nat_lt (digits_value 10 text) (2 ^ 64) then Some (digits_value 10 text) else None)
by_size [] some digits = absurd (omega (arith, some))
by_size (c ∷ cs) some digits = ap (λ (b : Bool). if b
    && nat_lt (digits_value 10 (c ∷ cs)) (2 ^ 64) then Some (digits_value 10 (c ∷ cs)) else None)
    digits

not_less : (n most : ℕ) → (n < most → ⊥) → nat_lt n most ≡ false
not_less n most never = false_from_ne_true (nat_lt n most) (λ less. never (ltb-true n most less))

pub number_too_large : (text : List ℕ) → 0 < length text → all_ascii_digits text ≡ true
    → (IsNumeral 10 (without_leading_plus text)
    × (digits_value 10 (without_leading_plus text) < 2 ^ 64) → ⊥) → number_text text ≡ None
number_too_large text some digits never =
    let plain = no_plus text some digits in
    let here : IsNumeral 10 (without_leading_plus text) =
    subst (λ (t : List ℕ). IsNumeral 10 t) (sym plain) (some, numerals.to text digits) in
    let large : (digits_value 10 text < 2 ^ 64) → ⊥ =
    λ less. never (here, subst (λ (t : List ℕ). digits_value 10 t < 2 ^ 64) (sym plain) less) in
    by_size text some digits ∙ rw (not_less (digits_value 10 text) (2 ^ 64) large) refl
