-- Texts as they are written say what was written: references, escapes and line ends.
use Rattle.std.proofs.Common.{◌≡◌, ℕ, zero, suc, All, ◌<◌, Bool, true, false, List, [], ◌∷◌, ◌++◌}
use Rattle.std.proofs.Common.{length, Some, None, Ok, refl, ap, ◌∙◌, inl, inr, arith, ◌&&◌}
use Rattle.std.specs.Prelude.{◌==◌, ◌≢◌, ◌||◌, nat_le, codes}
use Rattle.std.specs.List.{position_or_len}
use Rattle.std.proofs.lemmas.Bool.{eq-eqb, ne_eqb, cases_eq, le-leb}
use lib.Utf8.{encode}
use Rattle.attr_text.specs.Words.{is_semicolon, decoded, onto_decoded, escaped_character, unescaped}
use Rattle.attr_text.specs.Words.{line_ends}
use Rattle.attr_text.specs.Text.{entity_character}
use Rattle.attr_text.proofs.DecodedLemmas.{decoded-nil, decoded-character, decoded-other}
use Rattle.attr_text.proofs.DecodedLemmas.{character_behind-name}
use Rattle.attr_text.proofs.EscapesLemmas.{unescaped-nil, unescaped-seven, unescaped-byte}
use Rattle.attr_text.proofs.LinesLemmas.{line_ends-nil, line_ends-other}
use Rattle.written_markup.specs.WrittenText.{has_byte, encoded, underscores_escaped}

-- neither of two is true
pub neither : (a b : Bool) → (a || b) ≡ false → (a ≡ false) × (b ≡ false)
neither true b is = absurd (cc)
neither false b is = (refl, is)

-- a test that says equal numbers apart
pub differ : (a b : ℕ) → (a == b) ≡ false → a ≢ b
differ a b apart = λ same. absurd (let is : (a == b) ≡ true = eq-eqb a b same in cc)

-- a byte that a text doesn't have stands at none of its places
pub nowhere : (byte : ℕ) (text : List ℕ) → has_byte byte text ≡ false
    → All (λ b. (b == byte) ≡ false) text
nowhere byte [] none k d within = absurd (omega arith)
nowhere byte (b ∷ text) none zero d within = (neither (b == byte) (has_byte byte text) none).0
nowhere byte (b ∷ text) none (suc k) d within =
    nowhere byte text (neither (b == byte) (has_byte byte text) none).1 k d (omega arith)

-- ---- line ends

-- a text without CR has no line end to be read as another
pub line_ends_without_return : (text : List ℕ) → has_byte 13 text ≡ false → line_ends text ≡ text
line_ends_without_return [] none = line_ends-nil
line_ends_without_return (b ∷ text) none =
    let both = neither (b == 13) (has_byte 13 text) none in
    line_ends-other b text (differ b 13 both.0)
    ∙ ap (λ (rest : List ℕ). b ∷ rest) (line_ends_without_return text both.1)

-- ---- references

-- the names of the three references have their characters
amp_character : entity_character (codes "amp") ≡ Some 38
unfolding entity_character
amp_character = refl

quot_character : entity_character (codes "quot") ≡ Some 34
unfolding entity_character
quot_character = refl

decoded_amp : (rest : List ℕ)
    → decoded (codes "&amp;" ++ rest) ≡ onto_decoded (38 ∷ []) 5 (decoded rest)
unfolding encode
decoded_amp rest =
    let text = codes "amp;" ++ rest in
    let within : position_or_len is_semicolon text < length text = omega arith in
    decoded-character text 38 (character_behind-name text (codes "amp") within refl ∙ amp_character)

decoded_quot : (rest : List ℕ)
    → decoded (codes "&quot;" ++ rest) ≡ onto_decoded (34 ∷ []) 6 (decoded rest)
unfolding encode
decoded_quot rest =
    let text = codes "quot;" ++ rest in
    let within : position_or_len is_semicolon text < length text = omega arith in
    decoded-character text 34
    (character_behind-name text (codes "quot") within refl ∙ quot_character)

lt_character : entity_character (codes "lt") ≡ Some 60
unfolding entity_character
lt_character = refl

decoded_lt : (rest : List ℕ)
    → decoded (codes "&lt;" ++ rest) ≡ onto_decoded (60 ∷ []) 4 (decoded rest)
unfolding encode
decoded_lt rest =
    let text = codes "lt;" ++ rest in
    let within : position_or_len is_semicolon text < length text = omega arith in
    decoded-character text 60 (character_behind-name text (codes "lt") within refl ∙ lt_character)

-- a byte in front of what an encoded text says
decoded_onto : (b taken : ℕ) (rest text : List ℕ) → decoded rest ≡ Ok text
    → onto_decoded (b ∷ []) taken (decoded rest) ≡ Ok (b ∷ text)
decoded_onto b taken rest text is = rw is refl

-- an encoded text says the text
pub decoded_encoded : (text : List ℕ) → decoded (encoded text) ≡ Ok text
decoded_encoded [] = decoded-nil
decoded_encoded (b ∷ text) =
    elim (cases_eq b 38) [
      | inl same ↦ rw (same) (decoded_amp (encoded text)
          ∙ decoded_onto 38 5 (encoded text) text (decoded_encoded text))
      | inr other ↦ rw (ne_eqb b 38 other) (elim (cases_eq b 34) [
        | inl same ↦ rw (same) (decoded_quot (encoded text)
            ∙ decoded_onto 34 6 (encoded text) text (decoded_encoded text))
        | inr quote ↦ rw (ne_eqb b 34 quote) (elim (cases_eq b 60) [
          | inl same ↦ rw (same) (decoded_lt (encoded text)
              ∙ decoded_onto 60 4 (encoded text) text (decoded_encoded text))
          | inr plain ↦ rw (ne_eqb b 60 plain) (decoded-other b (encoded text) other
              ∙ decoded_onto b 1 (encoded text) text (decoded_encoded text))
        ])
      ])
    ]

-- an encoded text has no quote
pub encoded_without_quote : (text : List ℕ) → has_byte 34 (encoded text) ≡ false
encoded_without_quote [] = refl
encoded_without_quote (b ∷ text) =
    elim (cases_eq b 38) [
      | inl same ↦ rw (same) (encoded_without_quote text)
      | inr other ↦ rw (ne_eqb b 38 other) (elim (cases_eq b 34) [
        | inl same ↦ rw (same) (encoded_without_quote text)
        | inr quote ↦ rw (ne_eqb b 34 quote) (elim (cases_eq b 60) [
          | inl same ↦ rw (same) (encoded_without_quote text)
          | inr plain ↦ rw (ne_eqb b 60 plain, ne_eqb b 34 quote) (encoded_without_quote text)
        ])
      ])
    ]

-- ---- escapes

-- an escaped `_` begins with an escape
escape_character : (rest : List ℕ) → escaped_character (codes "_x005F_" ++ rest) ≡ Some 95
escape_character rest =
    let long : nat_le 7 (length (codes "_x005F_" ++ rest)) ≡ true =
    le-leb 7 (length (codes "_x005F_" ++ rest)) (omega arith) in rw long refl

-- another byte begins none
none_of_false : (a b : Bool) → b ≡ false → (a && b) ≡ false
none_of_false true b is = is
none_of_false false b is = refl

no_escape : (b : ℕ) (rest : List ℕ) → b ≢ 95 → escaped_character (b ∷ rest) ≡ None
no_escape b rest other =
    rw (ne_eqb b 95 other) (rw (none_of_false (nat_le 7 (length (b ∷ rest))) false refl) refl)

-- an escaped text says the text
pub unescaped_escaped : (text : List ℕ) → unescaped (underscores_escaped text) ≡ text
unfolding encode
unescaped_escaped [] = unescaped-nil
unescaped_escaped (b ∷ text) =
    elim (cases_eq b 95) [
      | inl same ↦ rw (same)
          (unescaped-seven (codes "_x005F_" ++ underscores_escaped text) 95
          (escape_character (underscores_escaped text))
          ∙ ap (λ (rest : List ℕ). 95 ∷ rest) (unescaped_escaped text))
      | inr other ↦ rw (ne_eqb b 95 other)
          (unescaped-byte b (underscores_escaped text)
          (no_escape b (underscores_escaped text) other)
          ∙ ap (λ (rest : List ℕ). b ∷ rest) (unescaped_escaped text))
    ]
