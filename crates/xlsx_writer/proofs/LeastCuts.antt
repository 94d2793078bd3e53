-- A text is cut at the first byte that isn't written as it is.
use Rattle.std.proofs.Common.{◌≡◌, ℕ, zero, suc, ◌+◌, ◌<◌, ◌≤◌, Bool, true, false, List, [], ◌∷◌}
use Rattle.std.proofs.Common.{◌++◌, length, take, drop, get_or, refl, sym, ap, ◌∙◌, arith}
use Rattle.std.proofs.Common.{append_assoc, append-nil, eqb-true, length-drop, ◌-◌}
use Rattle.std.specs.Prelude.{◌==◌, ◌&&◌, ◌||◌, nat_lt, codes, if◌then◌else◌}
use Rattle.std.specs.Char.{digit_value}
use Rattle.std.proofs.lemmas.Bool.{and_left, and_right, eq-eqb, ne_eqb, or_parts, cond-false}
use Rattle.std.proofs.lemmas.Bool.{and_parts, ltb-true}
use Rattle.std.proofs.lemmas.List.{at_drop_more, take_more, take_all, drop_all}
use Rattle.written_markup.specs.Words.{is_control, digits_then_mark, makes_escape}
use Rattle.written_markup.specs.Words.{least_escaped_byte, least_escaped, control_escape}
use Rattle.xlsx_writer.specs.Escaping.{escape_alone, IsLeastCut}

few_digits : (n : ℕ) (bytes : List ℕ) → length bytes ≤ n → digits_then_mark n bytes ≡ false
few_digits n [] few = refl
few_digits zero (b ∷ bytes) few = absurd (omega arith)
few_digits (suc n) (b ∷ bytes) few = and_right _ _ (few_digits n bytes (omega arith))

-- a text of less than six bytes makes no escape
pub short_makes_none : (bytes : List ℕ) → length bytes < 6 → makes_escape bytes ≡ false
short_makes_none [] short = refl
short_makes_none (b ∷ bytes) short = and_right _ _ (few_digits 4 bytes (omega arith))

-- any other does by its first six
pub makes_by_six : (bytes : List ℕ) → 6 ≤ length bytes
    → makes_escape bytes
    ≡ (get_or bytes 0 0 == 120 && (nat_lt (digit_value (get_or bytes 1 0)) 16
    && (nat_lt (digit_value (get_or bytes 2 0)) 16 && (nat_lt (digit_value (get_or bytes 3 0)) 16
    && (nat_lt (digit_value (get_or bytes 4 0)) 16
    && (get_or bytes 5 0 == 95 || is_control (get_or bytes 5 0)))))))
makes_by_six [] long = absurd (omega arith)
makes_by_six (a ∷ []) long = absurd (omega arith)
makes_by_six (a ∷ b ∷ []) long = absurd (omega arith)
makes_by_six (a ∷ b ∷ c ∷ []) long = absurd (omega arith)
makes_by_six (a ∷ b ∷ c ∷ d ∷ []) long = absurd (omega arith)
makes_by_six (a ∷ b ∷ c ∷ d ∷ e ∷ []) long = absurd (omega arith)
makes_by_six (a ∷ b ∷ c ∷ d ∷ e ∷ f ∷ bytes) long = refl

-- the digits of an escape stand behind its first byte
abbrev pub has_digits : List ℕ → Bool
has_digits bytes =
    nat_lt (digit_value (get_or bytes 1 0)) 16 && (nat_lt (digit_value (get_or bytes 2 0)) 16
    && (nat_lt (digit_value (get_or bytes 3 0)) 16 && nat_lt (digit_value (get_or bytes 4 0)) 16))

regrouped : (a b c d e : Bool) → (a && (b && (c && (d && e)))) ≡ ((a && (b && (c && d))) && e)
regrouped true true true d e = refl
regrouped true true false d e = refl
regrouped true false c d e = refl
regrouped false b c d e = refl

module _ (bytes : List ℕ) (long : 6 ≤ length bytes) where
  pub other_first : (get_or bytes 0 0 ≡ 120 → ⊥) → makes_escape bytes ≡ false
  other_first other = makes_by_six bytes long ∙ and_left _ _ (ne_eqb (get_or bytes 0 0) 120 other)

  by_digits : makes_escape bytes
      ≡ (get_or bytes 0 0 == 120
      && (has_digits bytes && (get_or bytes 5 0 == 95 || is_control (get_or bytes 5 0))))
  by_digits =
      makes_by_six bytes long
      ∙ ap (λ (t : Bool). get_or bytes 0 0 == 120 && t)
      (regrouped (nat_lt (digit_value (get_or bytes 1 0)) 16)
      (nat_lt (digit_value (get_or bytes 2 0)) 16) (nat_lt (digit_value (get_or bytes 3 0)) 16)
      (nat_lt (digit_value (get_or bytes 4 0)) 16)
      (get_or bytes 5 0 == 95 || is_control (get_or bytes 5 0)))

  pub other_digits : has_digits bytes ≡ false → makes_escape bytes ≡ false
  other_digits none = by_digits ∙ and_right _ _ (and_left _ _ none)

  pub own_digits : get_or bytes 0 0 ≡ 120 → has_digits bytes ≡ true
      → makes_escape bytes ≡ (get_or bytes 5 0 == 95 || is_control (get_or bytes 5 0))
  own_digits first all =
      let begins = eq-eqb (get_or bytes 0 0) 120 first in
      by_digits
      ∙ (λ i. begins i && (all i && (get_or bytes 5 0 == 95 || is_control (get_or bytes 5 0))))

-- ---- a text, byte by byte

module _ (text : List ℕ) (i : ℕ) where
  abbrev own : ℕ
  own = get_or text i 0

  abbrev behind : List ℕ
  behind = drop (i + 1) text

  -- what is asked of a byte and of what stands behind it, where that is cut out of the text
  pub test_at : (is_control own || (own == 95 && makes_escape behind))
      ≡ (is_control own || (own == 95 && makes_escape (take (length text - (i + 1)) behind)))
  test_at =
      ap (λ (t : List ℕ). is_control own || (own == 95 && makes_escape t))
      (sym (take_all (length text - (i + 1)) behind (omega (arith, length-drop (i + 1) text))))

  -- the first bytes are written as they are
  abbrev pub IsWrittenUpTo : Type 0
  IsWrittenUpTo = least_escaped text ≡ take i text ++ least_escaped (drop i text)

  module _ (within : i < length text) (so_far : IsWrittenUpTo) where
    goes_on : least_escaped text
        ≡ take i text ++ (least_escaped_byte own behind ++ least_escaped behind)
    goes_on =
        let here : drop i text ≡ own ∷ behind = at_drop_more (λ (t : List ℕ). t) text i 0 within in
        so_far ∙ ap (λ (t : List ℕ). take i text ++ least_escaped t) here

    -- one more is
    pub kept : (is_control own || (own == 95 && makes_escape behind)) ≡ false
        → least_escaped text ≡ take (i + 1) text ++ least_escaped behind
    kept apart =
        let tests = or_parts (is_control own) (own == 95 && makes_escape behind) apart in
        let plain : least_escaped_byte own behind ≡ own ∷ [] =
        cond-false _ _ _ tests.0 ∙ cond-false _ _ _ tests.1 in
        goes_on
        ∙ ap (λ (t : List ℕ). take i text ++ (t ++ least_escaped behind)) plain
        ∙ sym (append_assoc (take i text) (own ∷ []) (least_escaped behind))
        ∙ ap (λ (t : List ℕ). t ++ least_escaped behind) (sym (take_more text i 0 within))

    -- or it isn't
    pub cut_here : (is_control own || (own == 95 && makes_escape behind)) ≡ true
        → IsLeastCut text i
    cut_here is =
        let same : (least_escaped_byte own behind ≡ escape_alone own) × (own < 128) =
        by (is_control own) (own == 95 && makes_escape behind) refl refl is in
        record {
          within = within;
          ascii = same.1;
          written = goes_on
              ∙ ap (λ (t : List ℕ). take i text ++ (t ++ least_escaped behind)) same.0;
        } where
          by : (control begins : Bool) → is_control own ≡ control
              → (own == 95 && makes_escape behind) ≡ begins → (control || begins) ≡ true
              → ((if control then control_escape own
              else (if begins then codes "_x005F_" else own ∷ []))
              ≡ (if control then control_escape own else codes "_x005F_")) × (own < 128)
          by true begins test other is =
              let small = ltb-true own 32 (and_parts (nat_lt own 32) _ test).0 in
              (refl, omega arith)
          by false true test other is =
              let same = eqb-true own 95 (and_parts (own == 95) _ other).0 in
              (refl, omega arith)
          by false false test other is = absurd cc

-- all bytes are
pub all_kept : (text : List ℕ) (i : ℕ) → length text ≤ i → IsWrittenUpTo text i
    → least_escaped text ≡ text
all_kept text i past so_far =
    so_far ∙ rw (take_all i text past, drop_all i text past, append-nil)
