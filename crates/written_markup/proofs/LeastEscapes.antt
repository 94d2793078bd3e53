-- Texts with no more escapes than they need say what was written.
use Rattle.std.proofs.Common.{◌≡◌, ℕ, zero, suc, ◌<◌, Bool, true, false, List, [], ◌∷◌, ◌++◌}
use Rattle.std.proofs.Common.{length, Some, None, refl, sym, ap, ◌∙◌, arith, eqb-true}
use Rattle.std.specs.Prelude.{◌==◌, ◌&&◌, ◌||◌, ◌/◌, ◌%◌, nat_lt, nat_le, codes, encode_utf8}
use Rattle.std.specs.Prelude.{if◌then◌else◌}
use Rattle.std.specs.Char.{digit_value}
use Rattle.std.specs.Fmt.{digit_glyph}
use Rattle.std.specs.Str.Parse.{digits_value}
use Rattle.std.proofs.lemmas.Bool.{and_parts, and_from, or_left, or_right, le-leb, ltb-true}
use Rattle.std.proofs.lemmas.Bool.{agree_below_at, false_from_ne_true, and_left, cond-false}
use Rattle.std.proofs.lemmas.Bool.{cond-true, lt-ltb}
use lib.Utf8.{scalar, encode}
use Rattle.attr_text.specs.Words.{begins_with_escape, all_digits, escaped_character, unescaped}
use Rattle.attr_text.proofs.EscapesLemmas.{unescaped-nil, unescaped-seven, unescaped-byte}
use Rattle.written_markup.specs.WrittenText.{is_control, control_escape, digits_then_mark}
use Rattle.written_markup.specs.WrittenText.{makes_escape, least_escaped}

-- ---- what reads as an escape

-- so many hexadecimal digits, and behind them a `_`
abbrev digits_then_underscore : ℕ → List ℕ → Bool
digits_then_underscore n [] = false
digits_then_underscore zero (b ∷ bytes) = b == 95
digits_then_underscore (suc n) (b ∷ bytes) =
    nat_lt (digit_value b) 16 && digits_then_underscore n bytes

-- what stands behind a `_` makes it the first byte of an escape
abbrev reads_escape : List ℕ → Bool
reads_escape [] = false
reads_escape (b ∷ bytes) = b == 120 && digits_then_underscore 4 bytes

-- the bytes behind the first one of an escape
escape_behind : (w : List ℕ) → begins_with_escape (95 ∷ w) ≡ true → reads_escape w ≡ true
escape_behind [] is = absurd cc
escape_behind (a ∷ []) is = absurd cc
escape_behind (a ∷ b ∷ []) is = absurd cc
escape_behind (a ∷ b ∷ c ∷ []) is = absurd cc
escape_behind (a ∷ b ∷ c ∷ d ∷ []) is = absurd cc
escape_behind (a ∷ b ∷ c ∷ d ∷ e ∷ []) is = absurd cc
escape_behind (a ∷ b ∷ c ∷ d ∷ e ∷ f ∷ w) is =
    let digits = all_digits 16 (b ∷ c ∷ d ∷ e ∷ []) in
    let long = and_parts _ (95 == 95 && (a == 120 && (f == 95 && digits))) is in
    let first = and_parts (a == 120) (f == 95 && digits) long.1 in
    let last = and_parts (f == 95) digits first.1 in
    let one = and_parts (nat_lt (digit_value b) 16) _ last.1 in
    let two = and_parts (nat_lt (digit_value c) 16) _ one.1 in
    let three = and_parts (nat_lt (digit_value d) 16) _ two.1 in
    let four = and_parts (nat_lt (digit_value e) 16) _ three.1 in
    and_from _ _ first.0 (and_from _ _ one.0 (and_from _ _ two.0 (and_from _ _ three.0
    (and_from _ _ four.0 last.0))))

-- ---- what is written so that it reads as one

-- a byte as it is written, by whether it is a control byte and whether it would begin an escape
abbrev byte_by : Bool → Bool → ℕ → List ℕ
byte_by control begins b =
    if control then control_escape b else (if begins then codes "_x005F_" else b ∷ [])

digits_written : (n : ℕ) (bytes : List ℕ)
    → digits_then_underscore n (least_escaped bytes) ≡ true → digits_then_mark n bytes ≡ true
digits_written n [] is = absurd cc
digits_written zero (b ∷ bytes) is =
    by (is_control b) (b == 95 && makes_escape bytes) refl is where
      by : (control begins : Bool) → (b == 95 && makes_escape bytes) ≡ begins
          → digits_then_underscore 0 (byte_by control begins b ++ least_escaped bytes) ≡ true
          → (b == 95 || control) ≡ true
      by true begins same is = or_right (b == 95) true refl
      by false true same is = or_left (b == 95) false (and_parts (b == 95) _ same).0
      by false false same is = or_left (b == 95) false is
digits_written (suc n) (b ∷ bytes) is =
    by (is_control b) (b == 95 && makes_escape bytes) is (digits_written n bytes) where
      by : (control begins : Bool)
          → digits_then_underscore (suc n) (byte_by control begins b ++ least_escaped bytes) ≡ true
          → (digits_then_underscore n (least_escaped bytes) ≡ true
          → digits_then_mark n bytes ≡ true)
          → (nat_lt (digit_value b) 16 && digits_then_mark n bytes) ≡ true
      by true begins is more = absurd cc
      by false true is more = absurd cc
      by false false is more =
          let parts = and_parts (nat_lt (digit_value b) 16) _ is in
          and_from _ _ parts.0 (more parts.1)

escape_written : (bytes : List ℕ) → reads_escape (least_escaped bytes) ≡ true
    → makes_escape bytes ≡ true
escape_written [] is = absurd cc
escape_written (b ∷ bytes) is =
    by (is_control b) (b == 95 && makes_escape bytes) is where
      by : (control begins : Bool)
          → reads_escape (byte_by control begins b ++ least_escaped bytes) ≡ true
          → (b == 120 && digits_then_mark 4 bytes) ≡ true
      by true begins is = absurd cc
      by false true is = absurd cc
      by false false is =
          let parts = and_parts (b == 120) _ is in
          and_from _ _ parts.0 (digits_written 4 bytes parts.1)

-- a byte that is written as it is begins no escape
none_begins : (b : ℕ) (bytes : List ℕ) → (b == 95 && makes_escape bytes) ≡ false
    → begins_with_escape (b ∷ least_escaped bytes) ≡ false
none_begins b bytes apart =
    false_from_ne_true (begins_with_escape (b ∷ least_escaped bytes)) (λ is.
    let w = least_escaped bytes in
    let parts = and_parts (nat_le 7 (length (b ∷ w))) _ is in
    let first = (and_parts (b == 95) _ parts.1).0 in
    let own = eqb-true b 95 first in
    let whole : begins_with_escape (95 ∷ w) ≡ true =
    ap (λ (c : ℕ). begins_with_escape (c ∷ w)) (sym own) ∙ is in
    let both = and_from (b == 95) (makes_escape bytes) first
    (escape_written bytes (escape_behind w whole)) in cc)

no_character : (b : ℕ) (bytes : List ℕ) → (b == 95 && makes_escape bytes) ≡ false
    → escaped_character (b ∷ least_escaped bytes) ≡ None
no_character b bytes apart =
    cond-false _ _ _ (and_left _ _ (none_begins b bytes apart))

-- ---- escapes that are written

-- two digits are those of this number of a scalar value
abbrev spells : ℕ → Bool
spells b =
    let h = digit_glyph true (b / 16) in
    let l = digit_glyph true (b % 16) in
    all_digits 16 (48 ∷ 48 ∷ h ∷ l ∷ [])
    && (scalar (digits_value 16 (48 ∷ 48 ∷ h ∷ l ∷ []))
    && (digits_value 16 (48 ∷ 48 ∷ h ∷ l ∷ []) == b))

each_spells : (b : ℕ) → b < 32 → spells b ≡ true
each_spells b small = agree_below_at spells (λ n. true) 32 b refl small

control_says : (b : ℕ) (rest : List ℕ) → b < 32
    → escaped_character (control_escape b ++ rest) ≡ Some b
control_says b rest small =
    let h = digit_glyph true (b / 16) in
    let l = digit_glyph true (b % 16) in
    let digits : List ℕ = 48 ∷ 48 ∷ h ∷ l ∷ [] in
    let own = and_parts (all_digits 16 digits) _ (each_spells b small) in
    let more = and_parts (scalar (digits_value 16 digits)) _ own.1 in
    let long : nat_le 7 (length (control_escape b ++ rest)) ≡ true = le-leb 7 _ (omega arith) in
    let begins : begins_with_escape (control_escape b ++ rest) ≡ true =
    and_from _ _ long own.0 in
    cond-true _ _ _ (and_from _ _ begins more.0)
    ∙ ap Some (eqb-true (digits_value 16 digits) b more.1)

-- a small character is its byte
one_byte : (b : ℕ) → b < 32 → encode_utf8 b ≡ b ∷ []
unfolding encode
one_byte b small = cond-true _ _ _ (lt-ltb b 128 (omega arith))

underscore_says : (rest : List ℕ) → escaped_character (codes "_x005F_" ++ rest) ≡ Some 95
underscore_says rest =
    let long : nat_le 7 (length (codes "_x005F_" ++ rest)) ≡ true =
    le-leb 7 (length (codes "_x005F_" ++ rest)) (omega arith) in rw long refl

-- a text with no more escapes than it needs says the text
pub unescaped_least : (text : List ℕ) → unescaped (least_escaped text) ≡ text
unfolding encode
unescaped_least [] = unescaped-nil
unescaped_least (b ∷ bytes) =
    by (is_control b) (b == 95 && makes_escape bytes) refl refl (unescaped_least bytes) where
      rest : List ℕ
      rest = least_escaped bytes

      by : (control begins : Bool) → is_control b ≡ control
          → (b == 95 && makes_escape bytes) ≡ begins → unescaped (least_escaped bytes) ≡ bytes
          → unescaped (byte_by control begins b ++ least_escaped bytes) ≡ b ∷ bytes
      by true begins is same more =
          let small = ltb-true b 32 (and_parts (nat_lt b 32) _ is).0 in
          unescaped-seven (control_escape b ++ least_escaped bytes) b
          (control_says b (least_escaped bytes) small)
          ∙ ap (λ (front : List ℕ). front ++ unescaped (least_escaped bytes)) (one_byte b small)
          ∙ ap (λ (own : List ℕ). b ∷ own) more
      by false true is same more =
          unescaped-seven (codes "_x005F_" ++ least_escaped bytes) 95
          (underscore_says (least_escaped bytes))
          ∙ ap (λ (own : List ℕ). 95 ∷ own) more
          ∙ ap (λ (c : ℕ). c ∷ bytes) (sym (eqb-true b 95 (and_parts (b == 95) _ same).0))
      by false false is same more =
          unescaped-byte b (least_escaped bytes) (no_character b bytes same)
          ∙ ap (λ (own : List ℕ). b ∷ own) more
