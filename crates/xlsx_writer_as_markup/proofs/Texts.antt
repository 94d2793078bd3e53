-- Which bytes are the text of a part: ASCII ones, what is cut at ASCII, and what is escaped.
use Rattle.std.proofs.Common.{◌≡◌, ℕ, zero, suc, ◌+◌, ◌<◌, Bool, true, false, List, [], ◌∷◌, ◌++◌}
use Rattle.std.proofs.Common.{length, refl, sym, ap, ◌∙◌, subst, arith, inl, inr, drop}
use Rattle.std.proofs.Common.{length-append, append_assoc}
use Rattle.std.specs.Prelude.{◌⊎◌, ◌==◌, ◌&&◌, nat_lt, if◌then◌else◌, codes}
use Rattle.std.specs.List.{list_all, flat_map}
use Rattle.std.specs.Str.{IsUtf8, IsAscii}
use Rattle.std.proofs.lemmas.Bool.{or_from, or_parts, and_parts, and_from, ltb-true, ne_eqb}
use Rattle.std.proofs.lemmas.Bool.{eqb-true, agree_below_at}
use Rattle.std.proofs.lemmas.List.Folds.{list_any-append, list_all-append}
use Rattle.std.proofs.Math.Seq.{take-append_seam, drop-append_seam, get_or-append_seam}
use Rattle.std.proofs.lemmas.Str.{IsUtf8-append, IsUtf8-from_ascii, IsUtf8-nil, IsUtf8-take}
use Rattle.std.proofs.lemmas.Str.{IsUtf8-drop, IsCharBoundary-before_ascii}
use Rattle.std.proofs.lemmas.Str.{IsCharBoundary-after_ascii}
use Rattle.text_package.specs.PartSpelling.{IsPartText}
use Rattle.written_markup.specs.Words.{has_byte, encoded, encoded_byte, underscores_escaped}
use Rattle.written_markup.specs.Words.{escaped_underscore, is_control, control_escape, makes_escape}
use Rattle.written_markup.specs.Words.{least_escaped}

-- an ASCII byte behind `"`
abbrev pub is_word_byte : ℕ → Bool
is_word_byte b = nat_lt 34 b && nat_lt b 128

-- each byte is one
abbrev pub is_word : List ℕ → Bool
is_word bytes = list_all is_word_byte bytes

-- ---- words

pub in_one_word : (front behind : List ℕ) → is_word front ≡ true → is_word behind ≡ true
    → is_word (front ++ behind) ≡ true
in_one_word front behind first second =
    list_all-append is_word_byte front behind ∙ and_from _ _ first second

word_is_ascii : (bytes : List ℕ) → is_word bytes ≡ true → IsAscii bytes
word_is_ascii [] are i = omega arith
word_is_ascii (b ∷ bytes) are zero = ltb-true b 128 (and_parts _ _ (and_parts _ _ are).0).1
word_is_ascii (b ∷ bytes) are (suc i) = word_is_ascii bytes (and_parts _ _ are).1 i

-- a byte up to `"` isn't in a word
pub word_without : (byte : ℕ) (bytes : List ℕ) → byte < 35 → is_word bytes ≡ true
    → has_byte byte bytes ≡ false
word_without byte [] low are = refl
word_without byte (b ∷ bytes) low are =
    let tests = and_parts _ _ are in
    let above = ltb-true 34 b (and_parts _ _ tests.0).0 in
    or_from _ _ (ne_eqb b byte (λ same. absurd (omega arith))) (word_without byte bytes low tests.1)

pub word_text : (bytes : List ℕ) → is_word bytes ≡ true → IsPartText bytes
word_text bytes are = record {
  utf8 = IsUtf8-from_ascii bytes (word_is_ascii bytes are);
  no_zero = word_without 0 bytes (omega arith) are;
}

-- ---- in a row, and cut

pub no_text : IsPartText []
no_text = record { utf8 = IsUtf8-nil; no_zero = refl }

ascii_all : (bytes : List ℕ) → list_all (λ b. nat_lt b 128) bytes ≡ true → IsAscii bytes
ascii_all [] are i = omega arith
ascii_all (b ∷ bytes) are zero = ltb-true b 128 (and_parts _ _ are).0
ascii_all (b ∷ bytes) are (suc i) = ascii_all bytes (and_parts _ _ are).1 i

-- ASCII bytes without a character 0
pub ascii_text : (bytes : List ℕ) → list_all (λ b. nat_lt b 128) bytes ≡ true
    → has_byte 0 bytes ≡ false → IsPartText bytes
ascii_text bytes ascii none =
    record { utf8 = IsUtf8-from_ascii bytes (ascii_all bytes ascii); no_zero = none }

pub joined : (first second : List ℕ) → IsPartText first → IsPartText second
    → IsPartText (first ++ second)
joined first second a b = record {
  utf8 = IsUtf8-append first second a.utf8 b.utf8;
  no_zero = list_any-append (λ b. b == 0) first second ∙ or_from _ _ a.no_zero b.no_zero;
}

utf8_before : (run : List ℕ) (b : ℕ) (behind : List ℕ) → b < 128 → IsUtf8 (run ++ b ∷ behind)
    → IsUtf8 run
utf8_before run b behind ascii whole =
    let there = get_or-append_seam run b behind 0 in
    subst IsUtf8 (take-append_seam run (b ∷ behind))
    (IsUtf8-take (run ++ b ∷ behind) (length run) whole
    (IsCharBoundary-before_ascii (run ++ b ∷ behind) (length run)
    (omega (arith, length-append run (b ∷ behind))) (omega arith)))

utf8_behind : (run : List ℕ) (b : ℕ) (behind : List ℕ) → b < 128 → IsUtf8 (run ++ b ∷ behind)
    → IsUtf8 behind
utf8_behind run b behind ascii whole =
    let there = get_or-append_seam run b behind 0 in
    let size : length (run ++ b ∷ []) ≡ length run + 1 = length-append run (b ∷ []) in
    subst IsUtf8
    (ap (λ n. drop n (run ++ b ∷ behind)) (sym size)
    ∙ ap (drop (length (run ++ b ∷ []))) (sym (append_assoc run (b ∷ []) behind))
    ∙ drop-append_seam (run ++ b ∷ []) behind)
    (IsUtf8-drop (run ++ b ∷ behind) (length run + 1) whole
    (IsCharBoundary-after_ascii (run ++ b ∷ behind) (length run) whole
    (omega (arith, length-append run (b ∷ behind))) (omega arith)))

-- before an ASCII byte and behind it stand texts
pub cut_apart : (run : List ℕ) (b : ℕ) (behind : List ℕ) → b < 128
    → IsPartText (run ++ b ∷ behind) → IsPartText run × IsPartText behind
cut_apart run b behind ascii whole =
    let zeros = or_parts (has_byte 0 run) (has_byte 0 (b ∷ behind))
    (sym (list_any-append (λ b. b == 0) run (b ∷ behind)) ∙ whole.no_zero) in
    let more = or_parts (b == 0) (has_byte 0 behind) zeros.1 in (
      record { utf8 = utf8_before run b behind ascii whole.utf8; no_zero = zeros.0 },
      record { utf8 = utf8_behind run b behind ascii whole.utf8; no_zero = more.1 },
    )

-- ---- escapes

-- a byte is written as it is, or it is an ASCII byte and written as a word
abbrev IsEscape : (ℕ → List ℕ) → ℕ → Type 0
IsEscape escape b = (escape b ≡ b ∷ []) ⊎ ((b < 128) × (is_word (escape b) ≡ true))

escaped_behind : (escape : ℕ → List ℕ) → ((b : ℕ) → IsEscape escape b) → (bytes run : List ℕ)
    → IsPartText (run ++ bytes) → IsPartText (run ++ flat_map escape bytes)
escaped_behind escape ways [] run whole = whole
escaped_behind escape ways (b ∷ bytes) run whole = elim (ways b) [
  | inl same ↦
      subst (λ (own : List ℕ). IsPartText (run ++ (own ++ flat_map escape bytes))) (sym same)
      (subst IsPartText (append_assoc run (b ∷ []) (flat_map escape bytes))
      (escaped_behind escape ways bytes (run ++ b ∷ [])
      (subst IsPartText (sym (append_assoc run (b ∷ []) bytes)) whole)))
  | inr other ↦
      let both = cut_apart run b bytes other.0 whole in
      joined run (escape b ++ flat_map escape bytes) both.0
      (joined (escape b) (flat_map escape bytes) (word_text (escape b) other.1)
      (escaped_behind escape ways bytes [] both.1))
]

-- a byte's word, or what else is written for it
one_way : (b c : ℕ) (word others : List ℕ) (test : Bool) → (b == c) ≡ test → c < 128
    → is_word word ≡ true → (others ≡ b ∷ []) ⊎ ((b < 128) × (is_word others ≡ true))
    → ((if test then word else others) ≡ b ∷ [])
    ⊎ ((b < 128) × (is_word (if test then word else others) ≡ true))
one_way b c word others true same ascii are more =
    let own = eqb-true b c same in inr (omega arith, are)
one_way b c word others false same ascii are more = more

encoded_way : (b : ℕ) → IsEscape encoded_byte b
encoded_way b =
    one_way b 38 _ _ (b == 38) refl (omega arith) refl
    (one_way b 34 _ _ (b == 34) refl (omega arith) refl
    (one_way b 60 _ _ (b == 60) refl (omega arith) refl (inl refl)))

escaped_way : (b : ℕ) → IsEscape escaped_underscore b
escaped_way b = one_way b 95 _ _ (b == 95) refl (omega arith) refl (inl refl)

pub encoded_text : (bytes : List ℕ) → IsPartText bytes → IsPartText (encoded bytes)
encoded_text bytes own = escaped_behind encoded_byte encoded_way bytes [] own

pub underscores_text : (bytes : List ℕ) → IsPartText bytes
    → IsPartText (underscores_escaped bytes)
underscores_text bytes own = escaped_behind escaped_underscore escaped_way bytes [] own

-- ---- no more escapes than needed

-- a control byte is written as a word
control_word : (b : ℕ) → b < 32 → is_word (control_escape b) ≡ true
control_word b small =
    agree_below_at (λ b. is_word (control_escape b)) (λ b. true) 32 b refl small

-- a byte is written as a word, whatever stands in front of it and behind
word_between : (run word behind : List ℕ) → IsUtf8 run → has_byte 0 run ≡ false
    → is_word word ≡ true → IsPartText behind → IsPartText (run ++ (word ++ behind))
word_between run word behind own none are more =
    joined run (word ++ behind) (record { utf8 = own; no_zero = none })
    (joined word behind (word_text word are) more)

least_behind : (bytes run : List ℕ) → has_byte 0 run ≡ false → IsUtf8 (run ++ bytes)
    → IsPartText (run ++ least_escaped bytes)
least_behind [] run none whole = record {
  utf8 = whole;
  no_zero = list_any-append (λ b. b == 0) run [] ∙ or_from _ _ none refl;
}
least_behind (b ∷ bytes) run none whole =
    by (is_control b) (b == 95 && makes_escape bytes) refl refl
    (λ (own : List ℕ). least_behind bytes own) where
      by : (control begins : Bool) → is_control b ≡ control
          → (b == 95 && makes_escape bytes) ≡ begins
          → ((own : List ℕ) → has_byte 0 own ≡ false → IsUtf8 (own ++ bytes)
          → IsPartText (own ++ least_escaped bytes))
          → IsPartText (run ++ ((if control then control_escape b
          else (if begins then codes "_x005F_" else b ∷ [])) ++ least_escaped bytes))
      by true begins is same more =
          let small = ltb-true b 32 (and_parts (nat_lt b 32) _ is).0 in
          word_between run (control_escape b) (least_escaped bytes)
          (utf8_before run b bytes (omega arith) whole) none (control_word b small)
          (more [] refl (utf8_behind run b bytes (omega arith) whole))
      by false true is same more =
          let own = eqb-true b 95 (and_parts (b == 95) _ same).0 in
          word_between run (codes "_x005F_") (least_escaped bytes)
          (utf8_before run b bytes (omega arith) whole) none refl
          (more [] refl (utf8_behind run b bytes (omega arith) whole))
      by false false is same more =
          let other : (b == 0) ≡ false =
          ne_eqb b 0 (λ zero. let own = ap is_control zero in cc) in
          subst IsPartText (append_assoc run (b ∷ []) (least_escaped bytes))
          (more (run ++ b ∷ [])
          (list_any-append (λ b. b == 0) run (b ∷ [])
          ∙ or_from _ _ none (or_from _ _ other refl))
          (subst IsUtf8 (sym (append_assoc run (b ∷ []) bytes)) whole))

-- a text with no more escapes than it needs is that of a part, whether it has a character 0 or not
pub least_text : (bytes : List ℕ) → IsUtf8 bytes → IsPartText (least_escaped bytes)
least_text bytes own = least_behind bytes [] refl own
