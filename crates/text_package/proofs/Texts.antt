-- What the text of a part's bytes is.
use Rattle.std.proofs.Common.{◌≡◌, ◌↔◌, ℕ, ◌-◌, ◌<◌, ◌≤◌, List, [], ◌∷◌, ◌++◌, Bool, true, false}
use Rattle.std.proofs.Common.{map, Option, Some, None, length, drop, refl, sym, ap, ◌∙◌, subst}
use Rattle.std.proofs.Common.{arith, inl, inr}
use Rattle.std.specs.Prelude.{IsTrue, ◌==◌, not, is_some}
use Rattle.std.specs.List.{list_any}
use Rattle.std.specs.Str.{IsUtf8, is_utf8, IsCharBoundary, str_eq_ignore_ascii_case}
use Rattle.std.specs.Str.{str_to_ascii_lowercase}
use Rattle.std.proofs.lemmas.Bool.{cases_Bool, cond-true, cond-false, true≢false}
use Rattle.std.proofs.lemmas.Bool.{false_from_ne_true}
use Rattle.std.proofs.lemmas.List.{length-drop}
use Rattle.std.proofs.lemmas.List.Elements.{All-from_get_or}
use Rattle.std.proofs.lemmas.List.Folds.{list_any_none}
use Rattle.std.proofs.lemmas.Str.{IsUtf8-from_is_utf8, is_utf8-from_IsUtf8, IsUtf8-drop}
use Rattle.std.proofs.lemmas.Str.{IsCharBoundary-from_drop, IsCharBoundary-start, IsUtf8-past_char}
use Rattle.std.proofs.lemmas.Str.{IsUtf8-nil}
use Rattle.std.proofs.Math.Utf8.{encode}
use Rattle.memchr.specs.Find.{IsFirstByte, is_byte}
use Rattle.markup.specs.Words.{begins_with}
use Rattle.markup.proofs.Spans.{front_reads}
use Rattle.text_package.specs.PartText.{text_in, without_mark, declares_other}
use Rattle.text_package.specs.TextParts.{IsMark}
use Rattle.std.specs.Char.{to_ascii_lowercase}
use Rattle.std.proofs.lemmas.Bool.Decides.{same_from_decides}
use Rattle.std.proofs.lemmas.Slice.Eq.{bytes_eq-Decides}

pub decided : (b : Bool) (text other : List ℕ)
    → (IsTrue b ↔ (map to_ascii_lowercase text ≡ map to_ascii_lowercase other))
    → b ≡ str_eq_ignore_ascii_case text other
decided b text other same =
    same_from_decides b (str_eq_ignore_ascii_case text other) (same.0, same.1)
    (bytes_eq-Decides (str_to_ascii_lowercase text) (str_to_ascii_lowercase other))

-- ---- what the bytes are

pub no_text : (bytes : List ℕ) → (IsUtf8 bytes → ⊥) → None ≡ text_in bytes
no_text bytes not_one = elim (cases_Bool (is_utf8 bytes)) [
  | inl is ↦ absurd (not_one (IsUtf8-from_is_utf8 bytes is))
  | inr other ↦ sym (cond-true _ _ _ (ap not other))
]

no_zero : (bytes : List ℕ) (found : Option ℕ) → IsFirstByte (is_byte 0) bytes found
    → is_some found ≡ false → list_any (λ b. b == 0) bytes ≡ false
no_zero bytes None none is =
    list_any_none (λ b. b == 0) bytes (All-from_get_or (λ b. (b == 0) ≡ false) bytes 0
    (λ k below. false_from_ne_true _ (none k (omega arith) below)))
no_zero bytes (Some place) found is = absurd (true≢false is)

pub is_text : (bytes text own : List ℕ) (found : Option ℕ) → (text ≡ bytes) × IsUtf8 bytes
    → IsFirstByte (is_byte 0) bytes found → is_some found ≡ false → own ≡ without_mark text
    → declares_other own ≡ false → Some own ≡ text_in bytes
is_text bytes text own found is first none same plain =
    let here : own ≡ without_mark bytes = same ∙ ap without_mark is.0 in
    let reads : declares_other (without_mark bytes) ≡ false =
    subst (λ (t : List ℕ). declares_other t ≡ false) here plain in
    let utf8 : not (is_utf8 bytes) ≡ false = ap not (is_utf8-from_IsUtf8 bytes is.1) in
    ap Some here
    ∙ sym (cond-false _ _ _ utf8 ∙ cond-false _ _ _ (no_zero bytes found first none)
    ∙ cond-false _ _ _ reads)

-- what a text says of the bytes
pub record IsTextOf (bytes text : List ℕ) : Type 0 where
  pub utf8 : IsUtf8 bytes
  pub own : text ≡ without_mark bytes

pub text_of : (bytes text : List ℕ) → text_in bytes ≡ Some text → IsTextOf bytes text
text_of bytes text is = elim (cases_Bool (is_utf8 bytes)) [
  | inr other ↦
      let none : text_in bytes ≡ None = cond-true _ _ _ (ap not other) in absurd cc
  | inl utf8 ↦ elim (cases_Bool (list_any (λ b. b == 0) bytes)) [
    | inl zero_in ↦
        let none : text_in bytes ≡ None =
        cond-false _ _ _ (ap not utf8) ∙ cond-true _ _ _ zero_in in absurd cc
    | inr without ↦ elim (cases_Bool (declares_other (without_mark bytes))) [
      | inl declares ↦
          let none : text_in bytes ≡ None =
          cond-false _ _ _ (ap not utf8) ∙ cond-false _ _ _ without ∙ cond-true _ _ _ declares in
          absurd cc
      | inr reads ↦
          let some : text_in bytes ≡ Some (without_mark bytes) =
          cond-false _ _ _ (ap not utf8) ∙ cond-false _ _ _ without ∙ cond-false _ _ _ reads in
          record { utf8 = IsUtf8-from_is_utf8 bytes utf8; own = cc }
    ]
  ]
]

-- ---- the byte order mark

mark_spelled : encode 65279 ≡ 239 ∷ 187 ∷ 191 ∷ []
unfolding encode
mark_spelled = refl

behind_mark : (bytes : List ℕ) → IsUtf8 bytes → begins_with (239 ∷ 187 ∷ 191 ∷ []) bytes ≡ true
    → (3 ≤ length bytes) × IsCharBoundary bytes 3
behind_mark [] utf8 is = absurd cc
behind_mark (a ∷ []) utf8 is =
    let second = front_reads (239 ∷ 187 ∷ 191 ∷ []) (a ∷ []) is 1 (omega arith) in
    absurd (omega arith)
behind_mark (a ∷ b ∷ []) utf8 is =
    let third = front_reads (239 ∷ 187 ∷ 191 ∷ []) (a ∷ b ∷ []) is 2 (omega arith) in
    absurd (omega arith)
behind_mark (a ∷ b ∷ c ∷ rest) utf8 is =
    let whole : List ℕ = a ∷ b ∷ c ∷ rest in
    let first : a ≡ 239 = (front_reads (239 ∷ 187 ∷ 191 ∷ []) whole is 0 (omega arith)).1 in
    let second : b ≡ 187 = (front_reads (239 ∷ 187 ∷ 191 ∷ []) whole is 1 (omega arith)).1 in
    let third : c ≡ 191 = (front_reads (239 ∷ 187 ∷ 191 ∷ []) whole is 2 (omega arith)).1 in
    let plain : whole ≡ (239 ∷ 187 ∷ 191 ∷ []) ++ rest = cc in
    let front : whole ≡ encode 65279 ++ rest =
    plain ∙ ap (λ (t : List ℕ). t ++ rest) (sym mark_spelled) in (
      omega arith,
      IsCharBoundary-from_drop whole 3 (omega arith)
          (IsUtf8-past_char whole rest 65279 utf8 front),
    )

pub mark_is : (bytes text : List ℕ) → text_in bytes ≡ Some text
    → IsMark bytes (length bytes - length text)
mark_is bytes text is =
    let known = text_of bytes text is in
    elim (cases_Bool (begins_with (239 ∷ 187 ∷ 191 ∷ []) bytes)) [
      | inl marked ↦
          let own : text ≡ drop 3 bytes = known.own ∙ cond-true _ _ _ marked in
          let behind = behind_mark bytes known.utf8 marked in
          let size : 3 ≡ length bytes - length text =
          omega (arith, ap length own, length-drop 3 bytes, behind.0) in record {
            text = is ∙ ap Some (own ∙ ap (λ n. drop n bytes) size);
            fits = subst (IsCharBoundary bytes) size behind.1;
          }
      | inr plain ↦
          let own : text ≡ bytes = known.own ∙ cond-false _ _ _ plain in
          let size : 0 ≡ length bytes - length text = omega (arith, ap length own) in record {
            text = is ∙ ap Some (own ∙ ap (λ n. drop n bytes) size);
            fits = subst (IsCharBoundary bytes) size (IsCharBoundary-start bytes known.utf8);
          }
    ]

pub text_is_utf8 : (bytes text : List ℕ) → text_in bytes ≡ Some text → IsUtf8 text
text_is_utf8 bytes text is =
    let known = text_of bytes text is in
    let mark = mark_is bytes text is in
    let own : drop (length bytes - length text) bytes ≡ text = cc (is, mark.text) in
    subst IsUtf8 own (IsUtf8-drop bytes (length bytes - length text) known.utf8 mark.fits)

pub text_within : (bytes text : List ℕ) → text_in bytes ≡ Some text → length text ≤ length bytes
text_within bytes text is =
    let mark = mark_is bytes text is in
    let own : drop (length bytes - length text) bytes ≡ text = cc (is, mark.text) in
    omega (arith, ap length own, length-drop (length bytes - length text) bytes)

pub some_byte : (bytes : List ℕ) → text_in bytes ≡ None → 0 < length bytes
some_byte [] is =
    let own : Some [] ≡ text_in [] =
    is_text [] [] [] None (refl, IsUtf8-nil) (λ k high low. absurd (omega arith)) refl refl refl in
    absurd cc
some_byte (b ∷ bytes) is = omega arith
