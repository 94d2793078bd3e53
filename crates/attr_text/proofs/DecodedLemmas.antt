-- A text decoded run by run.
use Rattle.std.proofs.Common.{◌≡◌, ℕ, zero, suc, ◌+◌, ◌-◌, ◌<◌, ◌≤◌, Bool, true, false, List, []}
use Rattle.std.proofs.Common.{◌∷◌, ◌++◌, length, drop, get_or, Ok, Err, Some, None, Option, Result}
use Rattle.std.proofs.Common.{refl, sym, ap, ap₂, ◌∙◌, inl, inr, arith, append_assoc, append-nil}
use Rattle.std.proofs.Common.{length-drop}
use Rattle.std.specs.Prelude.{◌==◌, ◌≢◌, if◌then◌else◌, nat_lt, encode_utf8}
use Rattle.std.specs.List.{position_or_len, before_first, after_first}
use Rattle.std.proofs.lemmas.Bool.{lt-ltb, le-ltb, ltb-true, ne_eqb, cases_Bool}
use Rattle.std.proofs.lemmas.List.Sums.{fails_before_first}
use Rattle.std.proofs.lemmas.List.{length-take}
use Rattle.attr_text.proofs.CutsLemmas.{fails_in_before_first, split_at_mark}
use Rattle.attr_text.specs.Text.{entity_character, onto_text, onto_character, character_behind}
use Rattle.attr_text.specs.Text.{is_semicolon, decoded_within, onto_decoded, decoded}

-- `&`
abbrev is_ampersand : ℕ → Bool
is_ampersand b = b == 38

pub onto_text-nil : (r : Result (List ℕ) ℕ) → onto_text [] r ≡ r
onto_text-nil (Ok text) = refl
onto_text-nil (Err at) = refl

pub onto_text-append : (xs ys : List ℕ) (r : Result (List ℕ) ℕ) →
    onto_text xs (onto_text ys r) ≡ onto_text (xs ++ ys) r
onto_text-append xs ys (Ok text) = ap Ok (sym (append_assoc xs ys text))
onto_text-append xs ys (Err at) = refl

-- bytes that are skipped
decoded_within-skip : (size : ℕ) (text : List ℕ) (n : ℕ) →
    decoded_within size text n ≡ decoded_within size (drop n text) 0
unfolding decoded_within
decoded_within-skip size [] zero = refl
decoded_within-skip size [] (suc n) = refl
decoded_within-skip size (b ∷ bs) zero = refl
decoded_within-skip size (b ∷ bs) (suc n) = decoded_within-skip size bs n

-- a run without `&` stays
decoded_within-run : (size : ℕ) (run rest : List ℕ) →
    ((k : ℕ) → k < length run → is_ampersand (get_or run k 0) ≡ false)
    → decoded_within size (run ++ rest) 0 ≡ onto_text run (decoded_within size rest 0)
unfolding decoded_within
decoded_within-run size [] rest plain = sym (onto_text-nil (decoded_within size rest 0))
decoded_within-run size (b ∷ run) rest plain =
    rw (plain 0 (omega arith))
    (ap (onto_text (b ∷ [])) (decoded_within-run size run rest (λ k l. plain (suc k) (omega arith)))
    ∙ onto_text-append (b ∷ []) run (decoded_within size rest 0))

-- a text without `&`
pub decoded_within-plain : (size : ℕ) (text : List ℕ) →
    position_or_len is_ampersand text ≡ length text → decoded_within size text 0 ≡ Ok text
unfolding decoded_within
decoded_within-plain size text none =
    ap (λ (t : List ℕ). decoded_within size t 0) (sym (append-nil text))
    ∙ decoded_within-run size text []
    (λ k l. fails_before_first is_ampersand text k 0 (omega arith))
    ∙ ap Ok (append-nil text)

-- a text that begins with `&`
decoded_within-ampersand : (size : ℕ) (behind : List ℕ) → decoded_within size (38 ∷ behind) 0
    ≡ onto_character (size - length (38 ∷ behind)) (character_behind behind)
    (decoded_within size (after_first is_semicolon behind) 0)
unfolding decoded_within
decoded_within-ampersand size behind =
    ap (onto_character (size - length (38 ∷ behind)) (character_behind behind))
    (decoded_within-skip size behind (position_or_len is_semicolon behind + 1))

-- a text up to its first reference
decoded_within-first : (size : ℕ) (text : List ℕ) →
    position_or_len is_ampersand text < length text →
    let behind = after_first is_ampersand text in
    decoded_within size text 0 ≡ onto_text (before_first is_ampersand text)
    (onto_character (size - length (38 ∷ behind)) (character_behind behind)
    (decoded_within size (after_first is_semicolon behind) 0))
decoded_within-first size text some =
    let run = before_first is_ampersand text in
    let behind = after_first is_ampersand text in
    ap (λ (t : List ℕ). decoded_within size t 0) (split_at_mark 38 text some)
    ∙ decoded_within-run size run (38 ∷ behind) (fails_in_before_first is_ampersand text)
    ∙ ap (onto_text run) (decoded_within-ampersand size behind)

-- the first reference has no character
pub decoded_within-refused : (size : ℕ) (text run behind : List ℕ) →
    position_or_len is_ampersand text < length text → length text ≤ size
    → run ≡ before_first is_ampersand text → behind ≡ after_first is_ampersand text →
    character_behind behind ≡ None
    → decoded_within size text 0 ≡ Err (size - length text + length run)
decoded_within-refused size text run behind some within run_is behind_is none =
    let n = position_or_len is_ampersand text in
    let place : size - length (38 ∷ behind) ≡ size - length text + length run =
    omega (
      arith,
      ap length run_is,
      ap length behind_is,
      length-take n text,
      length-drop (n + 1) text,
    ) in
    decoded_within-first size text some
    ∙ rw (← run_is, ← behind_is, none) (ap Err place)

-- the first reference has a character
pub decoded_within-character : (size : ℕ) (text run behind after : List ℕ) (c : ℕ) →
    position_or_len is_ampersand text < length text
    → run ≡ before_first is_ampersand text → behind ≡ after_first is_ampersand text →
    after ≡ after_first is_semicolon behind → character_behind behind ≡ Some c
    → decoded_within size text 0 ≡ onto_text (run ++ encode_utf8 c) (decoded_within size after 0)
decoded_within-character size text run behind after c some run_is behind_is after_is found =
    decoded_within-first size text some
    ∙ rw (← run_is, ← behind_is, found, ← after_is)
    (onto_text-append run (encode_utf8 c) (decoded_within size after 0))

-- the character behind an `&`, by the name that was cut out
pub character_behind-none : (behind : List ℕ) →
    position_or_len is_semicolon behind ≡ length behind → character_behind behind ≡ None
character_behind-none behind none =
    rw (le-ltb (position_or_len is_semicolon behind) (length behind) (omega arith))

pub character_behind-name : (behind name : List ℕ) →
    position_or_len is_semicolon behind < length behind → name ≡ before_first is_semicolon behind
    → character_behind behind ≡ entity_character name
character_behind-name behind name some name_is =
    rw (lt-ltb (position_or_len is_semicolon behind) (length behind) some)
    (ap entity_character (sym name_is))

-- what follows a reference is no longer than the text
pub after-le : (text behind after : List ℕ) → behind ≡ after_first is_ampersand text →
    after ≡ after_first is_semicolon behind → length after ≤ length text
after-le text behind after behind_is after_is =
    omega (
      arith,
      ap length behind_is,
      ap length after_is,
      length-drop (position_or_len is_ampersand text + 1) text,
      length-drop (position_or_len is_semicolon behind + 1) behind,
    )

onto_text-decoded : (front written : List ℕ) (taken : ℕ) (r : Result (List ℕ) ℕ) →
    onto_text front (onto_decoded written taken r) ≡ onto_decoded (front ++ written) taken r
onto_text-decoded front written taken (Ok text) = ap Ok (sym (append_assoc front written text))
onto_text-decoded front written taken (Err at) = refl

onto_character-decoded : (taken place : ℕ) (c : Option ℕ) (r : Result (List ℕ) ℕ) →
    onto_character (taken + place) c (onto_decoded [] taken r)
    ≡ onto_decoded [] taken (onto_character place c r)
onto_character-decoded taken place None r = refl
onto_character-decoded taken place (Some c) (Ok text) = refl
onto_character-decoded taken place (Some c) (Err at) = refl

onto_text-decoded_text : (front : List ℕ) (taken : ℕ) (r : Result (List ℕ) ℕ) →
    onto_text front (onto_decoded [] taken r) ≡ onto_decoded [] taken (onto_text front r)
onto_text-decoded_text front taken (Ok text) = refl
onto_text-decoded_text front taken (Err at) = refl

-- more bytes in front move the place of a refusal
decoded_within-later : (taken size : ℕ) (text : List ℕ) (skipped : ℕ) → length text ≤ size →
    decoded_within (taken + size) text skipped
    ≡ onto_decoded [] taken (decoded_within size text skipped)
unfolding decoded_within
decoded_within-later taken size [] skipped within = refl
decoded_within-later taken size (b ∷ bs) (suc skipped) within =
    decoded_within-later taken size bs skipped (omega arith)
decoded_within-later taken size (b ∷ bs) zero within =
    let behind = position_or_len is_semicolon bs + 1 in
    let place : taken + size - length (b ∷ bs) ≡ taken + (size - length (b ∷ bs)) = omega arith in
    elim (b == 38) as (λ q.
    (if q then onto_character (taken + size - length (b ∷ bs)) (character_behind bs)
    (decoded_within (taken + size) bs behind)
    else onto_text (b ∷ []) (decoded_within (taken + size) bs 0))
    ≡ onto_decoded [] taken (if q then onto_character (size - length (b ∷ bs))
    (character_behind bs) (decoded_within size bs behind)
    else onto_text (b ∷ []) (decoded_within size bs 0))) [
      | true ↦ ap₂ (λ n r. onto_character n (character_behind bs) r) place
          (decoded_within-later taken size bs behind (omega arith))
          ∙ onto_character-decoded taken (size - length (b ∷ bs)) (character_behind bs)
          (decoded_within size bs behind)
      | false ↦ ap (onto_text (b ∷ [])) (decoded_within-later taken size bs 0 (omega arith))
          ∙ onto_text-decoded_text (b ∷ []) taken (decoded_within size bs 0)
    ]

-- the end of a text, decoded by itself
decoded_within-end : (taken size : ℕ) (text : List ℕ) → size ≡ taken + length text →
    decoded_within size text 0 ≡ onto_decoded [] taken (decoded text)
unfolding decoded
decoded_within-end taken size text is =
    ap (λ n. decoded_within n text 0) is
    ∙ decoded_within-later taken (length text) text 0 (omega arith)

pub decoded-nil : decoded [] ≡ Ok []
unfolding decoded decoded_within
decoded-nil = refl

first_of_one : (b k : ℕ) → k < 1 → get_or (b ∷ []) k 0 ≡ b
first_of_one b zero l = refl
first_of_one b (suc k) l = absurd (omega arith)

-- a byte other than `&` in front
pub decoded-other : (b : ℕ) (rest : List ℕ) → b ≢ 38 →
    decoded (b ∷ rest) ≡ onto_decoded (b ∷ []) 1 (decoded rest)
unfolding decoded
decoded-other b rest other =
    let size = length (b ∷ rest) in
    decoded_within-run size (b ∷ []) rest (λ k l. rw (first_of_one b k l) (ne_eqb b 38 other))
    ∙ ap (onto_text (b ∷ [])) (decoded_within-end 1 size rest (omega arith))
    ∙ onto_text-decoded (b ∷ []) [] 1 (decoded rest)

decoded-ampersand : (rest : List ℕ) → decoded (38 ∷ rest)
    ≡ onto_character 0 (character_behind rest)
    (decoded_within (length (38 ∷ rest)) (after_first is_semicolon rest) 0)
unfolding decoded
decoded-ampersand rest =
    let size = length (38 ∷ rest) in
    let first : size - size ≡ 0 = omega arith in
    decoded_within-ampersand size rest
    ∙ ap (λ n. onto_character n (character_behind rest)
    (decoded_within size (after_first is_semicolon rest) 0)) first

-- a reference without a character in front
pub decoded-refused : (rest : List ℕ) → character_behind rest ≡ None → decoded (38 ∷ rest) ≡ Err 0
decoded-refused rest none = decoded-ampersand rest ∙ rw none refl

semicolon_stands : (rest : List ℕ) (c : ℕ) → character_behind rest ≡ Some c →
    position_or_len is_semicolon rest < length rest
semicolon_stands rest c some =
    let at = position_or_len is_semicolon rest in
    elim (cases_Bool (nat_lt at (length rest))) [
      | inl stands ↦ ltb-true at (length rest) stands
      | inr absent ↦
          let none : character_behind rest ≡ None = rw absent refl in
          absurd cc
    ]

-- a reference with a character in front
pub decoded-character : (rest : List ℕ) (c : ℕ) → character_behind rest ≡ Some c →
    decoded (38 ∷ rest) ≡ onto_decoded (encode_utf8 c) (length (before_first is_semicolon rest) + 2)
    (decoded (after_first is_semicolon rest))
decoded-character rest c some =
    let size = length (38 ∷ rest) in
    let at = position_or_len is_semicolon rest in
    let after = after_first is_semicolon rest in
    let taken = length (before_first is_semicolon rest) + 2 in
    let whole : size ≡ taken + length after =
    omega (arith, semicolon_stands rest c some, length-take at rest, length-drop (at + 1) rest) in
    decoded-ampersand rest
    ∙ rw some (ap (onto_text (encode_utf8 c)) (decoded_within-end taken size after whole))
    ∙ onto_text-decoded (encode_utf8 c) [] taken (decoded after)
    ∙ rw append-nil refl
