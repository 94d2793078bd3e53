-- Line ends, run by run.
use Rattle.std.proofs.Common.{◌≡◌, ℕ, suc, ◌+◌, ◌<◌, ◌≤◌, Bool, true, false, List, [], ◌∷◌, ◌++◌}
use Rattle.std.proofs.Common.{length, get_or, refl, sym, ap, ◌∙◌, arith, append-nil, append_assoc}
use Rattle.std.proofs.Common.{length-drop, inl, inr}
use Rattle.std.specs.Prelude.{◌==◌, ◌≢◌, if◌then◌else◌}
use Rattle.std.specs.List.{position_or_len, before_first, after_first}
use Rattle.std.proofs.lemmas.Bool.{eq-eqb, ne_eqb, cases_eq}
use Rattle.std.proofs.lemmas.List.Sums.{fails_before_first}
use Rattle.std.proofs.lemmas.List.{length-take}
use Rattle.attr_text.proofs.CutsLemmas.{fails_in_before_first, split_at_mark}
use Rattle.attr_text.specs.Text.{line_ends_behind, line_ends}
use Rattle.attr_text.specs.Lines.{without_line_feed}

-- CR
abbrev is_return : ℕ → Bool
is_return b = b == 13

-- an LF behind a CR is no line end of its own
line_ends_behind-return : (text : List ℕ) →
    line_ends_behind true text ≡ line_ends_behind false (without_line_feed text)
unfolding line_ends_behind
line_ends_behind-return [] = refl
line_ends_behind-return (b ∷ bs) =
    elim (cases_eq b 10) [
      | inl same ↦ rw (ne_eqb b 13 (λ e. absurd (omega arith)), eq-eqb b 10 same)
      | inr ne ↦ rw (ne_eqb b 10 ne)
    ]

-- a run without CR stays
line_ends_behind-run : (run rest : List ℕ) →
    ((k : ℕ) → k < length run → is_return (get_or run k 0) ≡ false)
    → line_ends_behind false (run ++ rest) ≡ run ++ line_ends_behind false rest
unfolding line_ends_behind
line_ends_behind-run [] rest plain = refl
line_ends_behind-run (b ∷ run) rest plain =
    rw (plain 0 (omega arith))
    (ap (λ (t : List ℕ). b ∷ t)
    (line_ends_behind-run run rest (λ k l. plain (suc k) (omega arith))))

-- a text without CR
pub line_ends-plain : (text : List ℕ) → position_or_len is_return text ≡ length text →
    line_ends text ≡ text
unfolding line_ends line_ends_behind
line_ends-plain text none =
    ap (line_ends_behind false) (sym (append-nil text))
    ∙ line_ends_behind-run text [] (λ k l. fails_before_first is_return text k 0 (omega arith))
    ∙ append-nil text

line_ends_behind-at_return : (behind : List ℕ) →
    line_ends_behind false (13 ∷ behind) ≡ 10 ∷ line_ends_behind false (without_line_feed behind)
unfolding line_ends_behind
line_ends_behind-at_return behind = ap (λ (t : List ℕ). 10 ∷ t) (line_ends_behind-return behind)

-- a text up to its first CR, and what follows that line end
pub line_ends-first : (text run behind rest : List ℕ) →
    position_or_len is_return text < length text → run ≡ before_first is_return text
    → behind ≡ after_first is_return text → rest ≡ without_line_feed behind →
    line_ends text ≡ run ++ 10 ∷ line_ends rest
unfolding line_ends
line_ends-first text run behind rest some run_is behind_is rest_is =
    ap (line_ends_behind false) (split_at_mark 13 text some)
    ∙ line_ends_behind-run (before_first is_return text) (13 ∷ after_first is_return text)
    (fails_in_before_first is_return text)
    ∙ ap (λ (t : List ℕ). before_first is_return text ++ t)
    (line_ends_behind-at_return (after_first is_return text))
    ∙ rw (← run_is, ← behind_is, ← rest_is)

-- a text that does not begin with LF
pub without_line_feed-none : (text : List ℕ) → ((rest : List ℕ) → text ≡ 10 ∷ rest → ⊥) →
    text ≡ without_line_feed text
without_line_feed-none [] none = refl
without_line_feed-none (b ∷ bs) none =
    elim (cases_eq b 10) [
      | inl same ↦ absurd (none bs (ap (λ c. c ∷ bs) same))
      | inr ne ↦ rw (ne_eqb b 10 ne)
    ]

pub length-without_line_feed : (text : List ℕ) → length (without_line_feed text) ≤ length text
length-without_line_feed [] = omega arith
length-without_line_feed (b ∷ bs) =
    elim (b == 10) as (λ q. length (if q then bs else b ∷ bs) ≤ suc (length bs))
    [ true ↦ omega arith | false ↦ omega arith ]

-- a run, its CR and what follows it
pub length-line : (text run behind rest : List ℕ) → position_or_len is_return text < length text →
    run ≡ before_first is_return text
    → behind ≡ after_first is_return text → rest ≡ without_line_feed behind →
    length run + 1 + length rest ≤ length text
length-line text run behind rest some run_is behind_is rest_is =
    let n = position_or_len is_return text in
    omega (
      arith,
      ap length run_is,
      ap length behind_is,
      ap length rest_is,
      length-take n text,
      length-drop (n + 1) text,
      length-without_line_feed behind,
    )

-- what is written once a run and its line end are
pub line_written : (out run rest whole text : List ℕ) → out ++ line_ends text ≡ whole →
    line_ends text ≡ run ++ 10 ∷ line_ends rest
    → (out ++ run ++ 10 ∷ []) ++ line_ends rest ≡ whole
line_written out run rest whole text so_far first =
    simp append_assoc (sym (ap (λ t. out ++ t) first) ∙ so_far)

-- a run and its CR
pub length-mark : (text run : List ℕ) → position_or_len is_return text < length text →
    run ≡ before_first is_return text → length run + 1 ≤ length text
length-mark text run some run_is =
    omega (arith, ap length run_is, length-take (position_or_len is_return text) text)

pub line_ends-nil : line_ends [] ≡ []
unfolding line_ends line_ends_behind
line_ends-nil = refl

-- a CR in front, and an LF behind it or none
line_ends-return : (rest : List ℕ) → line_ends (13 ∷ rest) ≡ 10 ∷ line_ends (without_line_feed rest)
unfolding line_ends
line_ends-return rest = line_ends_behind-at_return rest

pub line_ends-return_and_feed : (rest : List ℕ) → line_ends (13 ∷ 10 ∷ rest) ≡ 10 ∷ line_ends rest
line_ends-return_and_feed rest = line_ends-return (10 ∷ rest)

pub line_ends-lone_return : (b : ℕ) (rest : List ℕ) → b ≢ 10 →
    line_ends (13 ∷ b ∷ rest) ≡ 10 ∷ line_ends (b ∷ rest)
line_ends-lone_return b rest lone = line_ends-return (b ∷ rest) ∙ rw (ne_eqb b 10 lone) refl

pub line_ends-last_return : line_ends (13 ∷ []) ≡ 10 ∷ []
line_ends-last_return = line_ends-return [] ∙ ap (λ (t : List ℕ). 10 ∷ t) line_ends-nil

-- another byte in front
pub line_ends-other : (b : ℕ) (rest : List ℕ) → b ≢ 13 → line_ends (b ∷ rest) ≡ b ∷ line_ends rest
unfolding line_ends line_ends_behind
line_ends-other b rest other = rw (ne_eqb b 13 other) refl
