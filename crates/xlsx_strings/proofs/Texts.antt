-- Where a text may be cut at its blanks.
use Rattle.std.proofs.Common.{◌≡◌, ◌⊎◌, ℕ, zero, suc, ◌+◌, ◌-◌, ◌<◌, ◌≤◌, List, length, get_or}
use Rattle.std.proofs.Common.{true, sym, ◌∙◌, ap, subst, inl, inr, arith, IsUtf8}
use Rattle.std.specs.Prelude.{reverse}
use Rattle.std.specs.List.{prefix_len, suffix_len}
use Rattle.std.specs.Str.{IsCharBoundary}
use Rattle.std.proofs.lemmas.List.Sums.{prefix_len-le-length, prefix_len_passes}
use Rattle.std.proofs.lemmas.List.Sums.{suffix_len-le-length}
use Rattle.std.proofs.lemmas.List.{get_or-reverse, length-reverse}
use Rattle.std.proofs.lemmas.Str.{IsCharBoundary-start, IsCharBoundary-after_ascii}
use Rattle.std.proofs.lemmas.Str.{IsCharBoundary-end, IsCharBoundary-before_ascii}
use Rattle.std.proofs.lemmas.Bool.Decides.{nat_tests}
use Rattle.xlsx_strings.specs.Strings.{is_blank}

-- a blank is one byte of ASCII
blank_ascii : (b : ℕ) → is_blank b ≡ true → b < 128
blank_ascii b is = grind (arith, nat_tests)

-- a text may be cut behind its leading blanks
cut_at : (text : List ℕ) (n : ℕ) → IsUtf8 text → n ≤ length text
    → ((k : ℕ) → k < n → is_blank (get_or text k 0) ≡ true) → IsCharBoundary text n
cut_at text zero utf8 within blank = IsCharBoundary-start text utf8
cut_at text (suc n) utf8 within blank =
    let same : n + 1 ≡ suc n = omega arith in
    subst (IsCharBoundary text) same
    (IsCharBoundary-after_ascii text n utf8 (omega (arith, within))
    (blank_ascii (get_or text n 0) (blank n (omega arith))))

pub cut_behind_blanks : (text : List ℕ) → IsUtf8 text
    → IsCharBoundary text (prefix_len is_blank text)
cut_behind_blanks text utf8 =
    cut_at text (prefix_len is_blank text) utf8 (prefix_len-le-length is_blank text)
    (λ k below. prefix_len_passes is_blank text k 0 below)

at_end : (n size : ℕ) → n ≤ size → (n ≡ size) ⊎ (n < size)
at_end n size within = grind (arith)

cut_before : (text : List ℕ) (n : ℕ) → n ≤ length text
    → (n < length text → is_blank (get_or text n 0) ≡ true) → IsCharBoundary text n
cut_before text n within blank = elim (at_end n (length text) within) [
  | inl ended ↦ subst (IsCharBoundary text) (sym ended) (IsCharBoundary-end text)
  | inr below ↦
      IsCharBoundary-before_ascii text n below (blank_ascii (get_or text n 0) (blank below))
]

-- and before those at its end
pub cut_before_blanks : (text : List ℕ)
    → IsCharBoundary text (length text - suffix_len is_blank text)
cut_before_blanks text =
    let fits = suffix_len-le-length is_blank text in
    let back = length-reverse text in
    let n = suffix_len is_blank text in
    cut_before text (length text - n) (omega arith) (λ below.
    let at : length text - 1 - (n - 1) ≡ length text - n = omega (arith, below, fits) in
    ap (λ (k : ℕ). is_blank (get_or text k 0)) (sym at)
    ∙ ap is_blank (sym (get_or-reverse text (n - 1) 0 (omega (arith, below, fits))))
    ∙ prefix_len_passes is_blank (reverse text) (n - 1) 0 (omega (arith, below, fits)))
