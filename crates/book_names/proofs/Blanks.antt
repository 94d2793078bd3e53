-- Where the blanks at the end of a text begin.
use Rattle.std.proofs.Common.{◌≡◌, ℕ, zero, suc, ◌-◌, ◌<◌, ◌≤◌, true, List, length, get_or, ap, ◌∙◌}
use Rattle.std.proofs.Common.{subst, arith}
use Rattle.std.specs.Prelude.{reverse}
use Rattle.std.specs.List.{suffix_len}
use Rattle.std.specs.Str.{IsCharBoundary}
use Rattle.std.proofs.lemmas.List.{get_or-reverse}
use Rattle.std.proofs.lemmas.List.Sums.{suffix_len-le-length, prefix_len_passes}
use Rattle.std.proofs.lemmas.Str.{IsCharBoundary-end, IsCharBoundary-before_ascii}
use Rattle.formula_tokens.specs.Tokens.{is_blank_byte}
use Rattle.formula_tokens.proofs.Cutting.{blank_is_ascii}

-- a text may be cut before the blanks at its end
pub end_boundary : (text : List ℕ) (n : ℕ) → n ≡ suffix_len is_blank_byte text →
    IsCharBoundary text (length text - n)
end_boundary text zero is =
    let all : length text ≡ length text - 0 = omega arith in
    subst (IsCharBoundary text) all (IsCharBoundary-end text)
end_boundary text (suc n) is =
    let few : suc n ≤ length text = omega (arith, is, suffix_len-le-length is_blank_byte text) in
    let place : length text - 1 - n ≡ length text - suc n = omega arith in
    let same : get_or (reverse text) n 0 ≡ get_or text (length text - suc n) 0 =
    get_or-reverse text n 0 (omega (arith, few)) ∙ ap (λ k. get_or text k 0) place in
    let ascii : get_or text (length text - suc n) 0 < 128 =
    subst (λ b. b < 128) same (blank_is_ascii (get_or (reverse text) n 0)
    (prefix_len_passes is_blank_byte (reverse text) n 0 (omega (arith, is)))) in
    IsCharBoundary-before_ascii text (length text - suc n) (omega (arith, few)) ascii
