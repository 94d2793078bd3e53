-- A text around the first byte of a kind.
use Rattle.std.proofs.Common.{◌≡◌, ℕ, ◌<◌, Bool, false, List, ◌∷◌, ◌++◌, length, get_or, ap, ◌∙◌}
use Rattle.std.proofs.Common.{arith}
use Rattle.std.specs.Prelude.{◌==◌}
use Rattle.std.specs.List.{position_or_len, before_first, after_first}
use Rattle.std.proofs.lemmas.Bool.{eqb-true}
use Rattle.std.proofs.lemmas.List.{get_or-take, length-take}
use Rattle.std.proofs.lemmas.List.Sums.{split_at_first, fails_before_first, passes_at_first}

-- before the first byte that passes, none passes
pub fails_in_before_first : (p : ℕ → Bool) (text : List ℕ) (k : ℕ) →
    k < length (before_first p text) → p (get_or (before_first p text) k 0) ≡ false
fails_in_before_first p text k within =
    let n = position_or_len p text in
    let below : k < n = omega (arith, length-take n text) in
    ap p (get_or-take n text k 0 below) ∙ fails_before_first p text k 0 below

-- the text is what stands before a mark, the mark, and what stands behind it
pub split_at_mark : (mark : ℕ) (text : List ℕ) → position_or_len (λ b. b == mark) text < length text
    → text ≡ before_first (λ b. b == mark) text ++ mark ∷ after_first (λ b. b == mark) text
split_at_mark mark text some =
    let is_mark = λ (b : ℕ). b == mark in
    split_at_first is_mark text 0 some
    ∙ ap (λ b. before_first is_mark text ++ b ∷ after_first is_mark text)
    (eqb-true _ _ (passes_at_first is_mark text 0 some))
