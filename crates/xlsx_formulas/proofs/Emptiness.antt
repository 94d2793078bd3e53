-- A formula that is moved is empty exactly where it was.
use Rattle.std.proofs.Common.{◌≡◌, ℕ, List, [], ◌∷◌, length, sym, ap, arith}
use Rattle.std.specs.Prelude.{◌==◌, ℤ}
use Rattle.std.proofs.lemmas.Bool.Decides.{nat_tests}
use Rattle.formula_shift.specs.Words.{moved}
use Rattle.formula_shift.proofs.Cutting.{pieces-nil}
use Rattle.formula_shift.proofs.Moving.{moved-nil, moved-some}

pub empty_as_moved : (text : List ℕ) (offset : ℤ × ℤ)
    → (length text == 0) ≡ (length (moved text offset) == 0)
empty_as_moved [] offset =
    sym (ap (λ (own : List ℕ). length own == 0) (moved-nil [] offset pieces-nil))
empty_as_moved (b ∷ bs) offset =
    grind (arith, nat_tests, moved-some (b ∷ bs) offset (omega arith))
