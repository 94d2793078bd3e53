-- Digits in their places, one by one.
use Rattle.std.proofs.Common.{◌≡◌, ℕ, zero, suc, ◌-◌, ◌<◌, ◌≤◌, ◌++◌, List, [], Bool, refl, sym, ap}
use Rattle.std.proofs.Common.{◌∙◌, arith}
use Rattle.std.specs.Prelude.{nat_le}
use Rattle.std.proofs.lemmas.Bool.Decides.{nat_tests}
use Rattle.excel_dates.proofs.SerialSteps.{by_true, by_false}
use Rattle.shown_text.specs.Digits.{surplus, placed_text, digit_at}

-- a digit that has no place, and none
pub surplus_step : (grouped : Bool) (digits : List ℕ) (places left : ℕ) → places < left →
    surplus grouped digits places left
    ≡ placed_text grouped (left - 1) (digit_at digits (left - 1))
    ++ surplus grouped digits places (left - 1)
surplus_step grouped digits places zero more = absurd (omega arith)
surplus_step grouped digits places (suc left) more =
    let back : suc left - 1 ≡ left = omega arith in
    by_true (nat_le places left) _ [] (grind (arith, nat_tests))
    ∙ ap (λ k. placed_text grouped k (digit_at digits k) ++ surplus grouped digits places k)
    (sym back)

pub surplus_end : (grouped : Bool) (digits : List ℕ) (places left : ℕ) → left ≤ places →
    surplus grouped digits places left ≡ []
surplus_end grouped digits places zero none = refl
surplus_end grouped digits places (suc left) none =
    by_false (nat_le places left) _ [] (grind (arith, nat_tests))
