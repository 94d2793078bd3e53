-- Comparisons of what is computed, and of what is said of it, hold exactly of the same.
use Rattle.std.proofs.Common.{◌≡◌, true, refl, ap, subst}
use Rattle.std.specs.Cmp.{booleans_Decides}
use Rattle.equalities.specs.Equality.{IsEquality}
use Rattle.equalities.proofs.Equality.{unequal}
use Rattle.decimals.proofs.Equality.{of_decimal}
use Rattle.xlsx_check.specs.contracts.outcome.ComputedPartialEq.TheImpl as computed
use Rattle.xlsx_check.specs.contracts.outcome.OutcomePartialEq.TheImpl as outcome
use Rattle.xlsx_check.specs.contracts.outcome.VerdictPartialEq.TheImpl as verdict
use Rattle.xlsx_check.specs.declared.outcome.Computed.{Computed}
use Rattle.xlsx_check.specs.declared.outcome.Computed.TheVariants.{Number, Truth}
use Rattle.xlsx_check.specs.declared.outcome.Outcome.{Outcome}
use Rattle.xlsx_check.specs.declared.outcome.Outcome.TheVariants as come
use Rattle.xlsx_check.specs.declared.outcome.Verdict.{Verdict}
use Rattle.xlsx_check.specs.declared.outcome.Verdict.TheVariants as said

computed_from : (a b : Computed) → computed.ghosts.eq a b ≡ true → a ≡ b
computed_from (Number d) (Number e) same = ap Number ((of_decimal d e).0 same)
computed_from (Truth b) (Truth c) same = ap Truth ((booleans_Decides b c).0 same)
computed_from _ _ same = absurd (unequal same)

computed_same : (a : Computed) → computed.ghosts.eq a a ≡ true
computed_same (Number d) = (of_decimal d d).1 refl
computed_same (Truth b) = (booleans_Decides b b).1 refl

computed_to : (a b : Computed) → a ≡ b → computed.ghosts.eq a b ≡ true
computed_to a b same =
    subst (λ (c : Computed). computed.ghosts.eq a c ≡ true) same (computed_same a)

pub of_computed : IsEquality computed.ghosts.eq
of_computed a b = (computed_from a b, computed_to a b)

outcome_from : (a b : Outcome) → outcome.ghosts.eq a b ≡ true → a ≡ b
outcome_from (come.Value d) (come.Value e) same = ap come.Value ((of_computed d e).0 same)
outcome_from come.Unsupported come.Unsupported same = refl
outcome_from come.Overflow come.Overflow same = refl
outcome_from _ _ same = absurd (unequal same)

outcome_same : (a : Outcome) → outcome.ghosts.eq a a ≡ true
outcome_same (come.Value d) = (of_computed d d).1 refl
outcome_same come.Unsupported = refl
outcome_same come.Overflow = refl

outcome_to : (a b : Outcome) → a ≡ b → outcome.ghosts.eq a b ≡ true
outcome_to a b same = subst (λ (c : Outcome). outcome.ghosts.eq a c ≡ true) same (outcome_same a)

pub of_outcome : IsEquality outcome.ghosts.eq
of_outcome a b = (outcome_from a b, outcome_to a b)

verdict_from : (a b : Verdict) → verdict.ghosts.eq a b ≡ true → a ≡ b
verdict_from said.Agrees said.Agrees same = refl
verdict_from (said.Differs d) (said.Differs e) same = ap said.Differs ((of_computed d e).0 same)
verdict_from said.NoValue said.NoValue same = refl
verdict_from said.Unsupported said.Unsupported same = refl
verdict_from said.Overflow said.Overflow same = refl
verdict_from _ _ same = absurd (unequal same)

verdict_same : (a : Verdict) → verdict.ghosts.eq a a ≡ true
verdict_same said.Agrees = refl
verdict_same (said.Differs d) = (of_computed d d).1 refl
verdict_same said.NoValue = refl
verdict_same said.Unsupported = refl
verdict_same said.Overflow = refl

verdict_to : (a b : Verdict) → a ≡ b → verdict.ghosts.eq a b ≡ true
verdict_to a b same = subst (λ (c : Verdict). verdict.ghosts.eq a c ≡ true) same (verdict_same a)

pub of_verdict : IsEquality verdict.ghosts.eq
of_verdict a b = (verdict_from a b, verdict_to a b)
