-- A comparison of decimals holds exactly of those that are the same.
use Rattle.std.proofs.Common.{◌≡◌, ap, subst, ℤ, pos, rules}
use Rattle.std.proofs.Props.{props}
use Rattle.std.specs.Ordering.{int_eq}
use Rattle.decimals.specs.Canonical.{IsTrimmed}
use Rattle.decimals.specs.Decimal.{number_of}
use Rattle.equalities.specs.Equality.{IsEquality}
use Rattle.equalities.proofs.Equality.{of_pairs}
use Rattle.decimals.specs.contracts.decimal.DecimalPartialEq.TheImpl as decimal
use Rattle.decimals.specs.declared.decimal.Decimal.{Decimal}

-- the facts that a decimal keeps
abbrev IsDecimal : ℤ × ℤ → Type 0
IsDecimal parts = (parts.0 ≡ pos 0 → parts.1 ≡ pos 0) × IsTrimmed parts.0

abbrev decimal_with : (parts : ℤ × ℤ) → IsDecimal parts → Decimal
decimal_with parts facts =
    record { mantissa = parts.0; exponent = parts.1; zero = facts.0; trimmed = facts.1 }

-- decimals of one number are the same
pub same_decimal : (a b : Decimal) → number_of a ≡ number_of b → a ≡ b
same_decimal a b e =
    let whole : (parts : ℤ × ℤ) → IsProp (IsDecimal parts) = hlevel props in
    subst (λ parts. (facts : IsDecimal parts) → a ≡ decimal_with parts facts) e
    (λ facts. ap (decimal_with (number_of a)) (whole (number_of a) (a.zero, a.trimmed) facts)) (
      b.zero,
      b.trimmed,
    )

of_whole : IsEquality int_eq
of_whole a b = search rules

pub of_decimal : IsEquality decimal.ghosts.eq
of_decimal a b =
    let parts = of_pairs of_whole of_whole (number_of a) (number_of b) in
    (λ h. same_decimal a b (parts.0 h), λ h. parts.1 (ap number_of h))
