-- What is nearest to a fraction is one number.
use Rattle.std.proofs.Common.{◌≡◌, ◌*◌, ℕ, sym, arith}
use Rattle.std.proofs.Math.Nat.{div-eq_of_lt-le}
use Rattle.xlsx_styles.specs.Colors.{nearest_upward}
use Rattle.xlsx_styles.specs.Tint.{Fraction, IsNearest}

pub nearest_is : (n : ℕ) (fraction : Fraction) → IsNearest n fraction → n ≡ nearest_upward fraction
nearest_is n fraction near =
    sym (div-eq_of_lt-le (2 * fraction.divisor) near.low (omega (arith, near.high)))
