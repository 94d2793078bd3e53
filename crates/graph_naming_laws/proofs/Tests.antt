-- Tests that others tell.
use Rattle.std.proofs.Common.{◌≡◌, ◌+◌, ◌&&◌, ◌||◌, ℕ, suc, Bool, true, false, eqb, not, refl, sym}
use Rattle.std.proofs.Common.{ap, arith}
use Rattle.std.proofs.lemmas.Bool.Decides.{nat_tests}

pub neither : (a b : Bool) → (a || b) ≡ false → (a ≡ false) × (b ≡ false)
neither true b e = let never : true ≡ false = e in absurd (cc)
neither false b e = (refl, e)

pub not_true : (t : Bool) → not t ≡ true → t ≡ false
not_true true e = sym e
not_true false e = refl

pub not_both : (a b : Bool) → a ≡ false → (a && b) ≡ false
not_both a b e = ap (λ t. t && b) e

pub not_last : (a b : Bool) → b ≡ false → (a && b) ≡ false
not_last true b e = e
not_last false b e = refl

pub is_it : (b c : ℕ) → eqb b c ≡ true → b ≡ c
is_it b c is = grind (arith, nat_tests)

pub one_more : (n : ℕ) → 1 + n ≡ suc n
one_more n = omega arith
