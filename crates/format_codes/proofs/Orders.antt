-- How numbers stand to each other, by their signs and their sizes.
use Rattle.std.proofs.Common.{◌≡◌, ◌<◌, ◌*◌, ◌^◌, Bool, true, false, rules, ℕ, suc, arith, sym, ◌∙◌}
use Rattle.std.proofs.Common.{ap, ℤ, pos, negsuc, ◌*ℤ◌, ◌-ℤ◌, nat_abs}
use Rattle.std.proofs.Math.Nat.{one-le-pow}
use Rattle.std.specs.Int.{is_negative}
use Rattle.std.specs.Ordering.{nat_cmp, int_cmp, ordering_reverse}
use Rattle.std.specs.declared.cmp.Ordering.{Ordering}
use Rattle.std.specs.declared.cmp.Ordering.TheVariants.{Less, Greater}
use Rattle.format_codes.specs.Conditions.{number_cmp, positive_part, signed_cmp}

-- two sizes in the other order
pub reversed : (a b : ℕ) → ordering_reverse (nat_cmp a b) ≡ nat_cmp b a
reversed a b = grind arith

-- a number below 0 lies below one that isn't
below_cmp : (a b m n : ℕ) → 0 < m → int_cmp (negsuc a *ℤ pos m) (pos b *ℤ pos n) ≡ Less
below_cmp a b m n some = grind arith

-- and the other way round
above_cmp : (a b m n : ℕ) → 0 < n → int_cmp (pos a *ℤ pos m) (negsuc b *ℤ pos n) ≡ Greater
above_cmp a b m n some = grind arith

-- two numbers that aren't below 0 stand as their sizes
sizes_cmp : (a b m n : ℕ) → int_cmp (pos a *ℤ pos m) (pos b *ℤ pos n) ≡ nat_cmp (a * m) (b * n)
sizes_cmp a b m n = grind arith

-- a power of ten is above 0
some_ten : (n : ℕ) → 0 < 10 ^ n
some_ten n = grind (arith, one-le-pow n 10)

-- a number below 0 and one that isn't
pub number_below : (x y : ℤ × ℤ) → is_negative x.0 ≡ true → is_negative y.0 ≡ false →
    number_cmp x y ≡ Less
number_below (pos a, p) (y, q) below other = absurd (search rules)
number_below (negsuc a, p) (negsuc b, q) below other = absurd (search rules)
number_below (negsuc a, p) (pos b, q) below other =
    below_cmp a b _ _ (some_ten (positive_part (p -ℤ q)))

-- a number that isn't below 0 and one that is
pub number_above : (x y : ℤ × ℤ) → is_negative x.0 ≡ false → is_negative y.0 ≡ true →
    number_cmp x y ≡ Greater
number_above (negsuc a, p) (y, q) other below = absurd (search rules)
number_above (pos a, p) (pos b, q) other below = absurd (search rules)
number_above (pos a, p) (negsuc b, q) other below =
    above_cmp a b _ _ (some_ten (positive_part (q -ℤ p)))

-- two numbers that aren't below 0, by their sizes
pub by_size : (x y : ℤ × ℤ) (a b : ℕ) (order : Ordering) → is_negative x.0 ≡ false →
    is_negative y.0 ≡ false → a ≡ nat_abs x.0 → b ≡ nat_abs y.0 →
    order ≡ nat_cmp (a * 10 ^ positive_part (x.1 -ℤ y.1)) (b * 10 ^ positive_part (y.1 -ℤ x.1)) →
    order ≡ number_cmp x y
by_size (negsuc n, p) (y, q) a b order first second size other told = absurd (search rules)
by_size (pos n, p) (negsuc m, q) a b order first second size other told = absurd (search rules)
by_size (pos n, p) (pos m, q) a b order first second size other told =
    told
    ∙ (ap (λ k. nat_cmp (k * 10 ^ positive_part (p -ℤ q)) (b * 10 ^ positive_part (q -ℤ p))) size
    ∙ (ap (λ k. nat_cmp (n * 10 ^ positive_part (p -ℤ q)) (k * 10 ^ positive_part (q -ℤ p))) other
    ∙ sym (sizes_cmp n m _ _)))

-- the sizes of two numbers below 0
opposite_cmp : (a b m n : ℕ) →
    int_cmp (negsuc a *ℤ pos m) (negsuc b *ℤ pos n)
    ≡ ordering_reverse (nat_cmp (suc a * m) (suc b * n))
opposite_cmp a b m n = grind arith

-- two numbers below 0, by their sizes
pub both_below : (x y : ℤ × ℤ) (a b : ℕ) (order : Ordering) → is_negative x.0 ≡ true →
    is_negative y.0 ≡ true → a ≡ nat_abs x.0 → b ≡ nat_abs y.0 →
    order ≡ nat_cmp (a * 10 ^ positive_part (x.1 -ℤ y.1)) (b * 10 ^ positive_part (y.1 -ℤ x.1)) →
    ordering_reverse order ≡ number_cmp x y
both_below (pos n, p) (y, q) a b order first second size other told = absurd (search rules)
both_below (negsuc n, p) (pos m, q) a b order first second size other told = absurd (search rules)
both_below (negsuc n, p) (negsuc m, q) a b order first second size other told =
    ap ordering_reverse
    (told
    ∙ (ap (λ k. nat_cmp (k * 10 ^ positive_part (p -ℤ q)) (b * 10 ^ positive_part (q -ℤ p))) size
    ∙ ap (λ k. nat_cmp (suc n * 10 ^ positive_part (p -ℤ q)) (k * 10 ^ positive_part (q -ℤ p)))
    other))
    ∙ sym (opposite_cmp n m _ _)

-- two numbers by their signs and their sizes
pub by_signs : (x y : ℤ × ℤ) (below other_below : Bool) (a b : ℕ) (order result : Ordering) →
    below ≡ is_negative x.0 → other_below ≡ is_negative y.0 → a ≡ nat_abs x.0 → b ≡ nat_abs y.0 →
    order ≡ nat_cmp (a * 10 ^ positive_part (x.1 -ℤ y.1)) (b * 10 ^ positive_part (y.1 -ℤ x.1)) →
    result ≡ signed_cmp below other_below order → result ≡ number_cmp x y
by_signs x y true true a b order result first second size other told ends =
    ends ∙ both_below x y a b order (sym first) (sym second) size other told
by_signs x y true false a b order result first second size other told ends =
    ends ∙ sym (number_below x y (sym first) (sym second))
by_signs x y false true a b order result first second size other told ends =
    ends ∙ sym (number_above x y (sym first) (sym second))
by_signs x y false false a b order result first second size other told ends =
    ends ∙ by_size x y a b order (sym first) (sym second) size other told
