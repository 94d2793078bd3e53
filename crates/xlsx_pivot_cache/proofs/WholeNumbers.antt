-- What whole numbers texts write.
use Rattle.std.proofs.Common.{◌≡◌, ◌≢◌, ℕ, ◌+◌, ◌^◌, List, [], ◌∷◌, refl, ap, ne_eqb}
use Rattle.std.specs.Prelude.{pos, neg_ℤ, option_map}
use Rattle.xlsx_sections.specs.Words.{number_below}
use Rattle.xlsx_pivot_cache.specs.CacheItems.{whole_number}

-- one with a minus
pub whole_below : (text digits : List ℕ) → text ≡ 45 ∷ digits
    → option_map (λ n. neg_ℤ (pos n)) (number_below (2 ^ 63 + 1) digits) ≡ whole_number text
whole_below text digits is = rw is refl

-- one without
pub whole_above : (text : List ℕ) → ((rest : List ℕ) → text ≢ 45 ∷ rest)
    → option_map (λ n. pos n) (number_below (2 ^ 63) text) ≡ whole_number text
whole_above [] other = refl
whole_above (byte ∷ bytes) other =
    rw (ne_eqb byte 45 (λ same. other bytes (ap (λ b. b ∷ bytes) same))) refl
