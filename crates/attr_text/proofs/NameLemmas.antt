-- The local name of a name, by where its last colon stands.
use Rattle.std.proofs.Common.{◌≡◌, ℕ, ◌+◌, ◌-◌, ◌<◌, Bool, true, false, not, List, length, drop}
use Rattle.std.proofs.Common.{get_or, sym, ap, ◌∙◌, arith, ne_eqb}
use Rattle.std.specs.Prelude.{◌==◌}
use Rattle.std.specs.List.{suffix_len}
use Rattle.std.proofs.lemmas.List.Sums.{suffix_len_is}
use Rattle.attr_text.specs.Attributes.{local_name_of}

-- the byte is no colon
abbrev is_other : ℕ → Bool
is_other b = not (b == 58)

other : (b : ℕ) → (b ≡ 58 → ⊥) → is_other b ≡ true
other b ne = ap not (ne_eqb b 58 ne)

colon : (b : ℕ) → b ≡ 58 → is_other b ≡ false
colon b e = ap is_other e

-- a name with no colon
pub local_name_of-none : (name : List ℕ) → ((i : ℕ) → i < length name → get_or name i 0 ≡ 58 → ⊥) →
    name ≡ local_name_of name
local_name_of-none name none =
    let len : suffix_len is_other name ≡ length name - 0 =
    suffix_len_is is_other name 0 0 (omega arith) (λ k _ h. other _ (none k h))
    (λ h. absurd (omega arith)) in
    let start : length name - suffix_len is_other name ≡ 0 = omega arith in
    ap (λ n. drop n name) (sym start)

-- the last colon stands at k
pub local_name_of-last : (name : List ℕ) (k : ℕ) → k < length name → get_or name k 0 ≡ 58
    → ((i : ℕ) → k < i → i < length name → get_or name i 0 ≡ 58 → ⊥) →
    drop (k + 1) name ≡ local_name_of name
local_name_of-last name k within at later =
    let len : suffix_len is_other name ≡ length name - (k + 1) =
    suffix_len_is is_other name (k + 1) 0 (omega arith)
    (λ i from h. other _ (later i (omega arith) h))
    (λ _. colon _ (ap (λ i. get_or name i 0) (omega arith) ∙ at)) in
    let start : length name - suffix_len is_other name ≡ k + 1 = omega arith in
    ap (λ n. drop n name) (sym start)
