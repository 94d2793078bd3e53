-- Lists that end at places among what is kept: one more target, one more end, the list of a number.
use Rattle.std.proofs.Common.{◌≡◌, ◌∙◌, ℕ, zero, suc, ◌-◌, ◌<◌, ◌≤◌, true, List, [], ◌∷◌, ◌++◌}
use Rattle.std.proofs.Common.{length, get_or, take, drop, slice_range, refl, ap, arith}
use Rattle.std.specs.Prelude.{nat_le}
use Rattle.std.proofs.lemmas.Bool.{and_from, and_parts, le-leb, leb-true}
use Rattle.std.proofs.lemmas.List.{drop-append-le, length-drop, take-append-le, take_rest}
use Rattle.std.proofs.Math.Seq.{drop-length}
use Rattle.calculation_order.specs.KeptLinks.{cut_at, last_link_end, rise_within}

-- the last place lies between the first one and the most
pub last_within : (most from : ℕ) (ends : List ℕ) → rise_within most from ends ≡ true
    → (from ≤ last_link_end from ends) × (last_link_end from ends ≤ most)
last_within most from [] rise = let below = leb-true from most rise in (omega arith, below)
last_within most from (end ∷ ends) rise =
    let parts = and_parts (nat_le from end) (rise_within most end ends) rise in
    let first = leb-true from end parts.0 in
    let rest = last_within most end ends parts.1 in (omega arith, rest.1)

-- places stay below more
pub rise_more : (most more from : ℕ) (ends : List ℕ) → most ≤ more
    → rise_within most from ends ≡ true → rise_within more from ends ≡ true
rise_more most more from [] above rise =
    le-leb from more (let below = leb-true from most rise in omega arith)
rise_more most more from (end ∷ ends) above rise =
    let parts = and_parts (nat_le from end) (rise_within most end ends) rise in
    and_from _ _ parts.0 (rise_more most more end ends above parts.1)

-- the most is one more place
pub rise_closed : (most from : ℕ) (ends : List ℕ) → rise_within most from ends ≡ true
    → rise_within most from (ends ++ most ∷ []) ≡ true
rise_closed most from [] rise = and_from _ _ rise (le-leb most most (omega arith))
rise_closed most from (end ∷ ends) rise =
    let parts = and_parts (nat_le from end) (rise_within most end ends) rise in
    and_from _ _ parts.0 (rise_closed most end ends parts.1)

part_kept : (ts us : List ℕ) (from end : ℕ) → from ≤ end → end ≤ length ts
    → slice_range (ts ++ us) from end ≡ slice_range ts from end
part_kept ts us from end order within =
    ap (take (end - from)) (drop-append-le from ts us (omega arith))
    ∙ take-append-le (end - from) (drop from ts) us (omega (arith, length-drop from ts))

-- more behind the last place changes no list
pub cut_kept : (ts us : List ℕ) (from : ℕ) (ends : List ℕ)
    → rise_within (length ts) from ends ≡ true → cut_at (ts ++ us) from ends ≡ cut_at ts from ends
cut_kept ts us from [] rise = refl
cut_kept ts us from (end ∷ ends) rise =
    let parts = and_parts (nat_le from end) (rise_within (length ts) end ends) rise in
    let order = leb-true from end parts.0 in
    let later = last_within (length ts) end ends parts.1 in
    let own = part_kept ts us from end order (omega arith) in
    λ i. own i ∷ cut_kept ts us end ends parts.1 i

-- what stands behind the last place has more at its end
pub begun_more : (ts us : List ℕ) (from : ℕ) (ends : List ℕ)
    → rise_within (length ts) from ends ≡ true
    → drop (last_link_end from ends) (ts ++ us) ≡ drop (last_link_end from ends) ts ++ us
begun_more ts us from ends rise =
    drop-append-le (last_link_end from ends) ts us (last_within (length ts) from ends rise).1

cut_more : (ts : List ℕ) (from : ℕ) (ends : List ℕ) (end : ℕ)
    → cut_at ts from (ends ++ end ∷ [])
    ≡ cut_at ts from ends ++ slice_range ts (last_link_end from ends) end ∷ []
cut_more ts from [] end = refl
cut_more ts from (first ∷ ends) end =
    ap (λ (rest : List (List ℕ)). slice_range ts from first ∷ rest) (cut_more ts first ends end)

last_more : (from : ℕ) (ends : List ℕ) (end : ℕ) → last_link_end from (ends ++ end ∷ []) ≡ end
last_more from [] end = refl
last_more from (first ∷ ends) end = last_more first ends end

-- with an end behind all, what stood behind the last place is the last list
pub cut_closed : (ts : List ℕ) (from : ℕ) (ends : List ℕ)
    → cut_at ts from (ends ++ length ts ∷ [])
    ≡ cut_at ts from ends ++ drop (last_link_end from ends) ts ∷ []
cut_closed ts from ends =
    cut_more ts from ends (length ts)
    ∙ ap (λ (l : List ℕ). cut_at ts from ends ++ l ∷ []) (take_rest ts (last_link_end from ends))

-- and nothing stands behind it
pub begun_closed : (ts : List ℕ) (from : ℕ) (ends : List ℕ)
    → drop (last_link_end from (ends ++ length ts ∷ [])) ts ≡ []
begun_closed ts from ends =
    ap (λ (n : ℕ). drop n ts) (last_more from ends (length ts)) ∙ drop-length ts

-- there are as many lists as ends
pub length-cut_at : (ts : List ℕ) (from : ℕ) (ends : List ℕ)
    → length (cut_at ts from ends) ≡ length ends
length-cut_at ts from [] = refl
length-cut_at ts from (end ∷ ends) = ap suc (length-cut_at ts end ends)

-- the list of a number stands between the end before it and its own
pub cut_index : (ts : List ℕ) (from : ℕ) (ends : List ℕ) (v : ℕ) → v < length ends
    → get_or (cut_at ts from ends) v []
    ≡ slice_range ts (get_or (from ∷ ends) v 0) (get_or ends v 0)
cut_index ts from [] v within = absurd (omega arith)
cut_index ts from (end ∷ ends) zero within = refl
cut_index ts from (end ∷ ends) (suc v) within = cut_index ts end ends v (omega arith)

-- where it begins and ends
pub cut_bounds : (most from : ℕ) (ends : List ℕ) (v : ℕ) → v < length ends
    → rise_within most from ends ≡ true
    → (get_or (from ∷ ends) v 0 ≤ get_or ends v 0) × (get_or ends v 0 ≤ most)
cut_bounds most from [] v within rise = absurd (omega arith)
cut_bounds most from (end ∷ ends) zero within rise =
    let parts = and_parts (nat_le from end) (rise_within most end ends) rise in
    let last = last_within most end ends parts.1 in (leb-true from end parts.0, omega arith)
cut_bounds most from (end ∷ ends) (suc v) within rise =
    cut_bounds most end ends v (omega arith)
    (and_parts (nat_le from end) (rise_within most end ends) rise).1
