-- A text in which an apostrophe keeps the byte behind it, cut at its first apostrophe.
use Rattle.std.proofs.Common.{◌≡◌, ℕ, zero, suc, ◌+◌, ◌<◌, List, [], ◌∷◌, ◌++◌, length, take, drop}
use Rattle.std.proofs.Common.{refl, sym, ap, ◌∙◌, arith, Bool, true, false, cond, ◌==◌, not}
use Rattle.std.proofs.Common.{add-one, ◌≢◌, append_assoc, append-nil}
use Rattle.std.specs.List.{position_or_len, before_first, after_first}
use Rattle.std.proofs.lemmas.Bool.{eqb-true}
use Rattle.formula_tokens.specs.Items.{kept_bytes}
use Rattle.xlsx_graph.specs.Told.{is_apostrophe}

kept_other : (b c : ℕ) (bs : List ℕ) → (b == 39) ≡ false →
    kept_bytes (b ∷ c ∷ bs) ≡ b ∷ kept_bytes (c ∷ bs)
unfolding kept_bytes
kept_other b c bs e = ap (λ t. cond t (c ∷ kept_bytes bs) (b ∷ kept_bytes (c ∷ bs))) e

kept_apostrophe : (b : ℕ) (bs : List ℕ) → (b == 39) ≡ true →
    kept_bytes (b ∷ bs) ≡ kept_bytes (39 ∷ bs)
kept_apostrophe b bs e = ap (λ a. kept_bytes (a ∷ bs)) (eqb-true b 39 e)

place_here : (b : ℕ) (bs : List ℕ) → (b == 39) ≡ true →
    position_or_len is_apostrophe (b ∷ bs) ≡ 0
place_here b bs e =
    ap (λ t. cond (not t) (1 + position_or_len is_apostrophe bs) 0) e

place_behind : (b : ℕ) (bs : List ℕ) → (b == 39) ≡ false →
    position_or_len is_apostrophe (b ∷ bs) ≡ 1 + position_or_len is_apostrophe bs
place_behind b bs e =
    ap (λ t. cond (not t) (1 + position_or_len is_apostrophe bs) 0) e

kept_none : kept_bytes [] ≡ []
unfolding kept_bytes
kept_none = refl

kept_one : (b : ℕ) → kept_bytes (b ∷ []) ≡ b ∷ []
unfolding kept_bytes
kept_one b = refl

-- the apostrophe is the first byte
first_is : (b : ℕ) (bs : List ℕ) (t : Bool) → (b == 39) ≡ t →
    position_or_len is_apostrophe (b ∷ bs) ≡ 0 →
    kept_bytes (b ∷ bs) ≡ kept_bytes (39 ∷ bs)
first_is b bs true e place = kept_apostrophe b bs e
first_is b bs false e place = absurd (omega (arith, place_behind b bs e, place))

-- the apostrophe is a later byte
not_here : (b : ℕ) (bs : List ℕ) (n : ℕ) (t : Bool) → (b == 39) ≡ t →
    position_or_len is_apostrophe (b ∷ bs) ≡ suc n → (b == 39) ≡ false
not_here b bs n true e place = absurd (omega (arith, place_here b bs e, place))
not_here b bs n false e place = e

-- the first apostrophe stands at a place
around_place : (s : List ℕ) (n : ℕ) → position_or_len is_apostrophe s ≡ n → n < length s →
    kept_bytes s ≡ take n s ++ kept_bytes (39 ∷ drop (suc n) s)
around_place [] n e lt = absurd (omega (arith, lt))
around_place (b ∷ bs) zero e lt =
    first_is b bs (b == 39) refl e
around_place (b ∷ []) (suc n) e lt = absurd (omega (arith, lt))
around_place (b ∷ c ∷ bs) (suc n) e lt =
    let other = not_here b (c ∷ bs) n (b == 39) refl e in
    let behind : position_or_len is_apostrophe (c ∷ bs) ≡ n =
    omega (arith, place_behind b (c ∷ bs) other, e) in
    kept_other b c bs other
    ∙ ap (λ xs. b ∷ xs) (around_place (c ∷ bs) n behind (omega (arith, lt)))

-- what stands before an apostrophe is kept, and then what the apostrophe begins
pub kept_around : (s : List ℕ) → position_or_len is_apostrophe s < length s →
    kept_bytes s ≡ before_first is_apostrophe s ++ kept_bytes (39 ∷ after_first is_apostrophe s)
kept_around s lt =
    around_place s (position_or_len is_apostrophe s) refl lt
    ∙ ap (λ n. before_first is_apostrophe s ++ kept_bytes (39 ∷ drop n s))
    (sym (add-one (position_or_len is_apostrophe s)))

-- a text without apostrophes is kept as it is
pub kept_whole : (s : List ℕ) → position_or_len is_apostrophe s ≡ length s → kept_bytes s ≡ s
kept_whole [] e = kept_none
kept_whole (b ∷ []) e = kept_one b
kept_whole (b ∷ c ∷ bs) e =
    let other = not_here b (c ∷ bs) (length (c ∷ bs)) (b == 39) refl e in
    kept_other b c bs other
    ∙ ap (λ xs. b ∷ xs)
    (kept_whole (c ∷ bs) (omega (arith, place_behind b (c ∷ bs) other, e)))

-- a doubled apostrophe is one
pub kept_double : (bs : List ℕ) → kept_bytes (39 ∷ 39 ∷ bs) ≡ 39 ∷ kept_bytes bs
unfolding kept_bytes
kept_double bs = refl

-- an apostrophe at the end stays
pub kept_last : kept_bytes (39 ∷ []) ≡ 39 ∷ []
unfolding kept_bytes
kept_last = refl

-- an apostrophe before another byte goes
pub kept_single : (c : ℕ) (bs : List ℕ) → (c == 39) ≡ false →
    kept_bytes (39 ∷ c ∷ bs) ≡ kept_bytes (c ∷ bs)
unfolding kept_bytes
kept_single c [] e = refl
kept_single c (b ∷ bs) e = sym (kept_other c b bs e)

-- the apostrophe is doubled
pub split_double : (s before behind rest : List ℕ) →
    position_or_len is_apostrophe s < length s → before ≡ before_first is_apostrophe s →
    behind ≡ after_first is_apostrophe s → behind ≡ 39 ∷ rest →
    kept_bytes s ≡ (before ++ 39 ∷ []) ++ kept_bytes rest
split_double s before behind rest lt front back e =
    kept_around s lt
    ∙ ap (λ bytes. before_first is_apostrophe s ++ kept_bytes (39 ∷ bytes)) (sym back ∙ e)
    ∙ ap (λ bytes. before_first is_apostrophe s ++ bytes) (kept_double rest)
    ∙ ap (λ own. own ++ (39 ∷ kept_bytes rest)) (sym front)
    ∙ sym (append_assoc before (39 ∷ []) (kept_bytes rest))

-- the apostrophe stands at the end
pub split_last : (s before behind : List ℕ) →
    position_or_len is_apostrophe s < length s → before ≡ before_first is_apostrophe s →
    behind ≡ after_first is_apostrophe s → length behind ≡ 0 →
    kept_bytes s ≡ (before ++ 39 ∷ []) ++ kept_bytes behind
split_last s before (b ∷ bs) lt front back e = absurd (omega (arith, e))
split_last s before [] lt front back e =
    kept_around s lt
    ∙ ap (λ bytes. before_first is_apostrophe s ++ kept_bytes (39 ∷ bytes)) (sym back)
    ∙ ap (λ bytes. before_first is_apostrophe s ++ bytes) kept_last
    ∙ ap (λ own. own ++ (39 ∷ [])) (sym front)
    ∙ sym (ap (λ bytes. (before ++ 39 ∷ []) ++ bytes) kept_none ∙ append-nil (before ++ 39 ∷ []))

other_byte : (b : ℕ) (bs : List ℕ) (t : Bool) → (b == 39) ≡ t →
    ((rest : List ℕ) → b ∷ bs ≢ 39 ∷ rest) → (b == 39) ≡ false
other_byte b bs true e differs = absurd (differs bs (ap (λ c. c ∷ bs) (eqb-true b 39 e)))
other_byte b bs false e differs = e

-- the apostrophe stands before another byte
pub split_single : (s before behind : List ℕ) →
    position_or_len is_apostrophe s < length s → before ≡ before_first is_apostrophe s →
    behind ≡ after_first is_apostrophe s → (length behind ≡ 0 → ⊥) →
    ((rest : List ℕ) → behind ≢ 39 ∷ rest) →
    kept_bytes s ≡ (before ++ []) ++ kept_bytes behind
split_single s before [] lt front back some differs = absurd (some refl)
split_single s before (b ∷ bs) lt front back some differs =
    kept_around s lt
    ∙ ap (λ bytes. before_first is_apostrophe s ++ kept_bytes (39 ∷ bytes)) (sym back)
    ∙ ap (λ bytes. before_first is_apostrophe s ++ bytes)
    (kept_single b bs (other_byte b bs (b == 39) refl differs))
    ∙ ap (λ own. own ++ kept_bytes (b ∷ bs)) (sym front ∙ sym (append-nil before))
