-- How the length of a piece changes by a step of a scan: what is left of the bytes at i, and at i +
-- 1.
use Rattle.std.proofs.Common.{◌≡◌, ℕ, zero, suc, ◌+◌, ◌-◌, ◌/◌, ◌<◌, ◌≤◌, Bool, true, false, cond}
use Rattle.std.proofs.Common.{eqb, ltb, List, [], ◌∷◌, ◌++◌, length, get_or, drop, refl, ap, ◌∙◌}
use Rattle.std.proofs.Common.{arith}
use lib.Utf8.{next, encode}
use Rattle.std.proofs.lemmas.Bool.Decides.{nat_tests}
use Rattle.std.proofs.lemmas.List.{drop_all, drop_more, drop-drop, get_or-drop, length-drop}
use Rattle.formula_shift.specs.Pieces.{string_length, quoted_length, group_length}

pub string_step : (bs : List ℕ) (i : ℕ) → i < length bs →
    string_length (drop i bs)
    ≡ cond (eqb (get_or bs i 0) 34) 1 (suc (string_length (drop (i + 1) bs)))
unfolding string_length
string_step bs i lt = ap string_length (drop_more bs i 0 lt)

quoted_cons : (b : ℕ) (bs : List ℕ) →
    quoted_length (b ∷ bs)
    ≡ cond (eqb b 39) (cond (eqb (get_or bs 0 0) 39) (suc (suc (quoted_length (drop 1 bs)))) 1)
    (suc (quoted_length bs))
unfolding quoted_length
quoted_cons b [] = grind arith
quoted_cons b (c ∷ bs) = refl

pub quoted_step : (bs : List ℕ) (i : ℕ) → i < length bs →
    quoted_length (drop i bs)
    ≡ cond (eqb (get_or bs i 0) 39)
    (cond (eqb (get_or bs (i + 1) 0) 39) (suc (suc (quoted_length (drop (i + 2) bs)))) 1)
    (suc (quoted_length (drop (i + 1) bs)))
quoted_step bs i lt =
    let next : get_or (drop (i + 1) bs) 0 0 ≡ get_or bs (i + 1) 0 = get_or-drop (i + 1) bs 0 0
    ∙ ap (λ k. get_or bs k 0) (omega arith) in
    let behind : drop 1 (drop (i + 1) bs) ≡ drop (i + 2) bs = drop-drop 1 (i + 1) bs
    ∙ ap (λ k. drop k bs) (omega arith) in
    ap quoted_length (drop_more bs i 0 lt) ∙ quoted_cons (get_or bs i 0) (drop (i + 1) bs)
    ∙ (λ t. cond (eqb (get_or bs i 0) 39)
    (cond (eqb (next t) 39) (suc (suc (quoted_length (behind t)))) 1)
    (suc (quoted_length (drop (i + 1) bs))))

group_cons : (inner b : ℕ) (bs : List ℕ) →
    group_length inner (b ∷ bs)
    ≡ cond (eqb b 39) (cond (ltb 0 (length bs)) (suc (suc (group_length inner (drop 1 bs)))) 1)
    (cond (eqb b 91) (suc (group_length (inner + 1) bs))
    (cond (eqb b 93) (cond (eqb inner 0) 1 (suc (group_length (inner - 1) bs)))
    (suc (group_length inner bs))))
unfolding group_length
group_cons zero b [] = grind arith
group_cons (suc inner) b [] = grind arith
group_cons zero b (c ∷ bs) = grind arith
group_cons (suc inner) b (c ∷ bs) = grind arith

pub group_step : (inner : ℕ) (bs : List ℕ) (i : ℕ) → i < length bs →
    group_length inner (drop i bs)
    ≡ cond (eqb (get_or bs i 0) 39)
    (cond (ltb (i + 1) (length bs)) (suc (suc (group_length inner (drop (i + 1 + 1) bs)))) 1)
    (cond (eqb (get_or bs i 0) 91) (suc (group_length (inner + 1) (drop (i + 1) bs)))
    (cond (eqb (get_or bs i 0) 93)
    (cond (eqb inner 0) 1 (suc (group_length (inner - 1) (drop (i + 1) bs))))
    (suc (group_length inner (drop (i + 1) bs)))))
group_step inner bs i lt =
    let more : ltb 0 (length (drop (i + 1) bs)) ≡ ltb (i + 1) (length bs) =
    grind (arith, nat_tests, length-drop (i + 1) bs) in
    let behind : drop 1 (drop (i + 1) bs) ≡ drop (i + 1 + 1) bs = drop-drop 1 (i + 1) bs
    ∙ ap (λ k. drop k bs) (omega arith) in
    ap (group_length inner) (drop_more bs i 0 lt)
    ∙ group_cons inner (get_or bs i 0) (drop (i + 1) bs)
    ∙ (λ t. cond (eqb (get_or bs i 0) 39)
    (cond (more t) (suc (suc (group_length inner (behind t)))) 1)
    (cond (eqb (get_or bs i 0) 91) (suc (group_length (inner + 1) (drop (i + 1) bs)))
    (cond (eqb (get_or bs i 0) 93)
    (cond (eqb inner 0) 1 (suc (group_length (inner - 1) (drop (i + 1) bs))))
    (suc (group_length inner (drop (i + 1) bs))))))

-- the same past the end
pub string_length-nil : string_length [] ≡ 0
unfolding string_length
string_length-nil = refl

pub quoted_length-nil : quoted_length [] ≡ 0
unfolding quoted_length
quoted_length-nil = refl

pub group_length-nil : (inner : ℕ) → group_length inner [] ≡ 0
unfolding group_length
group_length-nil inner = refl

pub ruleset string_steps = (nat_tests, string_step, string_length-nil, drop_all)

pub ruleset quoted_steps = (nat_tests, quoted_step, quoted_length-nil, drop_all)

pub ruleset group_steps = (nat_tests, group_step, group_length-nil, drop_all)

-- ---- characters in a Group

plain_step : (inner b : ℕ) (bs : List ℕ) → 128 ≤ b →
    group_length inner (b ∷ bs) ≡ suc (group_length inner bs)
plain_step inner b bs high = group_cons inner b bs ∙ by_tests where
  by_tests : cond (eqb b 39)
      (cond (ltb 0 (length bs)) (suc (suc (group_length inner (drop 1 bs)))) 1)
      (cond (eqb b 91) (suc (group_length (inner + 1) bs))
      (cond (eqb b 93) (cond (eqb inner 0) 1 (suc (group_length (inner - 1) bs)))
      (suc (group_length inner bs)))) ≡ suc (group_length inner bs)
  by_tests = grind (arith, nat_tests)

-- what follows an apostrophe and the first byte of a character
taken : (inner x : ℕ) (bs : List ℕ) →
    group_length inner (39 ∷ x ∷ bs) ≡ suc (suc (group_length inner bs))
unfolding group_length
taken zero x bs = refl
taken (suc inner) x bs = refl

abbrev AllHigh : List ℕ → Type 0
AllHigh [] = Unit {0}
AllHigh (y ∷ ys) = (128 ≤ y) × AllHigh ys

plain_all : (inner : ℕ) (ys rest : List ℕ) → AllHigh ys →
    group_length inner (ys ++ rest) ≡ length ys + group_length inner rest
plain_all inner [] rest high = omega arith
plain_all inner (y ∷ ys) rest high = plain_step inner y (ys ++ rest) high.0
    ∙ omega (arith, plain_all inner ys rest high.1)

-- an apostrophe takes the whole character behind it
pub group_length-apostrophe : (c inner : ℕ) (rest : List ℕ) →
    group_length inner (39 ∷ (encode c ++ rest)) ≡ suc (length (encode c) + group_length inner rest)
unfolding encode
group_length-apostrophe c inner rest = by_size (ltb c 128) (ltb c 2048) (ltb c 65536) where
  takes : (x : ℕ) (ys : List ℕ) → AllHigh ys →
      group_length inner (39 ∷ ((x ∷ ys) ++ rest)) ≡ suc (length (x ∷ ys) + group_length inner rest)
  takes x ys high = taken inner x (ys ++ rest) ∙ omega (arith, plain_all inner ys rest high)

  by_size : (one two three : Bool) →
      let t = cond one (c ∷ [])
      (cond two ((192 + c / 64) ∷ next c ∷ [])
      (cond three ((224 + c / 4096) ∷ next (c / 64) ∷ next c ∷ [])
      ((240 + c / 262144) ∷ next (c / 4096) ∷ next (c / 64) ∷ next c ∷ []))) in
      group_length inner (39 ∷ (t ++ rest)) ≡ suc (length t + group_length inner rest)
  by_size true two three = takes c [] tt
  by_size false true three = takes (192 + c / 64) (next c ∷ []) (omega arith, tt)
  by_size false false true =
      takes (224 + c / 4096) (next (c / 64) ∷ next c ∷ []) (omega arith, (omega arith, tt))
  by_size false false false =
      takes (240 + c / 262144) (next (c / 4096) ∷ next (c / 64) ∷ next c ∷ [])
      (omega arith, (omega arith, (omega arith, tt)))
