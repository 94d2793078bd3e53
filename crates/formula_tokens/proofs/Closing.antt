-- Where texts in apostrophes and groups in brackets end: a step of a scan.
use Rattle.std.proofs.Common.{◌≡◌, ℕ, zero, suc, ◌+◌, ◌-◌, ◌<◌, Bool, true, false, cond, eqb, ltb}
use Rattle.std.proofs.Common.{List, [], ◌∷◌, length, get_or, drop, refl, ap, ◌∙◌, sym, arith}
use Rattle.std.specs.Prelude.{Option, None, Some, option_map}
use Rattle.std.proofs.lemmas.Bool.Decides.{nat_tests}
use Rattle.std.proofs.lemmas.List.{drop_all, drop_more, drop-drop, get_or-drop, length-drop}
use Rattle.formula_tokens.specs.Tokens.{quotes_end, brackets_end}

-- a place that is told from so many bytes on
unfoldable pub beyond : ℕ → Option ℕ → Option ℕ
beyond n place = option_map (λ k. k + n) place

pub beyond_none : (n : ℕ) → beyond n None ≡ None
unfolding beyond
beyond_none n = refl

pub beyond_here : (n : ℕ) → beyond n (Some 0) ≡ Some n
unfolding beyond
beyond_here n = ap Some (omega arith)

pub beyond_first : (place : Option ℕ) → beyond 0 place ≡ place
unfolding beyond
beyond_first None = refl
beyond_first (Some k) = ap Some (omega arith)

pub beyond_twice : (m n : ℕ) (place : Option ℕ) → beyond m (beyond n place) ≡ beyond (m + n) place
unfolding beyond
beyond_twice m n None = refl
beyond_twice m n (Some k) = ap Some (omega arith)

quotes_cons : (b : ℕ) (bs : List ℕ) →
    quotes_end (b ∷ bs)
    ≡ cond (eqb b 39) (cond (eqb (get_or bs 0 0) 39) (beyond 2 (quotes_end (drop 1 bs))) (Some 0))
    (beyond 1 (quotes_end bs))
unfolding quotes_end beyond
quotes_cons b [] = refl
quotes_cons b (c ∷ bs) = refl

pub quotes_step : (bs : List ℕ) (i : ℕ) → i < length bs →
    beyond i (quotes_end (drop i bs))
    ≡ cond (eqb (get_or bs i 0) 39)
    (cond (eqb (get_or bs (i + 1) 0) 39) (beyond (i + 2) (quotes_end (drop (i + 2) bs))) (Some i))
    (beyond (i + 1) (quotes_end (drop (i + 1) bs)))
quotes_step bs i lt =
    let next : get_or (drop (i + 1) bs) 0 0 ≡ get_or bs (i + 1) 0 = get_or-drop (i + 1) bs 0 0
    ∙ ap (λ k. get_or bs k 0) (omega arith) in
    let behind : drop 1 (drop (i + 1) bs) ≡ drop (i + 2) bs = drop-drop 1 (i + 1) bs
    ∙ ap (λ k. drop k bs) (omega arith) in
    ap (λ t. beyond i (quotes_end t)) (drop_more bs i 0 lt)
    ∙ ap (beyond i) (quotes_cons (get_or bs i 0) (drop (i + 1) bs))
    ∙ by_tests (eqb (get_or bs i 0) 39) (eqb (get_or (drop (i + 1) bs) 0 0) 39)
    (drop 1 (drop (i + 1) bs))
    ∙ (λ t. cond (eqb (get_or bs i 0) 39)
    (cond (eqb (next t) 39) (beyond (i + 2) (quotes_end (behind t))) (Some i))
    (beyond (i + 1) (quotes_end (drop (i + 1) bs)))) where
      by_tests : (first second : Bool) (rest : List ℕ) →
          beyond i (cond first (cond second (beyond 2 (quotes_end rest)) (Some 0))
          (beyond 1 (quotes_end (drop (i + 1) bs))))
          ≡ cond first (cond second (beyond (i + 2) (quotes_end rest)) (Some i))
          (beyond (i + 1) (quotes_end (drop (i + 1) bs)))
      by_tests true true rest = beyond_twice i 2 (quotes_end rest)
      by_tests true false rest = beyond_here i
      by_tests false second rest = beyond_twice i 1 (quotes_end (drop (i + 1) bs))

is_some_behind : (c : ℕ) (bs : List ℕ) → ltb 0 (length (c ∷ bs)) ≡ true
is_some_behind c bs = grind (arith, nat_tests)

brackets_cons : (inside b : ℕ) (bs : List ℕ) →
    brackets_end inside (b ∷ bs)
    ≡ cond (eqb b 39) (cond (ltb 0 (length bs)) (beyond 2 (brackets_end inside (drop 1 bs))) None)
    (cond (eqb b 93) (cond (eqb inside 0) (Some 0) (beyond 1 (brackets_end (inside - 1) bs)))
    (cond (eqb b 91) (beyond 1 (brackets_end (inside + 1) bs))
    (beyond 1 (brackets_end inside bs))))
unfolding brackets_end beyond
brackets_cons zero b [] = grind arith
brackets_cons (suc inside) b [] = grind arith
brackets_cons zero b (c ∷ bs) =
    ap (λ some. cond (eqb b 39) (cond some (beyond 2 (brackets_end 0 bs)) None)
    (cond (eqb b 93) (Some 0) (cond (eqb b 91) (beyond 1 (brackets_end 1 (c ∷ bs)))
    (beyond 1 (brackets_end 0 (c ∷ bs)))))) (sym (is_some_behind c bs))
brackets_cons (suc inside) b (c ∷ bs) =
    let less : inside ≡ suc inside - 1 = omega arith in
    let more : suc (suc inside) ≡ suc inside + 1 = omega arith in
    let none : false ≡ eqb (suc inside) 0 = grind (arith, nat_tests) in
    λ t. cond (eqb b 39)
    (cond (sym (is_some_behind c bs) t) (beyond 2 (brackets_end (suc inside) bs)) None)
    (cond (eqb b 93)
    (cond (none t) (Some 0) (beyond 1 (brackets_end (less t) (c ∷ bs))))
    (cond (eqb b 91) (beyond 1 (brackets_end (more t) (c ∷ bs)))
    (beyond 1 (brackets_end (suc inside) (c ∷ bs)))))

pub brackets_step : (inside : ℕ) (bs : List ℕ) (i : ℕ) → i < length bs →
    beyond i (brackets_end inside (drop i bs))
    ≡ cond (eqb (get_or bs i 0) 39)
    (cond (ltb (i + 1) (length bs)) (beyond (i + 2) (brackets_end inside (drop (i + 2) bs))) None)
    (cond (eqb (get_or bs i 0) 93)
    (cond (eqb inside 0) (Some i) (beyond (i + 1) (brackets_end (inside - 1) (drop (i + 1) bs))))
    (cond (eqb (get_or bs i 0) 91) (beyond (i + 1) (brackets_end (inside + 1) (drop (i + 1) bs)))
    (beyond (i + 1) (brackets_end inside (drop (i + 1) bs)))))
brackets_step inside bs i lt =
    let more : ltb 0 (length (drop (i + 1) bs)) ≡ ltb (i + 1) (length bs) =
    grind (arith, nat_tests, length-drop (i + 1) bs) in
    let behind : drop 1 (drop (i + 1) bs) ≡ drop (i + 2) bs = drop-drop 1 (i + 1) bs
    ∙ ap (λ k. drop k bs) (omega arith) in
    let rest = drop (i + 1) bs in
    ap (λ t. beyond i (brackets_end inside t)) (drop_more bs i 0 lt)
    ∙ ap (beyond i) (brackets_cons inside (get_or bs i 0) rest)
    ∙ by_tests (eqb (get_or bs i 0) 39) (ltb 0 (length rest)) (eqb (get_or bs i 0) 93)
    (eqb inside 0) (eqb (get_or bs i 0) 91) (brackets_end inside (drop 1 rest))
    (brackets_end (inside - 1) rest) (brackets_end (inside + 1) rest) (brackets_end inside rest)
    ∙ (λ t. cond (eqb (get_or bs i 0) 39)
    (cond (more t) (beyond (i + 2) (brackets_end inside (behind t))) None)
    (cond (eqb (get_or bs i 0) 93)
    (cond (eqb inside 0) (Some i) (beyond (i + 1) (brackets_end (inside - 1) rest)))
    (cond (eqb (get_or bs i 0) 91) (beyond (i + 1) (brackets_end (inside + 1) rest))
    (beyond (i + 1) (brackets_end inside rest))))) where
      by_tests : (kept some closes last opens : Bool) (p q r s : Option ℕ) →
          beyond i (cond kept (cond some (beyond 2 p) None)
          (cond closes (cond last (Some 0) (beyond 1 q))
          (cond opens (beyond 1 r) (beyond 1 s))))
          ≡ cond kept (cond some (beyond (i + 2) p) None)
          (cond closes (cond last (Some i) (beyond (i + 1) q))
          (cond opens (beyond (i + 1) r) (beyond (i + 1) s)))
      by_tests true true closes last opens p q r s = beyond_twice i 2 p
      by_tests true false closes last opens p q r s = beyond_none i
      by_tests false some true true opens p q r s = beyond_here i
      by_tests false some true false opens p q r s = beyond_twice i 1 q
      by_tests false some false last true p q r s = beyond_twice i 1 r
      by_tests false some false last false p q r s = beyond_twice i 1 s

-- the same past the end
pub quotes_end-nil : quotes_end [] ≡ None
unfolding quotes_end
quotes_end-nil = refl

pub brackets_end-nil : (inside : ℕ) → brackets_end inside [] ≡ None
unfolding brackets_end
brackets_end-nil inside = refl

pub ruleset quotes_steps =
    (nat_tests, quotes_step, quotes_end-nil, beyond_none, beyond_first, drop_all)

pub ruleset brackets_steps =
    (nat_tests, brackets_step, brackets_end-nil, beyond_none, beyond_first, drop_all)
