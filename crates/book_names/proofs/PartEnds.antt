-- Where parts end: a step of a scan.
use Rattle.std.proofs.Common.{◌≡◌, ℕ, ◌+◌, ◌<◌, ◌≤◌, Bool, true, false, cond, eqb, List, [], ◌∷◌}
use Rattle.std.proofs.Common.{length, get_or, drop, refl, ap, ◌∙◌, arith}
use Rattle.std.specs.Prelude.{Option, None, Some}
use Rattle.std.proofs.lemmas.Bool.Decides.{nat_tests}
use Rattle.std.proofs.lemmas.List.{drop_all, drop_more, drop-drop}
use Rattle.formula_tokens.proofs.Closing.{beyond, beyond_here, beyond_first, beyond_twice}
use Rattle.book_names.specs.Structured.{part_end}

part_cons : (b : ℕ) (bs : List ℕ) →
    part_end (b ∷ bs)
    ≡ cond (eqb b 93) (Some 0)
    (cond (eqb b 39) (beyond 2 (part_end (drop 1 bs))) (beyond 1 (part_end bs)))
unfolding part_end beyond
part_cons b [] = grind arith
part_cons b (c ∷ bs) = refl

pub part_step : (bs : List ℕ) (i : ℕ) → i < length bs →
    beyond i (part_end (drop i bs))
    ≡ cond (eqb (get_or bs i 0) 93) (Some i)
    (cond (eqb (get_or bs i 0) 39) (beyond (i + 2) (part_end (drop (i + 2) bs)))
    (beyond (i + 1) (part_end (drop (i + 1) bs))))
part_step bs i lt =
    let behind : drop 1 (drop (i + 1) bs) ≡ drop (i + 2) bs = drop-drop 1 (i + 1) bs
    ∙ ap (λ k. drop k bs) (omega arith) in
    ap (λ t. beyond i (part_end t)) (drop_more bs i 0 lt)
    ∙ ap (beyond i) (part_cons (get_or bs i 0) (drop (i + 1) bs))
    ∙ by_tests (eqb (get_or bs i 0) 93) (eqb (get_or bs i 0) 39)
    (part_end (drop 1 (drop (i + 1) bs))) (part_end (drop (i + 1) bs))
    ∙ ap (λ t. cond (eqb (get_or bs i 0) 93) (Some i)
    (cond (eqb (get_or bs i 0) 39) (beyond (i + 2) (part_end t))
    (beyond (i + 1) (part_end (drop (i + 1) bs))))) behind where
      by_tests : (closes keeps : Bool) (p q : Option ℕ) →
          beyond i (cond closes (Some 0) (cond keeps (beyond 2 p) (beyond 1 q)))
          ≡ cond closes (Some i) (cond keeps (beyond (i + 2) p) (beyond (i + 1) q))
      by_tests true keeps p q = beyond_here i
      by_tests false true p q = beyond_twice i 2 p
      by_tests false false p q = beyond_twice i 1 q

-- past the end
pub part_all : (bs : List ℕ) (i : ℕ) → length bs ≤ i → beyond i (part_end (drop i bs)) ≡ None
unfolding part_end beyond
part_all bs i all = ap (λ t. beyond i (part_end t)) (drop_all i bs all)

pub ruleset part_steps = (nat_tests, part_step, part_all, beyond_first)
