-- All numbers below one, as leaves of a tree.
use Rattle.std.proofs.Common.{◌≡◌, ◌∙◌, ℕ, zero, suc, ◌+◌, [], ◌∷◌, ◌++◌, ap, sym, arith, length}
use Rattle.std.proofs.Common.{add-one, add-zero, zero-add}
use Rattle.std.specs.Prelude.{nat_lt}
use Rattle.std.specs.List.{list_all, range_with_len}
use Rattle.std.proofs.lemmas.Bool.{lt-ltb}
use Rattle.std.proofs.lemmas.List.FromFn.{length-range_with_len}
use Rattle.calculation_order.proofs.Members.{all_from, in_below, of_below}
use Rattle.calculation_order.specs.Edges.{numbers_below}
use Rattle.xlsx_graph.specs.Tree.{AreNumbers}

range_suc : (a n : ℕ) → range_with_len a (suc n) ≡ range_with_len a n ++ (a + n) ∷ []
range_suc a zero = ap (λ k. k ∷ []) (sym (add-zero a))
range_suc a (suc n) =
    let same : a + 1 + n ≡ a + suc n = omega arith in
    ap (λ ks. a ∷ ks) (range_suc (a + 1) n
    ∙ ap (λ k. range_with_len (a + 1) n ++ k ∷ []) same)

-- one more number
pub one_more : (n : ℕ) → numbers_below (n + 1) ≡ numbers_below n ++ n ∷ []
one_more n =
    ap numbers_below (add-one n) ∙ range_suc 0 n
    ∙ ap (λ k. numbers_below n ++ k ∷ []) (zero-add n)

-- as many as that
pub length-numbers : (n : ℕ) → length (numbers_below n) ≡ n
length-numbers n = length-range_with_len 0 n

-- they are the numbers of so many formulas
pub all_numbers : (n : ℕ) → AreNumbers (numbers_below n)
all_numbers n = record {
  below = ap (λ k. list_all (λ m. nat_lt m k) (numbers_below n)) (length-numbers n)
      ∙ all_from (λ m. nat_lt m n) (numbers_below n) (λ m is. lt-ltb m n (of_below n m is));
  all = λ m below.
      let count = length-numbers n in
      in_below n m (omega arith);
}
