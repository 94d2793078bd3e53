-- What was read of a whole formula is what its tree comes to.
use Rattle.std.proofs.Common.{◌≡◌, ℕ, ◌==◌, Bool, true, false, List, [], ◌∷◌, length, Some, None}
use Rattle.std.proofs.Common.{Option, refl, sym, ap, ◌∙◌, arith}
use Rattle.std.specs.Prelude.{option_and_then}
use Rattle.std.proofs.lemmas.Bool.Decides.{nat_tests}
use Rattle.cell_data.specs.Words.{CellValue}
use Rattle.xlsx_check.specs.Denoting.{is_unsupported, value_read, rest_read, comparison_from}
use Rattle.xlsx_check.specs.Evaluation.{Denoted, unsupported, result_of, of_tree}
use Rattle.xlsx_check.specs.Reading.{TreeRead, if_all, tree_read}
use Rattle.xlsx_check.specs.Tokens.{Token}
use Rattle.xlsx_check.specs.Trees.{Tree, formula_tree}
use Rattle.xlsx_check.proofs.Agreeing.{reads_tree}
use Rattle.xlsx_check.proofs.Going.{known_not}

module _ (values : List ((ℕ × ℕ) × CellValue)) where
  -- the tokens were all read, or not
  abbrev at_end : Bool → Denoted → Denoted
  at_end true d = d
  at_end false d = unsupported

  known_end : (tree : Tree) (rest now : List Token) (d : Denoted) (none : Bool) →
      (length now == 0) ≡ none → now ≡ rest → d ≡ result_of values tree →
      at_end none d ≡ of_tree values (if_all tree rest)
  known_end tree [] now d true empty same is = is
  known_end tree [] now d false empty same is =
      absurd (some now (ap (λ (ts : List Token). length ts) same) empty)
    where
      some : (ts : List Token) → length ts ≡ 0 → (length ts == 0) ≡ false → ⊥
      some ts none not = grind (arith, nat_tests, none, not)
  known_end tree (token ∷ rest) now d true empty same is =
      absurd (none now (ap (λ (ts : List Token). length ts) same) empty)
    where
      none : (ts : List Token) → length ts ≡ length (token ∷ rest) → (length ts == 0) ≡ true → ⊥
      none ts long not = grind (arith, nat_tests, long, not)
  known_end tree (token ∷ rest) now d false empty same is = refl

  unsupported_end : (tree : Tree) (rest : List Token) (d : Denoted) (none : Bool) →
      d ≡ result_of values tree → d ≡ unsupported →
      at_end none d ≡ of_tree values (if_all tree rest)
  unsupported_end tree [] d true is off = is
  unsupported_end tree (token ∷ rest) d true is off = off
  unsupported_end tree [] d false is off = sym off ∙ is
  unsupported_end tree (token ∷ rest) d false is off = refl

  pub whole_read : (tokens now : List Token) (d : Denoted) (none : Bool) →
      d ≡ value_read values (comparison_from 65 tokens) →
      (is_unsupported d ≡ false → now ≡ rest_read (comparison_from 65 tokens)) →
      (length now == 0) ≡ none → at_end none d ≡ of_tree values (formula_tree tokens)
  unfolding comparison_from tree_read
  whole_read tokens now d none is rest empty =
      by (comparison_from 65 tokens) is rest
      ∙ ap (of_tree values) (reads_tree tokens)
    where
      at : (r : TreeRead) (off : Bool) → is_unsupported d ≡ off → d ≡ result_of values r.tree →
          (is_unsupported d ≡ false → now ≡ r.rest) →
          at_end none d ≡ of_tree values (if_all r.tree r.rest)
      at r true known comes behind =
          unsupported_end r.tree r.rest d none comes (known_not d known)
      at r false known comes behind =
          known_end r.tree r.rest now d none empty (behind known) comes

      by : (o : Option TreeRead) → d ≡ value_read values o →
          (is_unsupported d ≡ false → now ≡ rest_read o) →
          at_end none d ≡ of_tree values (option_and_then (λ r. if_all r.tree r.rest) o)
      by None comes behind = ended none comes
        where
          ended : (t : Bool) → d ≡ unsupported → at_end t d ≡ unsupported
          ended true off = off
          ended false off = refl
      by (Some r) comes behind = at r (is_unsupported d) refl comes behind
