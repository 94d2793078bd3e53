use Rattle.std.proofs.Common.{◌+◌, ◌*◌, ◌≤◌, length}
use Rattle.xlsx_check.specs.Denoting.{denoted_by, values_of, tokens_ahead, factor_from}
use Rattle.xlsx_check.specs.Denoting.{product_from, sum_from}
use Rattle.xlsx_check.specs.Trees.{is_addition, is_multiplication}
use Rattle.xlsx_check.proofs.Going.{Goes}
use Rattle.xlsx_check.proofs.descent.+descent.Given as goal

abbrev pub decreases-factor : goal.decreases-factor
decreases-factor l = 5 * l.levels

abbrev pub decreases-product : goal.decreases-product
decreases-product l = 5 * l.levels + 1

abbrev pub decreases-sum : goal.decreases-sum
decreases-sum l = 5 * l.levels + 2

abbrev pub decreases-comparison : goal.decreases-comparison
decreases-comparison l = 5 * l.levels + 3

abbrev pub decreases-group : goal.decreases-group
decreases-group l = 5 * l.levels + 4

abbrev pub invariant-product-factors : goal.invariant-product-factors
invariant-product-factors l = record {
  goes : Goes (values_of l.values) is_multiplication (factor_from l.levels)
      (product_from l.levels (tokens_ahead l.fn.tokens)) (denoted_by l.left)
      (tokens_ahead l.tokens);
  shorter : length (tokens_ahead l.tokens) ≤ length (tokens_ahead l.fn.tokens);
}

abbrev pub decreases-product-factors : goal.decreases-product-factors
decreases-product-factors l = length (tokens_ahead l.tokens)

abbrev pub invariant-sum-terms : goal.invariant-sum-terms
invariant-sum-terms l = record {
  goes : Goes (values_of l.values) is_addition (product_from l.levels)
      (sum_from l.levels (tokens_ahead l.fn.tokens)) (denoted_by l.left) (tokens_ahead l.tokens);
  shorter : length (tokens_ahead l.tokens) ≤ length (tokens_ahead l.fn.tokens);
}

abbrev pub decreases-sum-terms : goal.decreases-sum-terms
decreases-sum-terms l = length (tokens_ahead l.tokens)
