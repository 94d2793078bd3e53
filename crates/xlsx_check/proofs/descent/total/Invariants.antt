use Rattle.std.proofs.Common.{◌≤◌, length}
use Rattle.xlsx_check.specs.Denoting.{denoted_by, values_of, tokens_ahead, references_from}
use Rattle.xlsx_check.proofs.Going.{IsTotal}
use Rattle.xlsx_check.proofs.descent.total.Given as goal

abbrev pub invariant-references : goal.invariant-references
invariant-references l = record {
  total : IsTotal (values_of l.values) (references_from (tokens_ahead l.fn.tokens))
      (denoted_by l.total)
      (tokens_ahead l.tokens);
  shorter : length (tokens_ahead l.tokens) ≤ length (tokens_ahead l.fn.tokens);
}

abbrev pub decreases-references : goal.decreases-references
decreases-references l = length (tokens_ahead l.tokens)
