use Rattle.std.proofs.Common.{true, false, ap, sym, ◌∙◌, List}
use Rattle.xlsx_check.specs.Denoting.{denoted_by, values_of, tokens_ahead}
use Rattle.xlsx_check.specs.Evaluation.{denotation, of_tree}
use Rattle.xlsx_check.specs.Tokens.{Token}
use Rattle.xlsx_check.specs.Trees.{formula_tree}
use Rattle.xlsx_check.proofs.Whole.{whole_read}
use Rattle.xlsx_check.proofs.checking.denotation.Goals as goal

pub returns-then-is_empty : goal.returns-then-is_empty
unfolding denotation
returns-then-is_empty c =
    whole_read (values_of c.args.values.now) (tokens_ahead c.new-tokens.result)
    (tokens_ahead c.comparison-result.new.tokens) (denoted_by c.comparison-result.result) true
    c.comparison-result.ensures.value c.comparison-result.ensures.rest
    (sym c.is_empty.ensures ∙ c.if-is_empty.true)
    ∙ ap (λ (tokens : List Token). of_tree (values_of c.args.values.now) (formula_tree tokens))
    c.new-tokens.ensures

pub returns-else-is_empty : goal.returns-else-is_empty
unfolding denotation
returns-else-is_empty c =
    whole_read (values_of c.args.values.now) (tokens_ahead c.new-tokens.result)
    (tokens_ahead c.comparison-result.new.tokens) (denoted_by c.comparison-result.result) false
    c.comparison-result.ensures.value c.comparison-result.ensures.rest
    (sym c.is_empty.ensures ∙ c.if-is_empty.false)
    ∙ ap (λ (tokens : List Token). of_tree (values_of c.args.values.now) (formula_tree tokens))
    c.new-tokens.ensures
