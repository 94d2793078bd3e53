use Rattle.std.proofs.Common.{rules, ◌≡◌, ℕ, ◌-◌, ◌⊎◌, Bool, true, false, ◌∷◌, Some, ◌∙◌, sym, ap}
use Rattle.std.proofs.Common.{arith, length, inl, inr}
use Rattle.xlsx_check.specs.Denoting.{denoted_by, is_unsupported, values_of, tokens_ahead}
use Rattle.xlsx_check.specs.Denoting.{value_read, rest_read, factor_from, product_from, sum_from}
use Rattle.xlsx_check.specs.Denoting.{comparison_from, group_from, opened_references}
use Rattle.xlsx_check.specs.Reading.{factor_read}
use Rattle.xlsx_check.specs.TokenView.{token_of}
use Rattle.xlsx_check.specs.declared.token.Comparison.{Comparison}
use Rattle.xlsx_check.specs.declared.token.Token.{Token as CodeToken}
use Rattle.xlsx_check.specs.declared.token.Token.TheVariants as code
use Rattle.xlsx_check.specs.Tokens.{Token, constant, refers, sum, sign, opens}
use Rattle.xlsx_check.specs.Trees.{Tree, is_comparison, is_addition, is_multiplication, joined_by}
use Rattle.xlsx_check.specs.Trees.{cell_alone}
use Rattle.decimals.specs.Words.{number_of}
use Rattle.xlsx_check.proofs.Joins.{products, sums, comparisons, IsKind}
use Rattle.xlsx_check.proofs.Going.{goes_start, goes_step, goes_stop, comparison_off}
use Rattle.xlsx_check.proofs.Going.{comparison_stop, comparison_step, group_off, group_closed}
use Rattle.xlsx_check.proofs.Going.{group_open, factor_no_level, factor_no_token, factor_other}
use Rattle.xlsx_check.proofs.Going.{factor_constant, factor_cell, factor_sign, factor_group}
use Rattle.xlsx_check.proofs.Going.{factor_total, signed_value, signed_rest, total_value}
use Rattle.xlsx_check.proofs.Going.{total_rest, cell_value, cell_rest, known_not, begins_factor}
use Rattle.xlsx_check.proofs.descent.+descent.Goals as goal

-- two trees are joined by any token of a kind
all_join : (wanted : Token → Bool) (most least : ℕ) → IsKind wanted most least → (token : Token) →
    wanted token ≡ true → (l r : Tree) → (t : Tree) × (joined_by token l r ≡ Some t)
all_join wanted most least kind token wants l r =
    let joins = kind.joins token wants l r in
    (joins.tree, joins.is)

-- no factor begins with these
not_begun : (token : CodeToken) →
    (token ≡ code.Plus) ⊎ ((token ≡ code.Minus) ⊎ ((token ≡ code.Times) ⊎ ((token ≡ code.Closes)
    ⊎ ((token ≡ code.Comma) ⊎ (((c : Comparison) × (token ≡ code.Compares c))
    ⊎ (token ≡ code.Stray)))))) → begins_factor (token_of token) ≡ false
not_begun token (inl is) = ap (λ (t : CodeToken). begins_factor (token_of t)) is
not_begun token (inr (inl is)) = ap (λ (t : CodeToken). begins_factor (token_of t)) is
not_begun token (inr (inr (inl is))) = ap (λ (t : CodeToken). begins_factor (token_of t)) is
not_begun token (inr (inr (inr (inl is)))) = ap (λ (t : CodeToken). begins_factor (token_of t)) is
not_begun token (inr (inr (inr (inr (inl is))))) =
    ap (λ (t : CodeToken). begins_factor (token_of t)) is
not_begun token (inr (inr (inr (inr (inr (inl is)))))) =
    ap (λ (t : CodeToken). begins_factor (token_of t)) is.1
not_begun token (inr (inr (inr (inr (inr (inr is)))))) =
    ap (λ (t : CodeToken). begins_factor (token_of t)) is

pub comparison-returns-then-is_unsupported-clause-value :
    goal.comparison-returns-then-is_unsupported-clause-value
unfolding sum_from comparison_from
comparison-returns-then-is_unsupported-clause-value t c =
    comparison_off (values_of c.args.values.now) (factor_read c.args.levels)
    (tokens_ahead c.args.tokens.now) (denoted_by c.sum-left.result) c.sum-left.ensures.value
    (sym c.is_unsupported.ensures ∙ c.if-is_unsupported.true)

pub comparison-returns-in_default-clause-value : goal.comparison-returns-in_default-clause-value
unfolding sum_from comparison_from
comparison-returns-in_default-clause-value t c =
    let known : is_unsupported (denoted_by c.sum-left.result) ≡ false =
    sym c.is_unsupported.ensures ∙ c.if-is_unsupported.false in
    (comparison_stop (values_of c.args.values.now) (factor_read c.args.levels)
    (tokens_ahead c.args.tokens.now) (tokens_ahead c.sum-left.new.tokens)
    (denoted_by c.sum-left.result)
    c.sum-left.ensures.value known (c.sum-left.ensures.rest known) c.in_default.ensures.none).0

pub comparison-returns-in_default-clause-rest : goal.comparison-returns-in_default-clause-rest
unfolding sum_from comparison_from
comparison-returns-in_default-clause-rest t c known =
    c.in_default.ensures.stays
    ∙ (comparison_stop (values_of c.args.values.now) (factor_read c.args.levels)
    (tokens_ahead c.args.tokens.now) (tokens_ahead c.sum-left.new.tokens)
    (denoted_by c.sum-left.result)
    c.sum-left.ensures.value known (c.sum-left.ensures.rest known) c.in_default.ensures.none).1

pub comparison-returns-clause-value : goal.comparison-returns-clause-value
unfolding sum_from comparison_from
comparison-returns-clause-value t c =
    let known : is_unsupported (denoted_by c.sum-left.result) ≡ false =
    sym c.is_unsupported.ensures ∙ c.if-is_unsupported.false in
    c.joined.ensures
    ∙ (comparison_step (values_of c.args.values.now) (factor_read c.args.levels)
    (tokens_ahead c.args.tokens.now) (tokens_ahead c.sum-left.new.tokens)
    (tokens_ahead c.take_of.new.self)
    (tokens_ahead c.sum-right.new.tokens) (token_of c.in-Some.token) (denoted_by c.sum-left.result)
    (denoted_by c.sum-right.result) c.in-Some.ensures.wanted
    (all_join is_comparison 2 2 comparisons (token_of c.in-Some.token) c.in-Some.ensures.wanted)
    c.sum-left.ensures.value known (c.sum-left.ensures.rest known) c.in-Some.ensures.some
    c.sum-right.ensures.value c.sum-right.ensures.rest).0

pub comparison-returns-clause-rest : goal.comparison-returns-clause-rest
unfolding sum_from comparison_from
comparison-returns-clause-rest t c on =
    let known : is_unsupported (denoted_by c.sum-left.result) ≡ false =
    sym c.is_unsupported.ensures ∙ c.if-is_unsupported.false in
    (comparison_step (values_of c.args.values.now) (factor_read c.args.levels)
    (tokens_ahead c.args.tokens.now) (tokens_ahead c.sum-left.new.tokens)
    (tokens_ahead c.take_of.new.self)
    (tokens_ahead c.sum-right.new.tokens) (token_of c.in-Some.token) (denoted_by c.sum-left.result)
    (denoted_by c.sum-right.result) c.in-Some.ensures.wanted
    (all_join is_comparison 2 2 comparisons (token_of c.in-Some.token) c.in-Some.ensures.wanted)
    c.sum-left.ensures.value known (c.sum-left.ensures.rest known) c.in-Some.ensures.some
    c.sum-right.ensures.value c.sum-right.ensures.rest).1
    (ap is_unsupported (sym c.joined.ensures) ∙ on)

pub factor-returns-then-levels-eq0-clause-value : goal.factor-returns-then-levels-eq0-clause-value
unfolding factor_from
factor-returns-then-levels-eq0-clause-value t c =
    sym (ap (value_read (values_of c.args.values.now))
    (factor_no_level c.args.levels (tokens_ahead c.args.tokens.now) c.if-levels-eq0.true))

pub factor-returns-in_default-clause-value : goal.factor-returns-in_default-clause-value
unfolding factor_from
factor-returns-in_default-clause-value t c =
    sym (ap (value_read (values_of c.args.values.now))
    (factor_no_token c.args.levels (tokens_ahead c.args.tokens.now) c.in_default.ensures.none))

pub factor-returns-in-Constant-clause-value : goal.factor-returns-in-Constant-clause-value
unfolding factor_from
factor-returns-in-Constant-clause-value t c =
    let split : tokens_ahead c.args.tokens.now
    ≡ constant (number_of c.in-Constant.number) ∷ tokens_ahead c.take.new.self =
    search rules in
    sym (ap (value_read (values_of c.args.values.now))
    (factor_constant c.args.levels (tokens_ahead c.args.tokens.now) (tokens_ahead c.take.new.self)
    (number_of c.in-Constant.number) c.if-levels-eq0.false split))

pub factor-returns-in-Constant-clause-rest : goal.factor-returns-in-Constant-clause-rest
unfolding factor_from
factor-returns-in-Constant-clause-rest t c known =
    let split : tokens_ahead c.args.tokens.now
    ≡ constant (number_of c.in-Constant.number) ∷ tokens_ahead c.take.new.self =
    search rules in
    sym (ap rest_read
    (factor_constant c.args.levels (tokens_ahead c.args.tokens.now) (tokens_ahead c.take.new.self)
    (number_of c.in-Constant.number) c.if-levels-eq0.false split))

pub factor-returns-in-Refers-clause-value : goal.factor-returns-in-Refers-clause-value
unfolding factor_from
factor-returns-in-Refers-clause-value t c =
    let r = c.in-Refers.reference in
    let split : tokens_ahead c.args.tokens.now ≡ refers r ∷ tokens_ahead c.take.new.self =
    search rules in
    c.cell_alone.ensures
    ∙ (cell_value (values_of c.args.values.now) (cell_alone r r.second)
    (tokens_ahead c.take.new.self)
    ∙ sym (ap (value_read (values_of c.args.values.now))
    (factor_cell c.args.levels (tokens_ahead c.args.tokens.now) (tokens_ahead c.take.new.self) r
    c.if-levels-eq0.false split)))

pub factor-returns-in-Refers-clause-rest : goal.factor-returns-in-Refers-clause-rest
unfolding factor_from
factor-returns-in-Refers-clause-rest t c known =
    let r = c.in-Refers.reference in
    let split : tokens_ahead c.args.tokens.now ≡ refers r ∷ tokens_ahead c.take.new.self =
    search rules in
    cell_rest (values_of c.args.values.now) (cell_alone r r.second) (tokens_ahead c.take.new.self)
    (denoted_by c.cell_alone.result) c.cell_alone.ensures known
    ∙ sym (ap rest_read
    (factor_cell c.args.levels (tokens_ahead c.args.tokens.now) (tokens_ahead c.take.new.self) r
    c.if-levels-eq0.false split))

pub factor-returns-in-Sign-clause-value : goal.factor-returns-in-Sign-clause-value
unfolding factor_from
factor-returns-in-Sign-clause-value t c =
    let split : tokens_ahead c.args.tokens.now ≡ sign ∷ tokens_ahead c.take.new.self =
    search rules in
    signed_value (values_of c.args.values.now)
    (factor_read (c.args.levels - 1) (tokens_ahead c.take.new.self)) (denoted_by c.factor.result)
    (denoted_by c.negated.result) c.negated.ensures c.factor.ensures.value
    ∙ sym (ap (value_read (values_of c.args.values.now))
    (factor_sign c.args.levels (tokens_ahead c.args.tokens.now) (tokens_ahead c.take.new.self)
    c.if-levels-eq0.false split))

pub factor-returns-in-Sign-clause-rest : goal.factor-returns-in-Sign-clause-rest
unfolding factor_from
factor-returns-in-Sign-clause-rest t c known =
    let split : tokens_ahead c.args.tokens.now ≡ sign ∷ tokens_ahead c.take.new.self =
    search rules in
    signed_rest (values_of c.args.values.now)
    (factor_read (c.args.levels - 1) (tokens_ahead c.take.new.self)) (denoted_by c.factor.result)
    (denoted_by c.negated.result) (tokens_ahead c.factor.new.tokens) c.negated.ensures known
    c.factor.ensures.rest
    ∙ sym (ap rest_read
    (factor_sign c.args.levels (tokens_ahead c.args.tokens.now) (tokens_ahead c.take.new.self)
    c.if-levels-eq0.false split))

pub factor-returns-in-Opens-clause-value : goal.factor-returns-in-Opens-clause-value
unfolding factor_from group_from
factor-returns-in-Opens-clause-value t c =
    let split : tokens_ahead c.args.tokens.now ≡ opens ∷ tokens_ahead c.take.new.self =
    search rules in
    c.group.ensures.value
    ∙ sym (ap (value_read (values_of c.args.values.now))
    (factor_group c.args.levels (tokens_ahead c.args.tokens.now) (tokens_ahead c.take.new.self)
    c.if-levels-eq0.false split))

pub factor-returns-in-Opens-clause-rest : goal.factor-returns-in-Opens-clause-rest
unfolding factor_from group_from
factor-returns-in-Opens-clause-rest t c known =
    let split : tokens_ahead c.args.tokens.now ≡ opens ∷ tokens_ahead c.take.new.self =
    search rules in
    c.group.ensures.rest known
    ∙ sym (ap rest_read
    (factor_group c.args.levels (tokens_ahead c.args.tokens.now) (tokens_ahead c.take.new.self)
    c.if-levels-eq0.false split))

pub factor-returns-in-Sum-clause-value : goal.factor-returns-in-Sum-clause-value
unfolding factor_from
factor-returns-in-Sum-clause-value t c =
    let split : tokens_ahead c.args.tokens.now ≡ sum ∷ tokens_ahead c.take.new.self =
    search rules in
    c.opened_total.ensures.value
    ∙ (total_value (values_of c.args.values.now) (opened_references (tokens_ahead c.take.new.self))
    ∙ sym (ap (value_read (values_of c.args.values.now))
    (factor_total c.args.levels (tokens_ahead c.args.tokens.now) (tokens_ahead c.take.new.self)
    c.if-levels-eq0.false split)))

pub factor-returns-in-Sum-clause-rest : goal.factor-returns-in-Sum-clause-rest
unfolding factor_from
factor-returns-in-Sum-clause-rest t c known =
    let split : tokens_ahead c.args.tokens.now ≡ sum ∷ tokens_ahead c.take.new.self =
    search rules in
    c.opened_total.ensures.rest known
    ∙ (total_rest (values_of c.args.values.now) (opened_references (tokens_ahead c.take.new.self))
    ∙ sym (ap rest_read
    (factor_total c.args.levels (tokens_ahead c.args.tokens.now) (tokens_ahead c.take.new.self)
    c.if-levels-eq0.false split)))

pub factor-returns-in-Plus : goal.factor-returns-in-Plus
unfolding factor_from
factor-returns-in-Plus t c =
    let none =
    factor_other c.args.levels (tokens_ahead c.args.tokens.now) (tokens_ahead c.take.new.self)
    (token_of c.in-Some.token) c.in-Some.ensures.some (not_begun c.in-Some.token c.in-Plus.is) in
    record {
      value = sym (ap (value_read (values_of c.args.values.now)) none);
      rest = λ known. absurd (cc);
      shorter = omega (arith, ap length c.in-Some.ensures.some);
    }

pub group-returns-then-is_unsupported-clause-value :
    goal.group-returns-then-is_unsupported-clause-value
unfolding comparison_from group_from
group-returns-then-is_unsupported-clause-value t c =
    group_off (values_of c.args.values.now) (factor_read c.args.levels)
    (tokens_ahead c.args.tokens.now)
    (denoted_by c.comparison-inside.result) c.comparison-inside.ensures.value
    (sym c.is_unsupported.ensures ∙ c.if-is_unsupported.true)

pub group-returns-then-take_closing-clause-value : goal.group-returns-then-take_closing-clause-value
unfolding comparison_from group_from
group-returns-then-take_closing-clause-value t c =
    let known : is_unsupported (denoted_by c.comparison-inside.result) ≡ false =
    sym c.is_unsupported.ensures ∙ c.if-is_unsupported.false in
    (group_closed (values_of c.args.values.now) (factor_read c.args.levels)
    (tokens_ahead c.args.tokens.now) (tokens_ahead c.comparison-inside.new.tokens)
    (tokens_ahead c.take_closing.new.self)
    (denoted_by c.comparison-inside.result) c.comparison-inside.ensures.value known
    (c.comparison-inside.ensures.rest known)
    (c.take_closing.ensures.rest c.if-take_closing.true)).0

pub group-returns-then-take_closing-clause-rest : goal.group-returns-then-take_closing-clause-rest
unfolding comparison_from group_from
group-returns-then-take_closing-clause-rest t c known =
    (group_closed (values_of c.args.values.now) (factor_read c.args.levels)
    (tokens_ahead c.args.tokens.now) (tokens_ahead c.comparison-inside.new.tokens)
    (tokens_ahead c.take_closing.new.self)
    (denoted_by c.comparison-inside.result) c.comparison-inside.ensures.value known
    (c.comparison-inside.ensures.rest known)
    (c.take_closing.ensures.rest c.if-take_closing.true)).1

pub group-returns-else-take_closing-clause-value : goal.group-returns-else-take_closing-clause-value
unfolding comparison_from group_from
group-returns-else-take_closing-clause-value t c =
    let known : is_unsupported (denoted_by c.comparison-inside.result) ≡ false =
    sym c.is_unsupported.ensures ∙ c.if-is_unsupported.false in
    group_open (values_of c.args.values.now) (factor_read c.args.levels)
    (tokens_ahead c.args.tokens.now)
    (tokens_ahead c.comparison-inside.new.tokens) (denoted_by c.comparison-inside.result)
    c.comparison-inside.ensures.value known (c.comparison-inside.ensures.rest known)
    (sym c.take_closing.ensures.value ∙ c.if-take_closing.false)

pub product-factors-init : goal.product-factors-init
unfolding factor_from product_from sum_from
product-factors-init t c = record {
  goes = goes_start (values_of c.args.values.now) is_multiplication (factor_from c.args.levels)
      (tokens_ahead c.args.tokens.now) (tokens_ahead c.factor-left.new.tokens)
      (denoted_by c.factor-left.result)
      c.factor-left.ensures.value c.factor-left.ensures.rest;
  shorter = c.factor-left.ensures.shorter;
}

pub product-returns-in_default-clause-value : goal.product-returns-in_default-clause-value
product-returns-in_default-clause-value t c =
    let known : is_unsupported (denoted_by c.factors.left) ≡ false = search rules in
    (goes_stop (values_of c.args.values.now) is_multiplication (factor_from c.args.levels)
    (product_from c.args.levels (tokens_ahead c.args.tokens.now)) (denoted_by c.factors.left)
    (tokens_ahead c.factors.tokens) c.factors.invariant.goes known c.in_default.ensures.none).0

pub product-returns-in_default-clause-rest : goal.product-returns-in_default-clause-rest
product-returns-in_default-clause-rest t c known =
    c.in_default.ensures.stays
    ∙ (goes_stop (values_of c.args.values.now) is_multiplication (factor_from c.args.levels)
    (product_from c.args.levels (tokens_ahead c.args.tokens.now)) (denoted_by c.factors.left)
    (tokens_ahead c.factors.tokens) c.factors.invariant.goes known c.in_default.ensures.none).1

pub product-factors-preserved : goal.product-factors-preserved
product-factors-preserved t c =
    let known : is_unsupported (denoted_by c.factors.left) ≡ false = search rules in
    let goes =
    goes_step (values_of c.args.values.now) is_multiplication (factor_from c.args.levels)
    (product_from c.args.levels (tokens_ahead c.args.tokens.now)) (token_of c.in-Some.token)
    (tokens_ahead c.factors.tokens) (tokens_ahead c.take_of.new.self)
    (tokens_ahead c.factor-right.new.tokens)
    (denoted_by c.factors.left) (denoted_by c.factor-right.result) c.in-Some.ensures.wanted
    (all_join is_multiplication 1 0 products (token_of c.in-Some.token)
    c.in-Some.ensures.wanted) known c.factors.invariant.goes c.in-Some.ensures.some
    c.factor-right.ensures.value c.factor-right.ensures.rest c.factor-right.ensures.shorter in
    record {
      goes = rw c.joined-left.ensures goes;
      shorter = omega (
        arith,
        c.factor-right.ensures.shorter,
        c.factors.invariant.shorter,
        ap length c.in-Some.ensures.some,
      );
    }

pub product-returns-clause-value : goal.product-returns-clause-value
product-returns-clause-value t c =
    let off : is_unsupported (denoted_by c.factors.left) ≡ true = search rules in
    known_not (denoted_by c.factors.left) off ∙ c.factors.invariant.goes.off off

pub sum-terms-init : goal.sum-terms-init
unfolding factor_from product_from sum_from
sum-terms-init t c = record {
  goes = goes_start (values_of c.args.values.now) is_addition (product_from c.args.levels)
      (tokens_ahead c.args.tokens.now) (tokens_ahead c.product-left.new.tokens)
      (denoted_by c.product-left.result)
      c.product-left.ensures.value c.product-left.ensures.rest;
  shorter = c.product-left.ensures.shorter;
}

pub sum-returns-in_default-clause-value : goal.sum-returns-in_default-clause-value
sum-returns-in_default-clause-value t c =
    let known : is_unsupported (denoted_by c.terms.left) ≡ false = search rules in
    (goes_stop (values_of c.args.values.now) is_addition (product_from c.args.levels)
    (sum_from c.args.levels (tokens_ahead c.args.tokens.now)) (denoted_by c.terms.left)
    (tokens_ahead c.terms.tokens) c.terms.invariant.goes known c.in_default.ensures.none).0

pub sum-returns-in_default-clause-rest : goal.sum-returns-in_default-clause-rest
sum-returns-in_default-clause-rest t c known =
    c.in_default.ensures.stays
    ∙ (goes_stop (values_of c.args.values.now) is_addition (product_from c.args.levels)
    (sum_from c.args.levels (tokens_ahead c.args.tokens.now)) (denoted_by c.terms.left)
    (tokens_ahead c.terms.tokens) c.terms.invariant.goes known c.in_default.ensures.none).1

pub sum-terms-preserved : goal.sum-terms-preserved
sum-terms-preserved t c =
    let known : is_unsupported (denoted_by c.terms.left) ≡ false = search rules in
    let goes =
    goes_step (values_of c.args.values.now) is_addition (product_from c.args.levels)
    (sum_from c.args.levels (tokens_ahead c.args.tokens.now)) (token_of c.in-Some.token)
    (tokens_ahead c.terms.tokens) (tokens_ahead c.take_of.new.self)
    (tokens_ahead c.product-right.new.tokens)
    (denoted_by c.terms.left) (denoted_by c.product-right.result) c.in-Some.ensures.wanted
    (all_join is_addition 2 1 sums (token_of c.in-Some.token)
    c.in-Some.ensures.wanted) known c.terms.invariant.goes c.in-Some.ensures.some
    c.product-right.ensures.value c.product-right.ensures.rest c.product-right.ensures.shorter in
    record {
      goes = rw c.joined-left.ensures goes;
      shorter = omega (
        arith,
        c.product-right.ensures.shorter,
        c.terms.invariant.shorter,
        ap length c.in-Some.ensures.some,
      );
    }

pub sum-returns-clause-value : goal.sum-returns-clause-value
sum-returns-clause-value t c =
    let off : is_unsupported (denoted_by c.terms.left) ≡ true = search rules in
    known_not (denoted_by c.terms.left) off ∙ c.terms.invariant.goes.off off
