use Rattle.std.proofs.Common.{◌≡◌, ◌∷◌, length, ap, arith}
use Rattle.formula_tokens.specs.Told.{token_text, tokens_left, cut_told, item_text}
use Rattle.formula_tokens.specs.Told.{formula_items_left}
use Rattle.formula_tokens.proofs.Cutting.{items_none, items_first}
use Rattle.formula_tokens.proofs.items.ItemsIterator.next.Goals as goal
use Rattle.formula_tokens.proofs.items.ItemsIterator.next.Goals.{After-result-1}

pub returns-in_err-first-clause-steps : goal.returns-in_err-first-clause-steps
returns-in_err-first-clause-steps c =
    rw c.from_residual.ensures (
      items_none _ c.in_err-first.ensures.steps.0,
      items_none _ c.in_err-first.ensures.steps.1,
    )

more : (c : After-result-1) →
    formula_items_left c.args.self.now
    ≡ item_text c.first_item-cut.result.item ∷ formula_items_left (record {
      tokens =
          c.behind-self.result;
    })
more c =
    items_first (tokens_left c.args.self.now.tokens) (tokens_left c.next.new.self)
    (tokens_left c.behind-self.result) (token_text c.in_ok-first.first)
    (cut_told c.first_item-cut.result) c.in_ok-first.ensures.steps c.first_item-cut.ensures
    c.behind-self.ensures

pub returns-clause-steps : goal.returns-clause-steps
returns-clause-steps c = more c

pub returns-clause-goes : goal.returns-clause-goes
returns-clause-goes c = grind (arith, ap length (more c))
