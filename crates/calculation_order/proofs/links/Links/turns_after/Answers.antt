use Rattle.std.proofs.Common.{◌≡◌, ◌∙◌, ℕ, List, [], ◌∷◌, ◌++◌, cond, map, sym, ap, arith}
use Rattle.std.proofs.lemmas.List.FromFn.{map-range_with_len_more}
use Rattle.calculation_order.specs.Edges.{needs_of, numbers_below}
use Rattle.calculation_order.specs.Links.{told_edges}
use Rattle.calculation_order.specs.Turns.{asks_at, joined_of, turn_after, turn_at}
use Rattle.calculation_order.proofs.Passing.{length-told, told_turn}
use Rattle.calculation_order.proofs.links.Links.turns_after.Goals as goal

pub loop-number-preserved : goal.loop-number-preserved
loop-number-preserved c =
    let linked = c.args.self.now in
    let most = linked.formulas in
    let n = c.loop-number.number in
    let asks = asks_at c.args.asks.now in
    let turn = turn_after c.args.waiting asks (told_edges linked) c.args.turns.now in
    let own : c.turn_after.result ≡ turn n =
    c.turn_after.ensures
    ∙ ap (λ (behind : List ℕ). cond (asks n) 0 (joined_of c.args.waiting most (turn_at most behind)
    (needs_of linked.links n))) c.deref.ensures.value
    ∙ told_turn c.args.waiting linked c.requires asks c.args.turns.now
    c.in_ok-behind.behind.items n c.in_ok-behind.ensures
    (omega (arith, c.formulas-number-end.ensures)) in
    c.in_ok-push.ensures.items
    ∙ (λ i. c.loop-number.invariant i ++ own i ∷ [])
    ∙ sym (map-range_with_len_more turn 0 n n (omega arith))

pub returns : goal.returns
returns c =
    let linked = c.args.self.now in
    let turn = turn_after c.args.waiting (asks_at c.args.asks.now) (told_edges linked)
    c.args.turns.now in
    let all : c.loop-number.number ≡ linked.formulas =
    omega (arith, c.formulas-number-end.ensures) in
    c.loop-number.invariant
    ∙ ap (λ (n : ℕ). map turn (numbers_below n)) (all ∙ sym (length-told linked))
