use Rattle.std.proofs.Common.{◌≡◌, ◌∙◌, ℕ, add-one, length, replicate, ap, sym, subst, arith}
use Rattle.calculation_order.specs.Links.{told_edges}
use Rattle.calculation_order.specs.Turns.{AreTurns, asks_at, turns_after}
use Rattle.calculation_order.proofs.Passing.{length-told}
use Rattle.calculation_order.proofs.Standing.{turns_stand, turns_within}
use Rattle.calculation_order.proofs.links.Links.plain_turns.Goals as goal

pub loop-time-init : goal.loop-time-init
loop-time-init c =
    c.in_ok-turns.ensures
    ∙ ap (λ (n : ℕ). replicate n n) (c.formulas.ensures ∙ sym (length-told c.args.self.now))

pub loop-time-preserved : goal.loop-time-preserved
loop-time-preserved c =
    let w = c.args.waiting in
    let asks = asks_at c.args.asks.now in
    let edges = told_edges c.args.self.now in
    c.in_ok-turns-2.ensures
    ∙ ap (turns_after w asks edges) (c.deref.ensures.value ∙ c.loop-time.invariant)
    ∙ ap (turns_within w asks edges) (sym (add-one c.loop-time._time))

pub returns : goal.returns
returns c =
    let w = c.args.waiting in
    let asks = asks_at c.args.asks.now in
    let edges = told_edges c.args.self.now in
    let all : c.loop-time._time ≡ c.args.self.now.formulas =
    omega (arith, c.formulas-time-end.ensures) in
    let same : c.loop-time.turns.items ≡ turns_within w asks edges (length edges) =
    c.loop-time.invariant
    ∙ ap (turns_within w asks edges) (all ∙ sym (length-told c.args.self.now)) in
    subst (AreTurns w asks edges) (sym same) (turns_stand w asks edges)
