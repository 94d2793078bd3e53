use Rattle.std.proofs.Common.{◌∙◌, ap, map, sym, ℕ}
use Rattle.calculation_order.specs.Components.{first_among, first_around}
use Rattle.calculation_order.specs.Edges.{first_together, numbers_below}
use Rattle.calculation_order.proofs.FirstOnCycles.{first_is, first_plainly}
use Rattle.calculation_order.proofs.Members.{map_same, of_below}
use Rattle.calculation_order.proofs.links.Links.cycles.Goals as goal

pub returns-then-are_certain : goal.returns-then-are_certain
returns-then-are_certain c edges same =
    let linked = c.args.self.now in
    c.in_ok-firsts_around.ensures
    ∙ sym (ap (λ (n : ℕ). map (first_together edges) (numbers_below n)) same.size
    ∙ map_same (first_together edges)
    (first_around linked.links c.in_ok-found.found linked.formulas)
    (numbers_below linked.formulas) (λ n is. first_is linked c.requires c.in_ok-found.found
    (sym c.are_certain.ensures ∙ c.if-are_certain.true) edges same n
    (of_below linked.formulas n is)))

pub returns : goal.returns
returns c edges same =
    let linked = c.args.self.now in
    c.in_ok-firsts_plainly.ensures
    ∙ sym (ap (λ (n : ℕ). map (first_together edges) (numbers_below n)) same.size
    ∙ map_same (first_together edges) (first_among linked) (numbers_below linked.formulas)
    (λ n is. first_plainly linked c.requires edges same n (of_below linked.formulas n is)))
