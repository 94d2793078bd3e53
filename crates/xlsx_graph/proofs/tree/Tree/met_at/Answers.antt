use Rattle.std.proofs.Common.{◌≡◌, ◌∙◌, ◌∷◌, [], ap, arith, cond, length, rules, sym, ◌-◌}
use Rattle.std.specs.Prelude.{None, Some}
use Rattle.std.specs.List.{slice_get}
use Rattle.xlsx_graph.proofs.HullsHold.{leaf_there, met_leaf}
use Rattle.xlsx_graph.proofs.UnderForks.{leaf_below}
use Rattle.xlsx_graph.proofs.tree.Tree.met_at.Goals as goal

pub returns-then-meets-clause-met : goal.returns-then-meets-clause-met
returns-then-meets-clause-met c =
    let order = c.args.self.now.order.items in
    let i = c.args.leaf - length c.args.self.now.hulls.items in
    let m = c.in_ok-number.number in
    let at : slice_get order i ≡ Some m = search rules in
    let own : slice_get c.args.placed.now m ≡ Some c.in_ok-own.own = search rules in
    met_leaf c.args.placed.now order c.args.area c.in_ok-own.own c.args.leaf i m (omega arith) at
    own
    ∙ ap (λ t. cond t (m ∷ []) []) (sym c.meets.ensures ∙ c.if-meets.true)

pub returns-else-meets-clause-met : goal.returns-else-meets-clause-met
returns-else-meets-clause-met c =
    let order = c.args.self.now.order.items in
    let i = c.args.leaf - length c.args.self.now.hulls.items in
    let m = c.in_ok-number.number in
    let at : slice_get order i ≡ Some m = search rules in
    let own : slice_get c.args.placed.now m ≡ Some c.in_ok-own.own = search rules in
    met_leaf c.args.placed.now order c.args.area c.in_ok-own.own c.args.leaf i m (omega arith) at
    own
    ∙ ap (λ t. cond t (m ∷ []) []) (sym c.meets.ensures ∙ c.if-meets.false)

pub returns-in_err-own-clause-met : goal.returns-in_err-own-clause-met
returns-in_err-own-clause-met c =
    let order = c.args.self.now.order.items in
    let i = c.args.leaf - length c.args.self.now.hulls.items in
    let at : slice_get order i ≡ Some c.in_ok-number.number = search rules in
    let none : slice_get c.args.placed.now c.in_ok-number.number ≡ None = search rules in
    absurd (leaf_there c.args.placed.now order i c.in_ok-number.number c.requires.tree.numbers
    c.requires.tree.size at none)

pub returns-then-meets-clause-below : goal.returns-then-meets-clause-below
returns-then-meets-clause-below c =
    let order = c.args.self.now.order.items in
    let i = c.args.leaf - length c.args.self.now.hulls.items in
    let at : slice_get order i ≡ Some c.in_ok-number.number = search rules in
    leaf_below order i c.in_ok-number.number c.requires.tree.numbers at
