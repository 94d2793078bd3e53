use Rattle.std.proofs.Common.{◌≡◌, ◌-◌, ◌≤◌, arith, length, rules, subst, sym, true}
use Rattle.std.specs.Prelude.{None, Some}
use Rattle.std.specs.List.{slice_get}
use Rattle.xlsx_graph.specs.Tree.{fork_count, is_hull, under}
use Rattle.xlsx_graph.specs.declared.hulls.Hull.{Hull}
use Rattle.xlsx_graph.proofs.HullsHold.{leaf_none, leaf_own, leaf_there}
use Rattle.xlsx_graph.proofs.hulls.node_hull.Goals as goal

pub returns-in_default : goal.returns-in_default
returns-in_default c =
    let leaf : fork_count c.args.order.now ≤ c.args.node = omega arith in
    let i = c.args.node - length c.args.hulls.now in
    let none : slice_get c.args.order.now i ≡ None = search rules in
    leaf_none c.args.placed.now c.args.order.now _ c.args.node i leaf (omega arith) none

pub returns-in-Some-placed_at : goal.returns-in-Some-placed_at
returns-in-Some-placed_at c =
    let leaf : fork_count c.args.order.now ≤ c.args.node = omega arith in
    let i = c.args.node - length c.args.hulls.now in
    let m = c.in-Some.number in
    let at : slice_get c.args.order.now i ≡ Some m = search rules in
    let own : slice_get c.args.placed.now m ≡ Some c.in-Some-placed_at.own = search rules in
    subst
    (λ (h : Hull). is_hull c.args.placed.now h (under c.args.order.now c.args.node) ≡ true)
    (sym c.corners_of.ensures)
    (leaf_own c.args.placed.now c.args.order.now c.in-Some-placed_at.own c.args.node i m leaf
    (omega arith) at own)

pub returns-in-None : goal.returns-in-None
returns-in-None c =
    let i = c.args.node - length c.args.hulls.now in
    let at : slice_get c.args.order.now i ≡ Some c.in-Some.number = search rules in
    let none : slice_get c.args.placed.now c.in-Some.number ≡ None = search rules in
    absurd (leaf_there c.args.placed.now c.args.order.now i c.in-Some.number c.requires.numbers
    c.requires.size at none)
