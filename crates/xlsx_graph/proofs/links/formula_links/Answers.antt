use Rattle.std.proofs.Common.{List, length, rules, subst, take}
use Rattle.std.proofs.lemmas.List.{take_all}
use Rattle.xlsx_graph.specs.Tree.{AreWatched}
use Rattle.xlsx_graph.specs.declared.workbook_graph.Placed.{Placed}
use Rattle.xlsx_graph.proofs.Watching.{watched_next, watched_none}
use Rattle.xlsx_graph.proofs.links.formula_links.Goals as goal

pub loop-own-init : goal.loop-own-init
loop-own-init c =
    watched_none c.args.areas.now c.args.placed.now c.args.tree.now.order.items
    (length c.args.placed.now) c.new-links.result c.new-links.ensures

pub loop-own-preserved : goal.loop-own-preserved
loop-own-preserved c =
    watched_next c.args.areas.now c.args.placed.now c.args.tree.now.order.items
    (length c.args.placed.now) c.loop-own.own-index _ c.loop-own.links c.push_formula.new.links
    (search rules) (search rules) c.loop-own.invariant
    (c.in_ok-push_formula.ensures (length c.args.placed.now)
    (take c.loop-own.own-index c.args.placed.now))

pub returns : goal.returns
returns c =
    subst
    (λ (asking : List Placed). AreWatched c.args.areas.now c.args.placed.now
    c.args.tree.now.order.items (length c.args.placed.now) asking c.loop-own.links)
    (take_all c.loop-own.own-index c.args.placed.now c.loop-own-test.false) c.loop-own.invariant
