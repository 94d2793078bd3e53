use Rattle.std.proofs.Common.{◌∙◌, ap, refl, sym, arith, ◌<◌, length}
use Rattle.std.proofs.lemmas.Result.{on_ok_weaker}
use Rattle.std.specs.Prelude.{filter}
use Rattle.xlsx_graph.specs.Tree.{meets_at, under}
use Rattle.xlsx_graph.proofs.UnderForks.{under_leaf}
use Rattle.xlsx_graph.proofs.Watching.{watches_as, watches_leaf, watches_none}
use Rattle.xlsx_graph.proofs.tree.Tree.watch_leaf.Goals as goal

pub returns-in-Some : goal.returns-in-Some
returns-in-Some c =
    let order = c.args.self.now.order.items in
    let p = meets_at c.args.placed.now c.args.area in
    let below : c.in-Some.number < length order = c.in-Some.ensures.below in
    on_ok_weaker c.push.result
    (λ same. watches_leaf order c.args.links.now c.push.new.self c.in-Some.number
    (filter p (under order c.args.leaf)) (omega arith) below
    (ap (filter p) (under_leaf order c.args.leaf c.requires.leaf) ∙ c.in-Some.ensures.met) same)
    c.push.ensures.ok

pub returns-in-None : goal.returns-in-None
returns-in-None c =
    let order = c.args.self.now.order.items in
    let p = meets_at c.args.placed.now c.args.area in
    watches_as order c.args.links.now c.args.links.now _ (filter p (under order c.args.leaf))
    (sym (ap (filter p) (under_leaf order c.args.leaf c.requires.leaf) ∙ c.in-None.ensures.met))
    (watches_none order c.args.links.now c.args.links.now refl)
