use Rattle.std.proofs.Common.{refl, rules}
use Rattle.xlsx_graph.proofs.Watching.{watches_more, watches_none}
use Rattle.xlsx_graph.proofs.tree.Tree.watch.Goals as goal

pub loop-area-init : goal.loop-area-init
loop-area-init c = watches_none c.args.self.now.order.items c.args.links.now c.args.links.now refl

pub loop-area-preserved : goal.loop-area-preserved
loop-area-preserved c =
    watches_more c.args.placed.now c.args.self.now.order.items c.args.areas.now
    c.loop-area.area-index _ c.args.links.now c.loop-area.links c.watch_area.new.links
    (search rules) (search rules) c.loop-area.invariant c.in_ok-watch_area.ensures
