use Rattle.std.proofs.Common.{flat_map, take}
use Rattle.xlsx_graph.specs.Tree.{Watches, asked_of}
use Rattle.xlsx_graph.proofs.tree.Tree.watch.Given as goal

abbrev pub invariant-loop-area : goal.invariant-loop-area
invariant-loop-area l =
    Watches l.self.order.items l.fn.links l.links
    (flat_map (asked_of l.placed l.self.order.items) (take l.area-index l.areas))
