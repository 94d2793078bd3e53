use Rattle.std.proofs.Common.{length, take}
use Rattle.xlsx_graph.specs.Tree.{AreWatched}
use Rattle.xlsx_graph.proofs.links.formula_links.Given as goal

abbrev pub invariant-loop-own : goal.invariant-loop-own
invariant-loop-own l =
    AreWatched l.areas l.placed l.tree.order.items (length l.placed)
    (take l.own-index l.placed) l.links
