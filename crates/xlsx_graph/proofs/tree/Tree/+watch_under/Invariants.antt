use Rattle.std.proofs.Common.{◌+◌, ◌-◌, ◌*◌, length}
use Rattle.xlsx_graph.proofs.tree.Tree.+watch_under.Given as goal

abbrev pub decreases-watch_under : goal.decreases-watch_under
decreases-watch_under l = 2 * length l.self.now.hulls.items + 1 - l.node
