use Rattle.std.proofs.Common.{◌-◌, ◌<◌, arith, ◌∙◌}
use Rattle.std.proofs.lemmas.List.{length-set}
use Rattle.xlsx_graph.specs.Tree.{fork_count}
use Rattle.xlsx_graph.proofs.HullsHold.{hulls_step}
use Rattle.xlsx_graph.proofs.hulls.hulls_of.Goals as goal

pub forks-preserved : goal.forks-preserved
forks-preserved c =
    let k = c.forks.fork - 1 in
    let fork : k < fork_count c.args.order.now = omega arith in
    record {
      count = length-set c.forks.hulls.items k c.joined_hull.result ∙ c.forks.invariant.count;
      within = omega arith;
      have = hulls_step c.args.placed.now c.args.order.now c.forks.hulls.items c.forks.fork k
          c.node_hull-left.result c.node_hull-right.result c.joined_hull.result (omega arith)
          c.forks.invariant.count fork c.forks.invariant.have c.joined_hull.ensures
          c.node_hull-left.ensures c.node_hull-right.ensures;
    }
