use Rattle.std.proofs.Common.{◌≡◌, ◌∙◌, ap, arith, ◌++◌}
use Rattle.calculation_order.specs.Links.{Linked}
use Rattle.xlsx_graph.specs.Tree.{fork_count}
use Rattle.xlsx_graph.proofs.Watching.{forks_all, forks_step}
use Rattle.xlsx_graph.proofs.tree.Tree.push_forks.Goals as goal

pub loop-fork-preserved : goal.loop-fork-preserved
loop-fork-preserved c =
    let first = c.in_ok-push.ensures.ok in
    let second = c.in_ok-push-2.ensures.ok in
    let closed = c.in_ok-close.ensures.ok in
    record {
      formulas = ap (λ (l : Linked). l.formulas) closed ∙ ap (λ (l : Linked). l.formulas) second
          ∙ ap (λ (l : Linked). l.formulas) first ∙ c.loop-fork.invariant.formulas;
      begun = ap (λ (l : Linked). l.begun) closed;
      links = forks_step c.args.self.now.order.items c.args.links.now.links c.loop-fork.links
          c.push.new.self c.push-in-loop-fork.new.self c.close.new.self c.loop-fork.fork
          c.vertex_of.result c.vertex_of-in-loop-fork.result c.loop-fork.invariant.begun
          c.loop-fork.invariant.links first second closed c.vertex_of.ensures
          c.vertex_of-in-loop-fork.ensures;
    }

pub returns-clause-links : goal.returns-clause-links
returns-clause-links c =
    let all : c.loop-fork.fork ≡ fork_count c.args.self.now.order.items = omega arith in
    c.loop-fork.invariant.links
    ∙ ap (λ ls. c.args.links.now.links ++ ls)
    (forks_all c.args.self.now.order.items c.loop-fork.fork all)
