use Rattle.xlsx_graph.proofs.Linking.{are_grouped, are_linked}
use Rattle.xlsx_graph.proofs.links.links_of.Goals as goal

pub returns-clause-grouped : goal.returns-clause-grouped
returns-clause-grouped c =
    let links = c.in_ok-links.links in
    are_grouped c.args.areas.now c.args.placed.now c.in_ok-tree.tree.order.items links
    c.push_forks.new.links
    (record {
      size = c.in_ok-tree.ensures.size;
      numbers = c.in_ok-tree.ensures.numbers;
      watched = c.in_ok-links.ensures;
      formulas = c.in_ok-push_forks.ensures.formulas;
      links = c.in_ok-push_forks.ensures.links;
    })

pub returns-clause-linked : goal.returns-clause-linked
returns-clause-linked c = λ words.
    let links = c.in_ok-links.links in
    are_linked c.args.areas.now words c.args.placed.now c.in_ok-tree.tree.order.items links
    c.push_forks.new.links
    (record {
      size = c.in_ok-tree.ensures.size;
      numbers = c.in_ok-tree.ensures.numbers;
      watched = c.in_ok-links.ensures;
      formulas = c.in_ok-push_forks.ensures.formulas;
      links = c.in_ok-push_forks.ensures.links;
    })
