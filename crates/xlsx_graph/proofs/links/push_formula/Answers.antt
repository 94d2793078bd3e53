use Rattle.std.proofs.lemmas.Result.{on_ok_weaker}
use Rattle.xlsx_graph.specs.Tree.{Watches, asked_by}
use Rattle.xlsx_graph.proofs.Watching.{watched_more}
use Rattle.xlsx_graph.proofs.links.push_formula.Goals as goal

pub returns : goal.returns
returns c =
    let watches : Watches c.args.tree.now.order.items c.args.links.now c.watch.new.links
    (asked_by c.args.areas.now c.args.placed.now c.args.tree.now.order.items c.args.own) =
    c.in_ok-watch.ensures in
    on_ok_weaker c.close.result
    (λ closed. λ count asking before. watched_more c.args.areas.now c.args.placed.now
    c.args.tree.now.order.items count asking c.args.own c.args.links.now c.watch.new.links
    c.close.new.self before watches closed)
    c.close.ensures.ok
