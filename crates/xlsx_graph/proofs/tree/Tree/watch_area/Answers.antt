use Rattle.std.proofs.Common.{◌≡◌, refl, rules, sym, [], true, false}
use Rattle.std.proofs.lemmas.Bool.{cond-false, cond-true}
use Rattle.std.proofs.lemmas.Result.{on_ok_weaker}
use Rattle.xlsx_graph.proofs.Watching.{watches_as, watches_none}
use Rattle.xlsx_graph.proofs.tree.Tree.watch_area.Goals as goal

pub returns-then-not-area : goal.returns-then-not-area
returns-then-not-area c =
    let none : c.args.area.is_valued ≡ false = search rules in
    watches_as c.args.self.now.order.items c.args.links.now c.args.links.now [] _
    (sym (cond-false c.args.area.is_valued _ _ none))
    (watches_none c.args.self.now.order.items c.args.links.now c.args.links.now refl)

pub returns : goal.returns
returns c =
    let valued : c.args.area.is_valued ≡ true = search rules in
    on_ok_weaker c.watch_under.result
    (λ watches. watches_as c.args.self.now.order.items c.args.links.now c.watch_under.new.links _ _
    (sym (cond-true c.args.area.is_valued _ _ valued)) watches)
    c.watch_under.ensures
