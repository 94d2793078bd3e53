use Rattle.std.proofs.Common.{◌≡◌, ◌<◌, arith, length, refl, rules, true, false}
use Rattle.std.specs.Prelude.{Some}
use Rattle.std.specs.List.{slice_get}
use Rattle.std.proofs.lemmas.Option.{slice_get_read}
use Rattle.std.proofs.lemmas.Result.{on_ok_weaker}
use Rattle.xlsx_graph.specs.Hulls.{may_meet, meets_all}
use Rattle.xlsx_graph.specs.Tree.{IsTree, fork_count}
use Rattle.xlsx_graph.proofs.Watching.{watches_apart, watches_sons, watches_all}
use Rattle.xlsx_graph.proofs.tree.Tree.+watch_under.Goals as goal

pub returns-then-not-may_meet : goal.returns-then-not-may_meet
returns-then-not-may_meet t c =
    let hulls = c.args.self.now.hulls.items in
    let hull = c.index-hull.result.now in
    let within : c.args.node < length hulls = search rules in
    let at : slice_get hulls c.args.node ≡ Some hull =
    slice_get_read hulls (length hulls) c.args.node hull refl within (search rules) in
    let tree : IsTree c.args.placed.now c.args.self.now.order.items hulls = c.requires in
    let apart : may_meet c.args.area hull ≡ false = search rules in
    watches_apart c.args.placed.now c.args.self.now.order.items hulls c.args.area hull c.args.node
    c.args.links.now tree at apart

pub returns-then-meets_all : goal.returns-then-meets_all
returns-then-meets_all t c =
    let hulls = c.args.self.now.hulls.items in
    let order = c.args.self.now.order.items in
    let hull = c.index-hull.result.now in
    let within : c.args.node < length hulls = search rules in
    let at : slice_get hulls c.args.node ≡ Some hull =
    slice_get_read hulls (length hulls) c.args.node hull refl within (search rules) in
    let tree : IsTree c.args.placed.now order hulls = c.requires in
    let met : meets_all c.args.area hull ≡ true = search rules in
    let fork : c.args.node < fork_count order = omega arith in
    on_ok_weaker c.push.result
    (λ same. watches_all c.args.placed.now order hulls c.args.area hull c.args.node
    c.args.links.now c.push.new.self tree at fork met same)
    (search rules)

pub returns : goal.returns
returns t c =
    let hulls = c.args.self.now.hulls.items in
    let order = c.args.self.now.order.items in
    let within : c.args.node < length hulls = search rules in
    let fork : c.args.node < fork_count order = omega arith in
    on_ok_weaker c.watch_under-2.result
    (λ right. watches_sons c.args.placed.now order c.args.area c.args.node c.args.links.now
    c.watch_under.new.links c.watch_under-2.new.links fork c.in_ok-watch_under.ensures right)
    c.watch_under-2.ensures
