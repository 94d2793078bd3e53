use Rattle.std.proofs.Common.{◌≡◌, [], rules, subst, sym}
use Rattle.std.proofs.lemmas.Result.{on_ok_weaker}
use Rattle.xlsx_precedents.specs.Spans.{KeepsSpans}
use Rattle.xlsx_precedents.proofs.Halving.{keeps_around, keeps_none}
use Rattle.xlsx_precedents.proofs.spans.+push_halved.Goals as goal

pub returns-in_default : goal.returns-in_default
returns-in_default t c =
    let out = c.args.out.now.items in
    let none : c.args.sorted.now ≡ [] = search rules in
    subst (KeepsSpans out out) (sym none) (keeps_none out)

pub returns : goal.returns
returns t c =
    on_ok_weaker c.push_halved-2.result
    (λ right. keeps_around c.args.out.now.items c.push_halved.new.out.items
    c.push.new.self.items c.push_halved-2.new.out.items c.args.sorted.now c.in-Some.own _
    c.in-Some.ensures.halves c.in_ok-push_halved.ensures c.in_ok-push.ensures.items right
    (search rules)
    c.greatest_row.ensures)
    c.push_halved-2.ensures
