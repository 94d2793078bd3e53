use Rattle.std.proofs.Common.{◌≡◌, ◌++◌, ◌∙◌, [], ap, append-nil, rules, sym}
use Rattle.xlsx_precedents.specs.Spans.{numbers_having, spans_told}
use Rattle.xlsx_precedents.proofs.Searching.{having_left, having_none, steps_both, steps_left}
use Rattle.xlsx_precedents.proofs.spans.+push_having.Goals as goal

pub returns-then-own-pos-clause-having : goal.returns-then-own-pos-clause-having
returns-then-own-pos-clause-having g t c =
    let numbers = c.args.numbers.now.items in
    let none : numbers_having c.args.pos (spans_told c.args.spans.now) ≡ [] =
    having_none c.args.pos c.args.spans.now c.in-Some.own
    (c.in-Some.ensures.searched c.requires) (search rules) in
    sym (append-nil numbers) ∙ ap (λ l. numbers ++ l) (sym none)

pub returns-in_err-push_having-clause-steps : goal.returns-in_err-push_having-clause-steps
returns-in_err-push_having-clause-steps g t c =
    steps_left c.args.pos.0 c.args.steps.now c.tick.new.self c.push_having.new.steps
    c.args.spans.now c.in-Some.own c.in-Some.ensures.halves (c.in-Some.ensures.searched c.requires)
    (search rules) c.tick.ensures c.push_having.ensures.steps

pub returns-then-pos-own-clause-having : goal.returns-then-pos-own-clause-having
returns-then-pos-own-clause-having g t c =
    c.in_ok-push_having.ensures.having
    ∙ ap (λ l. c.args.numbers.now.items ++ l)
    (sym (having_left c.args.pos c.args.spans.now c.in-Some.own c.in-Some.ensures.halves c.requires
    (search rules)))

pub returns-then-pos-own-clause-steps : goal.returns-then-pos-own-clause-steps
returns-then-pos-own-clause-steps g t c =
    steps_left c.args.pos.0 c.args.steps.now c.tick.new.self c.push_having.new.steps
    c.args.spans.now c.in-Some.own c.in-Some.ensures.halves (c.in-Some.ensures.searched c.requires)
    (search rules) c.tick.ensures c.push_having.ensures.steps

pub returns-in_err-push-clause-steps : goal.returns-in_err-push-clause-steps
returns-in_err-push-clause-steps g t c =
    steps_left c.args.pos.0 c.args.steps.now c.tick.new.self c.push_having.new.steps
    c.args.spans.now c.in-Some.own c.in-Some.ensures.halves (c.in-Some.ensures.searched c.requires)
    (search rules) c.tick.ensures c.push_having.ensures.steps

pub returns-clause-steps : goal.returns-clause-steps
returns-clause-steps g t c =
    steps_both c.args.pos.0 c.args.steps.now c.tick.new.self c.push_having.new.steps
    c.push_having-2.new.steps c.args.spans.now c.in-Some.own c.in-Some.ensures.halves c.requires
    (c.in-Some.ensures.searched c.requires) (search rules) (search rules) c.tick.ensures
    c.push_having.ensures.steps c.push_having-2.ensures.steps
