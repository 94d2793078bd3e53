use Rattle.std.proofs.Common.{◌<◌, ◌-◌, rules}
use Rattle.std.proofs.lemmas.Result.{err_from_is_err_and}
use Rattle.xlsx_graph.specs.Kept.{Spends}
use Rattle.xlsx_graph.proofs.Ranging.{spend_refused, word_ok, word_large}
use Rattle.xlsx_graph.proofs.findings.Findings.join.Goals as goal

pub returns-in_err-spend-in-None-clause-too_large :
    goal.returns-in_err-spend-in-None-clause-too_large
returns-in_err-spend-in-None-clause-too_large c =
    let p =
    err_from_is_err_and c.from_residual-in_err-spend-in-None.result
    c.from_residual-in_err-spend-in-None.ensures.1 in
    let less : c.args.self.now.named_left < c.args.start.named - c.args.middle.named =
    search rules in
    rw p.1 (spend_refused p.0 c.args.self.now c.args.start c.args.middle c.in-None.ensures less)

pub returns-in_ok-spend-in-None-clause-ok : goal.returns-in_ok-spend-in-None-clause-ok
returns-in_ok-spend-in-None-clause-ok c =
    let spends : Spends c.args.self.now c.spend.new.self
    (c.args.start.named - c.args.middle.named) =
    search rules in
    word_ok c.push_word.result c.args.self.now c.spend.new.self c.push_word.new.self c.args.start
    c.args.middle c.in-None.ensures spends c.push_word.ensures.gives

pub returns-in_ok-spend-in-None-clause-too_large :
    goal.returns-in_ok-spend-in-None-clause-too_large
returns-in_ok-spend-in-None-clause-too_large c =
    let spends : Spends c.args.self.now c.spend.new.self
    (c.args.start.named - c.args.middle.named) =
    search rules in
    word_large c.push_word.result c.args.self.now c.spend.new.self c.push_word.new.self
    c.args.start c.args.middle c.in-None.ensures spends c.push_word.ensures.gives
