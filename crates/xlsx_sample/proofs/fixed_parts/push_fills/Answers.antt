use Rattle.std.proofs.lemmas.Result.{on_ok_weaker}
use Rattle.std.specs.Prelude.{codes, []}
use Rattle.std.proofs.Common.{refl, ◌++◌}
use Rattle.xlsx_sample.specs.Sample.{pattern, plain_fill, yellow_fill}
use Rattle.written_markup.proofs.Drafted.{element_written, three_steps}
use Rattle.xlsx_sample.proofs.fixed_parts.push_fills.Goals as goal

pub returns : goal.returns
returns c =
    let none = plain_fill (pattern (codes "none")) in
    let gray = plain_fill (pattern (codes "gray125")) in
    on_ok_weaker c.close.result
    (element_written c.args.builder.now c.open.new.self c.push_yellow_fill.new.builder
    c.close.new.self (codes "fills") [] [] (none ++ (gray ++ yellow_fill)) c.in_ok-open.ensures refl
    (three_steps c.open.new.self c.push_plain_fill.new.builder c.push_plain_fill-2.new.builder
    c.push_yellow_fill.new.builder none gray yellow_fill c.in_ok-push_plain_fill.ensures
    c.in_ok-push_plain_fill-2.ensures c.in_ok-push_yellow_fill.ensures))
    c.close.ensures
