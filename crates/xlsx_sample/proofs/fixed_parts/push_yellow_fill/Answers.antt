use Rattle.std.proofs.lemmas.Result.{on_ok_weaker}
use Rattle.std.specs.Prelude.{codes, []}
use Rattle.std.proofs.Common.{refl}
use Rattle.xlsx_sample.specs.Sample.{yellow_pattern}
use Rattle.written_markup.proofs.Drafted.{element_written}
use Rattle.xlsx_sample.proofs.fixed_parts.push_yellow_fill.Goals as goal

pub returns : goal.returns
returns c =
    on_ok_weaker c.close.result
    (element_written c.args.builder.now c.open.new.self c.push_yellow_pattern.new.builder
    c.close.new.self
    (codes "fill") [] [] yellow_pattern c.in_ok-open.ensures
    refl c.in_ok-push_yellow_pattern.ensures)
    c.close.ensures
