use Rattle.std.proofs.lemmas.Result.{on_ok_weaker}
use Rattle.std.specs.Prelude.{codes, []}
use Rattle.std.proofs.Common.{refl}
use Rattle.written_markup.specs.Words.{element, attribute}
use Rattle.xlsx_sample.specs.Sample.{pattern}
use Rattle.written_markup.proofs.Drafted.{element_written}
use Rattle.xlsx_sample.proofs.fixed_parts.push_yellow_pattern.Goals as goal

pub returns : goal.returns
returns c =
    on_ok_weaker c.close.result
    (element_written c.args.builder.now c.open.new.self c.push_empty.new.self c.close.new.self
    (codes "patternFill") (pattern (codes "solid")) (pattern (codes "solid"))
    (element (codes "fgColor") (attribute (codes "rgb") (codes "FFFFFF00")) []) c.in_ok-open.ensures
    refl c.in_ok-push_empty.ensures)
    c.close.ensures
