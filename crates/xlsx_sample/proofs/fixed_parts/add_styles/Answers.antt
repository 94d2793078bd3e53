use Rattle.std.proofs.lemmas.Result.{on_ok_weaker}
use Rattle.std.specs.Prelude.{[], codes}
use Rattle.std.proofs.Common.{◌++◌}
use Rattle.xlsx_sample.specs.Sample.{fills_element, formats_element}
use Rattle.written_markup.proofs.Drafted.{part_written, joined_step}
use Rattle.xlsx_sample.proofs.fixed_parts.add_styles.Goals as goal

pub returns : goal.returns
returns c =
    on_ok_weaker c.close.result
    (part_written c.args.builder.now c.begin_part.new.self c.push_formats.new.builder
    c.close.new.self
    (codes "xl/styles.xml") (codes "styleSheet") [] (fills_element ++ formats_element)
    c.in_ok-begin_part.ensures
    (joined_step c.begin_part.new.self c.push_fills.new.builder c.push_formats.new.builder
    fills_element formats_element c.in_ok-push_fills.ensures c.in_ok-push_formats.ensures))
    c.close.ensures
