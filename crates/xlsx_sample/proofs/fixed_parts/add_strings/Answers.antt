use Rattle.std.proofs.lemmas.Result.{on_ok_weaker}
use Rattle.std.specs.Prelude.{[], codes}
use Rattle.std.proofs.Common.{◌++◌}
use Rattle.xlsx_sample.specs.Sample.{string_element}
use Rattle.written_markup.proofs.Drafted.{part_written, three_steps}
use Rattle.xlsx_sample.proofs.fixed_parts.add_strings.Goals as goal

pub returns : goal.returns
returns c =
    let red = string_element (codes "red") in
    let green = string_element (codes "green") in
    let blue = string_element (codes "blue") in
    on_ok_weaker c.close.result
    (part_written c.args.builder.now c.begin_part.new.self c.push_string-3.new.builder
    c.close.new.self
    (codes "xl/sharedStrings.xml") (codes "sst") []
    (red ++ (green ++ blue)) c.in_ok-begin_part.ensures
    (three_steps c.begin_part.new.self c.push_string.new.builder c.push_string-2.new.builder
    c.push_string-3.new.builder red green blue c.in_ok-push_string.ensures
    c.in_ok-push_string-2.ensures c.in_ok-push_string-3.ensures))
    c.close.ensures
