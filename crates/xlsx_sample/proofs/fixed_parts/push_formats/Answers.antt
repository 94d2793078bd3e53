use Rattle.std.proofs.lemmas.Result.{on_ok_weaker}
use Rattle.std.specs.Prelude.{codes, []}
use Rattle.std.proofs.Common.{refl, ◌++◌}
use Rattle.xlsx_sample.specs.Sample.{format_element}
use Rattle.written_markup.proofs.Drafted.{element_written, joined_step}
use Rattle.xlsx_sample.proofs.fixed_parts.push_formats.Goals as goal

pub returns : goal.returns
returns c =
    let first = format_element (codes "0") in
    let second = format_element (codes "2") in
    on_ok_weaker c.close.result
    (element_written c.args.builder.now c.open.new.self c.push_empty-2.new.self
    c.close.new.self (codes "cellXfs") [] [] (first ++ second) c.in_ok-open.ensures refl
    (joined_step c.open.new.self c.push_empty.new.self c.push_empty-2.new.self first second
    c.in_ok-push_empty.ensures c.in_ok-push_empty-2.ensures))
    c.close.ensures
