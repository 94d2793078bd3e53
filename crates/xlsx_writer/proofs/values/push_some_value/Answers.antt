use Rattle.std.proofs.Common.{◌++◌, ◌∙◌, ap}
use Rattle.std.specs.Prelude.{codes}
use Rattle.std.proofs.lemmas.Result.{on_ok_weaker}
use Rattle.cell_data.specs.Words.{value_of_data}
use Rattle.written_markup.specs.Words.{with_events, text_events}
use Rattle.written_markup.proofs.Drafted.{element_written}
use Rattle.xlsx_writer.specs.WrittenSheet.{value_written, value_attributes}
use Rattle.xlsx_writer.proofs.values.push_some_value.Goals as goal

pub returns : goal.returns
returns c =
    let value = value_of_data c.args.value.now in
    let text = value_written c.args.form value in
    on_ok_weaker c.close.result
    (element_written c.args.builder.now c.open.new.self c.push_text.new.builder c.close.new.self
    (codes "v") c.value_attributes.result.now (value_attributes c.args.form value)
    (text_events text) c.in_ok-open.ensures c.value_attributes.ensures
    (c.in_ok-push_text.ensures
    ∙ ap (λ own. with_events c.open.new.self (text_events own))
    (c.as_str.ensures.value ∙ c.in_ok-push_value_text.ensures
    ∙ ap (λ own. own ++ text) c.clear.ensures.bytes)))
    c.close.ensures
