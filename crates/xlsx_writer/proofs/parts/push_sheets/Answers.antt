use Rattle.std.proofs.Common.{◌∙◌, ap, refl}
use Rattle.std.proofs.lemmas.Result.{on_ok_weaker}
use Rattle.std.specs.Prelude.{codes, []}
use Rattle.written_markup.specs.Words.{element, with_events}
use Rattle.written_markup.proofs.Drafted.{element_written}
use Rattle.xlsx_writer.specs.WrittenSheet.{sheet_attributes}
use Rattle.xlsx_writer.proofs.parts.push_sheets.Goals as goal

pub returns : goal.returns
returns c =
    let attributes = sheet_attributes c.args.sheet_name.now in
    on_ok_weaker c.close.result
    (element_written c.args.builder.now c.open.new.self c.push_empty.new.self c.close.new.self
    (codes "sheets") [] [] (element (codes "sheet") attributes []) c.in_ok-open.ensures refl
    (c.in_ok-push_empty.ensures
    ∙ ap (λ own. with_events c.open.new.self (element (codes "sheet") own []))
    (c.as_str.ensures.value ∙ c.in_ok-put_sheet_attributes.ensures)))
    c.close.ensures
