use Rattle.std.proofs.Common.{◌∙◌, ap, sym}
use Rattle.std.proofs.lemmas.Result.{on_ok_weaker}
use Rattle.written_markup.specs.Words.{with_events}
use Rattle.xlsx_writer.specs.WrittenSheet.{properties_by}
use Rattle.xlsx_writer.proofs.parts.push_properties.Goals as goal

pub returns-then-is_1904 : goal.returns-then-is_1904
returns-then-is_1904 c =
    on_ok_weaker c.push_empty.result
    (λ pushed. pushed ∙ ap (λ test. with_events c.args.builder.now (properties_by test))
    (sym c.if-is_1904.true))
    c.push_empty.ensures
