use Rattle.std.proofs.Common.{◌∙◌, refl, ap, sym}
use Rattle.std.proofs.lemmas.Result.{on_ok_weaker}
use Rattle.written_markup.specs.Words.{with_events}
use Rattle.xlsx_writer.specs.WrittenSheet.{style_behind}
use Rattle.xlsx_writer.proofs.parts.push_style_behind.Goals as goal

pub returns-in-WorkbookFile : goal.returns-in-WorkbookFile
returns-in-WorkbookFile c =
    on_ok_weaker c.push.result
    (λ pushed. pushed ∙ (rw (c.start.ensures, c.start-in-WorkbookFile.ensures) refl)
    ∙ ap (λ form. with_events c.args.builder.now (style_behind form)) (sym c.in-WorkbookFile.is))
    c.push.ensures
