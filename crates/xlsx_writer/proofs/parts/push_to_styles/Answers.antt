use Rattle.std.proofs.Common.{◌∙◌, ap, sym}
use Rattle.std.proofs.lemmas.Result.{on_ok_weaker}
use Rattle.written_markup.specs.Words.{with_events}
use Rattle.xlsx_writer.specs.WrittenSheet.{to_styles}
use Rattle.xlsx_writer.proofs.parts.push_to_styles.Goals as goal

pub returns-in-WorkbookFile : goal.returns-in-WorkbookFile
returns-in-WorkbookFile c =
    on_ok_weaker c.push_empty.result
    (λ pushed. pushed
    ∙ ap (λ form. with_events c.args.builder.now (to_styles form)) (sym c.in-WorkbookFile.is))
    c.push_empty.ensures
