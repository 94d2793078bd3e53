use Rattle.input_package.specs.Told.{told_state}
use Rattle.std.proofs.Common.{◌∙◌, ap, refl}
use Rattle.std.specs.Result.{result_from_control_flow}
use Rattle.std.proofs.lemmas.Result.{err_from_is_err_and}
use Rattle.xlsx_core.specs.Words.{SheetCause}
use Rattle.xlsx_commands.specs.SampleLines.{sample_name}
use Rattle.xlsx_commands.proofs.OutputLemmas.{err_at}
use Rattle.xlsx_commands.proofs.MemoryCalls.{memory_fails}
use Rattle.xlsx_commands.proofs.sample_lines.sample_lines.Goals as goal

pub returns-in_err-reading-clause-err : goal.returns-in_err-reading-clause-err
returns-in_err-reading-clause-err c =
    let handed = err_from_is_err_and c.from_residual.result c.from_residual.ensures.1 in
    let answered = c.branch-reading.ensures ∙ ap result_from_control_flow c.in_err-reading.is in
    let result = c.read_sheet-result.result.result in
    let fails = err_at result _ _ answered c.read_sheet-result.ensures.answers.err in
    let cause = SheetCause c.args.package.parts sample_name in
    rw (handed.1, handed.2)
    (memory_fails cause cause (told_state c.args.package)
    (told_state c.read_sheet-result.result.package) _ (c.read_sheet-result.result.package, refl)
    refl (λ own. own) fails)
