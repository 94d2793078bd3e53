use Rattle.std.proofs.Common.{refl}
use Rattle.input_package.specs.Told.{told_state}
use Rattle.std.proofs.lemmas.Result.{err_from_is_err_and}
use Rattle.xlsx_open.specs.Words.{OpeningCause}
use Rattle.xlsx_commands.proofs.MemoryCalls.{memory_fails}
use Rattle.xlsx_commands.proofs.book_lists.metadata_beside.Goals as goal

pub returns-in_err-opened-clause-err : goal.returns-in_err-opened-clause-err
returns-in_err-opened-clause-err c =
    let handed = err_from_is_err_and c.from_residual.result c.from_residual.ensures.1 in
    let cause = OpeningCause c.args.package.parts in
    rw (handed.1, handed.2)
    (memory_fails cause cause (told_state c.args.package) c.open-opened.new.xml.source
    c.in_err-opened.field-0.0 (c.into_package-package.result, c.into_package-package.ensures) refl
    (λ own. own)
    (rw c.new-xml.ensures at c.in_err-opened.ensures.err))
