use Rattle.std.proofs.lemmas.Result.{err_from_is_err_and}
use Rattle.xlsx_formats.proofs.settings.SettingsKeeps.take.Goals as goal

pub returns-in_err-change_setting-clause-err : goal.returns-in_err-change_setting-clause-err
returns-in_err-change_setting-clause-err c =
    let p = err_from_is_err_and c.from_residual.result c.from_residual.ensures.1 in
    rw (p.1, p.2) (λ i behind. c.in_err-change_setting.ensures behind)
