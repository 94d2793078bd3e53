use Rattle.std.proofs.Common.{refl}
use Rattle.xlsx_sections.proofs.Kept.{or_earlier-or_later}
use Rattle.xlsx_workbook.proofs.sheet_element.keep_epoch.Goals as goal

pub returns-in-Some-clause-ok : goal.returns-in-Some-clause-ok
returns-in-Some-clause-ok c =
    λ behind others. or_earlier-or_later _ _ _ others
    (rw (c.in_ok-epoch.ensures behind, c.in-Some.is) refl)

pub returns-in-None-clause-ok : goal.returns-in-None-clause-ok
returns-in-None-clause-ok c =
    λ behind others. or_earlier-or_later _ _ _ others
    (rw (c.in_ok-epoch.ensures behind, c.in-None.is) refl)
