-- The text of a date, which is appended whole or not at all.
use Rattle.std.proofs.Common.{◌≡◌, ℤ, Bool, refl}
use Rattle.escaped_text.proofs.Extending.{cut_back}
use Rattle.cell_data.specs.declared.value.ExcelDateTimeType.{ExcelDateTimeType}
use Rattle.excel_dates.specs.IsoText.{iso_text, moment_text}
use Rattle.excel_dates.specs.Moments.{moment_of}

-- it is the text of the date's moment
pub text_of_moment : (days : ℤ × ℤ) (kind : ExcelDateTimeType) (is_1904 : Bool)
    → iso_text days kind is_1904 ≡ moment_text days (moment_of days kind is_1904)
unfolding iso_text
text_of_moment days kind is_1904 = refl

pub ruleset whole_text = (cut_back, text_of_moment)
