-- What the sheets of a written workbook share.
use Rattle.std.specs.Prelude.{[], true}
use Rattle.xlsx_open.specs.Words.{SharedSaid}
use Rattle.round_trip.specs.ReadStyles.{written_styles}
use Rattle.round_trip.specs.ReadValues.{written_formats}

-- what the sheets of a written package share: no strings, the default theme, and the styles that
-- are written
abbrev pub written_shared : SharedSaid
written_shared = record {
  strings = [];
  theme_defaulted = true;
  formats = written_formats;
  styles = written_styles;
}
