-- The words of this crate that clauses above it cite, passed on from one place. Declares nothing.
pub use Rattle.excel_dates.specs.CalendarDates.{date_of_day, first_day, last_day}
pub use Rattle.excel_dates.specs.IsoText.{date_text, iso_text, padded}
pub use Rattle.excel_dates.specs.Moments.{has_moment, moment_of}
pub use Rattle.excel_dates.specs.Serials.{day_length, is_below, milliseconds_of, nearest_at}
