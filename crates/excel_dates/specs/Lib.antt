pub mod CalendarDates
pub mod IsoText
pub mod Moments
pub mod Serials
pub mod Words
