pub mod Counting
pub mod DayLaws
pub mod Found
pub mod SerialOrder
pub mod SerialSteps
pub mod WholeText
