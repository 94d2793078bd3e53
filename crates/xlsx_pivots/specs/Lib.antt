pub mod PivotErrors
pub mod PivotParts
pub mod PivotTables
pub mod Pivots
pub mod Singles
pub mod Targets
pub mod Words
