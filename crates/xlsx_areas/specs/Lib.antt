pub mod Hyperlinks
pub mod LinkErrors
pub mod MergeErrors
pub mod MergedCells
pub mod Regions
