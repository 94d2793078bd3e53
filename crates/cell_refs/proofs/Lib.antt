pub mod Inside
pub mod Names
pub mod Parts
pub mod PositionOrder
pub mod PositionParts
pub mod ReadBack
pub mod References
pub mod Scans
