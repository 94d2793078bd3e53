pub mod LinesCut
pub mod LinesRead
