pub mod ElementsTold
pub mod FontErrors
pub mod Nearest
pub mod Orders
pub mod Shades
pub mod Sides
pub mod Sizes
pub mod StepErrors
