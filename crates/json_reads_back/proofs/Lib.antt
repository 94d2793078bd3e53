pub mod HeldNumbers
pub mod OneLine
pub mod Shallow
