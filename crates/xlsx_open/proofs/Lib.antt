pub mod Openings
pub mod Sound
