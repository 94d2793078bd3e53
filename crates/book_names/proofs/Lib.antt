pub mod Blanks
pub mod Keeping
pub mod Looking
pub mod PartEnds
pub mod Selecting
