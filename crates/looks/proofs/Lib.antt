pub mod Alike
pub mod Answered
pub mod Called
pub mod Sound
