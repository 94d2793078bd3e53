pub mod Counted
pub mod FirstAnswers
mod FirstErrors
pub mod InMemory
mod Through
