pub mod Denoting
pub mod Evaluation
pub mod Lines
pub mod Reading
pub mod TokenView
pub mod Tokens
pub mod Trees
pub mod Verdicts
