pub mod EscapedLemmas
pub mod Extending
