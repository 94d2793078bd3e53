pub mod LinkEquality
pub mod LinksRead
pub mod MergesRead
