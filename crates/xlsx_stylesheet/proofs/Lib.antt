pub mod Sound
pub mod StyleListsRead
