pub mod Sound
pub mod StringsRead
pub mod Texts
