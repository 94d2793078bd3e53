pub mod Input
pub mod MemoryForms
pub mod Program
pub mod Run
pub mod Sink
pub mod Source
pub mod StdForms
