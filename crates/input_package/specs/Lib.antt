pub mod Reading
pub mod Told
pub use Rattle.part_events.specs.Package
pub use Rattle.part_events.specs.Event
