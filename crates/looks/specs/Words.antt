-- The words of this crate that clauses above it cite, passed on from one place. Declares nothing.
pub use Rattle.looks.specs.Lacking.{IsLacking, if_needed}
pub use Rattle.looks.specs.Leaves.{EventsAsk, in_first_element, in_section, in_section_or, in_whole_part}
pub use Rattle.looks.specs.Leaves.{is_there, needing, of_part, or_absent, said_as}
pub use Rattle.looks.specs.Leaves.{section_or}
pub use Rattle.looks.specs.Look.{HaveSameAt, HaveSameLook, Look, LookCause, PartAsk, and_then, asks}
pub use Rattle.looks.specs.Look.{both, for_each, look_ask, look_exact, look_most, look_paths}
pub use Rattle.looks.specs.Look.{look_said, mapped, paired_said, refuses, says}
