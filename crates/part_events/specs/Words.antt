-- The words of this crate that clauses above it cite, passed on from one place. Declares nothing.
pub use Rattle.part_events.specs.Event.{Event, IsStartAnd, Leaf, Tag, char_data, end, entity_ref}
pub use Rattle.part_events.specs.Event.{event_of, flaw, is_flaw, is_start, leaf, other, start}
pub use Rattle.part_events.specs.Event.{tag_of, text}
pub use Rattle.part_events.specs.JoinedText.{IsFrontOf, PutsFront, TextFails, character_text}
pub use Rattle.part_events.specs.JoinedText.{event_text, is_unknown, joined_text, unknown_entity}
pub use Rattle.part_events.specs.Lending.{LentFails}
pub use Rattle.part_events.specs.Memory.{Contents, closed, part_at, state_of, taken_of, with_event}
pub use Rattle.part_events.specs.Nesting.{OpenStart, closes, ends_in, goes_on, open_name}
pub use Rattle.part_events.specs.Nesting.{open_start, starts_in, whole, whole_rest}
pub use Rattle.part_events.specs.Package.{AdvanceCounts, Advances, CountsUp, HasCause, KeepsFaults}
pub use Rattle.part_events.specs.Package.{LeavesPackage, NeverFalls, OpenCounts, Opens}
pub use Rattle.part_events.specs.Package.{PackageState, Part, Refuses, RisesByOne, SameParts, Uses}
pub use Rattle.part_events.specs.Package.{UsesPackage, event_count, folded, folded_byte, part_of}
pub use Rattle.part_events.specs.PartNames.{FindsParts, place_by, place_of}
pub use Rattle.part_events.specs.Reading.{BreaksAt, IsAtElement, IsAtEnd, IsEnclosed, IsReading}
pub use Rattle.part_events.specs.Reading.{IsReadingElement, IsTracked, LeavesPart, MovesForward}
pub use Rattle.part_events.specs.Reading.{OpenFails, PassesElement, Reading, ReadsElement, ReadsOn}
pub use Rattle.part_events.specs.Reading.{ReadsPart, SamePart, Skips, StepsAhead, TakesEvent, ahead}
pub use Rattle.part_events.specs.Reading.{events_of, names_behind}
pub use Rattle.part_events.specs.Section.{Element, PlacedTag, behind, behind_start, children}
pub use Rattle.part_events.specs.Section.{content, element_of, is_any, is_closed, is_named}
pub use Rattle.part_events.specs.Section.{outermost, outermost_from, starts_by, unclosed}
pub use Rattle.part_events.specs.Section.{unclosed_from}
pub use Rattle.part_events.specs.Stored.{IsPiece, between}
pub use Rattle.part_events.specs.StreamFaults.{flaw_description, markup_text, of_package}
pub use Rattle.part_events.specs.Walk.{ClosesSection, FindsElement, IsNextElement, IsNextStart}
pub use Rattle.part_events.specs.Walk.{SameAhead, StandsAt, StandsInside, StepsInside, TakesInside}
pub use Rattle.part_events.specs.Walk.{TakesLastEnd, WalkFails, behind_section, element_at, inside}
pub use Rattle.part_events.specs.Walk.{is_closed_ahead, section_ahead, section_behind, section_end}
