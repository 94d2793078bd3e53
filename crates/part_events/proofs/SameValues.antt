-- Comparisons of start tags and of events hold exactly of those with the same texts.
use Rattle.std.proofs.Common.{rules}
use Rattle.equalities.specs.Equality.{IsEqualityBy}
use Rattle.part_events.specs.Event.{tag_of, event_of}
use Rattle.part_events.specs.contracts.event.PartEventPartialEq.TheImpl as event
use Rattle.part_events.specs.contracts.event.StartTagPartialEq.TheImpl as tag

pub of_tag : IsEqualityBy tag_of tag.ghosts.eq
of_tag a b = search rules

pub of_event : IsEqualityBy event_of event.ghosts.eq
of_event a b = search rules
