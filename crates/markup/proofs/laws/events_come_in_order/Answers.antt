use Rattle.markup.proofs.InOrder.{events_in_order, no_events}
use Rattle.markup.proofs.laws.events_come_in_order.Goals as goal

pub returns-clause-empty : goal.returns-clause-empty
returns-clause-empty c = no_events

pub returns-clause-first : goal.returns-clause-first
returns-clause-first c = events_in_order
