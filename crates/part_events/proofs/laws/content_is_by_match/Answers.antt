use Rattle.part_events.proofs.Matches.{closes_at_match, match_closes, open_still}
use Rattle.part_events.proofs.laws.content_is_by_match.Goals as goal

pub returns : goal.returns
returns c = record { closed = closes_at_match; match = match_closes; open_still = open_still }
