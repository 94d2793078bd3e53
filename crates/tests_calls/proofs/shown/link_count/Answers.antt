use Rattle.std.proofs.Common.{rules}
use Rattle.tests_calls.proofs.shown.link_count.Goals as goal

pub returns-clause-ok : goal.returns-clause-ok
returns-clause-ok g c = λ told. record {
  read = c.in_ok-links.links.items;
  is = c.in_ok-links.ensures.answers.said told;
  shows = search rules;
}
