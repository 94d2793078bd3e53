use Rattle.tests_calls.proofs.shown.size_of_values.Goals as goal

pub returns-clause-ok : goal.returns-clause-ok
returns-clause-ok g c = λ told. record {
  read = c.in_ok-range.range;
  is = c.in_ok-range.ensures.reads told;
  shows = c.get_size.ensures;
}
