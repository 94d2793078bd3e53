use Rattle.tests_calls.proofs.shown.count_of_formulas.Goals as goal

pub returns-clause-ok : goal.returns-clause-ok
returns-clause-ok g c = λ told. record {
  read = c.in_ok-formulas.formulas;
  is = c.in_ok-formulas.ensures.reads told;
  shows = c.used_count.ensures;
}
