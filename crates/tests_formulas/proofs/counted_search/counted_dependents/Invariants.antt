use Rattle.tests_formulas.proofs.counted_search.counted_dependents.Given as goal

abbrev pub ghosts-counted_by : goal.ghosts-counted_by
ghosts-counted_by a = record { name = a.blank.name; parts = a.blank.parts }
