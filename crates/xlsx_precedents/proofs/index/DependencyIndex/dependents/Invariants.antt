use Rattle.xlsx_precedents.proofs.index.DependencyIndex.dependents.Given as goal

abbrev pub ghosts-dependents_uncounted : goal.ghosts-dependents_uncounted
ghosts-dependents_uncounted a = record { name = a.blank.name; parts = a.blank.parts }
