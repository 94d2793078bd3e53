use Rattle.markup.specs.Words.{IsCutting}
use Rattle.tests_files.proofs.markup_tests.told_text.Given as goal

abbrev pub invariant-loop : goal.invariant-loop
invariant-loop l = IsCutting l.text l.cutter
