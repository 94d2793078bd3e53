use Rattle.std.proofs.Common.{◌≡◌, ◌∙◌, length, map, rules, sym}
use Rattle.std.proofs.lemmas.List.{length-map}
use Rattle.xlsx_core.specs.Words.{formula_read}
use Rattle.tests_calls.proofs.shown.formula_total.Goals as goal

pub returns-clause-ok : goal.returns-clause-ok
returns-clause-ok g c = λ told.
    let items = c.in_ok-formulas.formulas.items in
    let count : c.len.result ≡ length items = search rules in
    record {
      read = map formula_read items;
      is = c.in_ok-formulas.ensures.answers.said told;
      shows = count ∙ sym (length-map items formula_read);
    }
