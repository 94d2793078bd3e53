use Rattle.std.proofs.Common.{◌≡◌, ◌∙◌, length, map, rules, sym}
use Rattle.std.proofs.lemmas.List.{length-map}
use Rattle.xlsx_tables.specs.Tables.{loaded_of}
use Rattle.tests_calls.proofs.shown.table_total.Goals as goal

pub returns-clause-ok : goal.returns-clause-ok
returns-clause-ok g c = λ told.
    let items = c.in_ok-tables.tables.items in
    let count : c.len.result ≡ length items = search rules in
    record {
      read = map loaded_of items;
      is = c.in_ok-tables.ensures.answers.said told;
      shows = count ∙ sym (length-map items loaded_of);
    }
