use Rattle.std.proofs.Common.{◌∙◌, arith, map}
use Rattle.std.proofs.lemmas.Result.{err_from_is_err_and}
use Rattle.part_events.proofs.Uses.{leaves_then, uses_then}
use Rattle.xlsx_tables.specs.Tables.{loaded_of}
use Rattle.xlsx_core.specs.Words.{formula_read, sheets_of_book}
use Rattle.graph_reading.specs.BookRead.{book_of}
use Rattle.graph_reading.proofs.ReadingFails.{book_behind, events_behind, formulas_made}
use Rattle.graph_reading.proofs.ReadingFails.{formulas_refused, leaves_reading, names_refused}
use Rattle.graph_reading.proofs.ReadingFails.{said_behind, same_sheets, tables_refused}
use Rattle.graph_reading.proofs.ReadingFails.{taken_behind, too_much_named}
use Rattle.graph_reading.proofs.reading.read_graph.Goals as goal

pub returns-in_err-tables-clause-uses : goal.returns-in_err-tables-clause-uses
returns-in_err-tables-clause-uses g c =
    let handed = err_from_is_err_and c.from_residual.result c.from_residual.ensures.1 in
    rw (handed.1, handed.2)
    (leaves_reading c.in_err-tables.field-0.0 (omega arith) c.in_err-tables.ensures.answers.uses)

pub returns-in_err-tables-clause-err : goal.returns-in_err-tables-clause-err
returns-in_err-tables-clause-err g c =
    let handed = err_from_is_err_and c.from_residual.result c.from_residual.ensures.1 in
    rw (handed.1, handed.2)
    (tables_refused c.args.xlsx.now c.args.xlsx.now.xml.source c.read_tables.new.self.xml.source
    c.in_err-tables.field-0.0 c.in_err-tables.ensures.answers.err)

pub returns-in_err-formulas-clause-uses : goal.returns-in_err-formulas-clause-uses
returns-in_err-formulas-clause-uses g c =
    let handed = err_from_is_err_and c.from_residual-in_err-formulas.result
    c.from_residual-in_err-formulas.ensures.1 in
    let first = c.in_ok-tables.ensures in
    let old = c.args.xlsx.now in
    let mid = c.read_tables.new.self in
    let less = events_behind old mid old.xml.source.parts mid.xml.source.parts first.rest
    first.answers.uses.parts.parts in
    rw (handed.1, handed.2)
    (leaves_reading c.in_err-formulas.field-0.0 less
    (leaves_then (omega arith) first.answers.uses c.in_err-formulas.ensures.answers.uses))

pub returns-in_err-formulas-clause-err : goal.returns-in_err-formulas-clause-err
returns-in_err-formulas-clause-err g c =
    let handed = err_from_is_err_and c.from_residual-in_err-formulas.result
    c.from_residual-in_err-formulas.ensures.1 in
    let first = c.in_ok-tables.ensures in
    let old = c.args.xlsx.now in
    let mid = c.read_tables.new.self in
    rw (handed.1, handed.2)
    (formulas_refused old (sheets_of_book mid) old.xml.source mid.xml.source
    c.read_formulas.new.self.xml.source (map loaded_of c.in_ok-tables.tables.items)
    c.in_err-formulas.field-0.0 (same_sheets old mid first.rest) first.answers.uses.parts
    first.answers.said c.in_err-formulas.ensures.answers.err)

pub returns-in_err-graph_of-clause-err : goal.returns-in_err-graph_of-clause-err
returns-in_err-graph_of-clause-err g c =
    let handed = err_from_is_err_and c.from_residual-in_err-graph_of.result
    c.from_residual-in_err-graph_of.ensures.1 in
    let first = c.in_ok-tables.ensures in
    let second = c.in_ok-formulas.ensures in
    let old = c.args.xlsx.now in
    let mid = c.read_tables.new.self in
    let new = c.read_formulas.new.self in
    let same = first.answers.uses.parts in
    let tables = map loaded_of c.in_ok-tables.tables.items in
    let said = map formula_read c.in_ok-formulas.formulas.items in
    rw (handed.1, handed.2)
    (names_refused old old.xml.source new.xml.source c.in_err-graph_of.field-0.0 _
    (λ told. too_much_named old old.xml.source.parts tables said (first.answers.said told)
    (said_behind old mid old.xml.source.parts mid.xml.source.parts said first.rest same.parts
    (second.answers.said (same.is_visible ∙ told))) (book_of new tables)
    (book_behind old mid new tables first.rest second.rest))
    (rw (c.deref.ensures.value, c.deref-2.ensures.value) at c.in_err-graph_of.ensures.large))

pub returns-clause-uses : goal.returns-clause-uses
returns-clause-uses g c =
    let first = c.in_ok-tables.ensures in
    let old = c.args.xlsx.now in
    let mid = c.read_tables.new.self in
    uses_then (events_behind old mid old.xml.source.parts mid.xml.source.parts first.rest
    first.answers.uses.parts.parts) first.answers.uses c.in_ok-formulas.ensures.answers.uses

pub returns-clause-to_end : goal.returns-clause-to_end
returns-clause-to_end g c = λ told.
    let first = c.in_ok-tables.ensures in
    let second = c.in_ok-formulas.ensures in
    let old = c.args.xlsx.now in
    let mid = c.read_tables.new.self in
    let same = first.answers.uses.parts in
    taken_behind old mid old.xml.source.parts mid.xml.source.parts old.xml.source.taken
    mid.xml.source.taken c.read_formulas.new.self.xml.source.taken first.rest same.parts
    (first.answers.to_end told) (second.answers.to_end (same.is_visible ∙ told))

pub returns-clause-reads : goal.returns-clause-reads
returns-clause-reads g c = λ told.
    let first = c.in_ok-tables.ensures in
    let second = c.in_ok-formulas.ensures in
    let old = c.args.xlsx.now in
    let mid = c.read_tables.new.self in
    let new = c.read_formulas.new.self in
    let same = first.answers.uses.parts in
    let tables = map loaded_of c.in_ok-tables.tables.items in
    let said = map formula_read c.in_ok-formulas.formulas.items in
    let made = c.in_ok-graph_of.field-0 in
    let makes = c.in_ok-graph_of.ensures in
    record {
      has =
          formulas_made old old.xml.source.parts tables said (first.answers.said told)
          (said_behind old mid old.xml.source.parts mid.xml.source.parts said first.rest same.parts
          (second.answers.said (same.is_visible ∙ told))) made.book made.graph.formulas
          ((rw c.deref.ensures.value at makes.book)
          ∙ book_behind old mid new tables first.rest second.rest)
          (rw c.deref-2.ensures.value at makes.formulas);
      fits = makes.fits;
    }
