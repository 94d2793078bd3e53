use Rattle.std.proofs.Common.{Some}
use Rattle.part_events.specs.Words.{Element}
use Rattle.xlsx_sections.proofs.ElementsRead.{keeps_none}
use Rattle.xlsx_sections.proofs.ElementsSaid.{found_there}
use Rattle.xlsx_sections.proofs.Failing.{given_back}
use Rattle.xlsx_pivot_cache.specs.CacheFields.{fields_kept}
use Rattle.xlsx_pivot_cache.specs.CacheRecords.{records_name, row_kept, is_record}
use Rattle.xlsx_pivot_cache.proofs.RowsRead.{next_stopped, record_taken, record_refused}
use Rattle.xlsx_pivot_cache.proofs.rows.next_record.Goals as goal

pub returns-in_err-_at-clause-err : goal.returns-in_err-_at-clause-err
returns-in_err-_at-clause-err g c =
    let old = c.args.xml.now in
    let new = c.next_element_in.new.xml in
    given_back _ c.from_residual.result c.from_residual.ensures.1
    (next_stopped (fields_kept c.args.fields.now) c.args.base old new c.in_err-_at.field-0.0
    (c.in_err-_at.ensures.refused old (λ (element : Element). Some records_name)
    (keeps_none is_record c.args.base old c.requires.reading c.requires.within))
    c.in_err-_at.ensures.cut)

pub returns-in_err-row-clause-err : goal.returns-in_err-row-clause-err
returns-in_err-row-clause-err g c =
    let old = c.args.xml.now in
    let new = c.read_record.new.xml in
    let found = found_there {wanted = is_record} c.in-Some.is
    (keeps_none is_record c.args.base old c.requires.reading c.requires.within)
    c.in_ok-_at.ensures.step in
    given_back _ c.from_residual-in_err-row.result c.from_residual-in_err-row.ensures.1
    (record_refused (fields_kept c.args.fields.now) new c.in_err-row.field-0.0 found.2
    c.in_err-row.ensures.err)

pub returns-clause-row : goal.returns-clause-row
returns-clause-row g c =
    let old = c.args.xml.now in
    let found = found_there {wanted = is_record} c.in-Some.is
    (keeps_none is_record c.args.base old c.requires.reading c.requires.within)
    c.in_ok-_at.ensures.step in
    record_taken (fields_kept c.args.fields.now) (row_kept c.in_ok-row.row.items) found.2
    c.in_ok-row.ensures.reads c.in_ok-row.ensures.row
