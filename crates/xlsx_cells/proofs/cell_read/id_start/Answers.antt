use Rattle.std.proofs.lemmas.Result.{err_from_is_err_and}
use Rattle.part_events.specs.Words.{tag_of}
use Rattle.xlsx_cells.proofs.CellsRead.{id_start_refused}
use Rattle.xlsx_cells.proofs.cell_read.id_start.Goals as goal

pub returns-in_err-style_id-clause-err : goal.returns-in_err-style_id-clause-err
returns-in_err-style_id-clause-err c =
    let p = err_from_is_err_and c.from_residual.result c.from_residual.ensures.1 in
    rw (p.1, p.2)
    (id_start_refused c.args.wants (tag_of c.args.tag) c.in_err-style_id.field-0.0 c.if-wants.true
    c.in_err-style_id.ensures.err)
