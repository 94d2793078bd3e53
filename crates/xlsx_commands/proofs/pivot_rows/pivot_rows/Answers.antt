use Rattle.std.proofs.Common.{sym}
use Rattle.std.proofs.lemmas.Result.{err_from_is_err_and}
use Rattle.xlsx_pivots.specs.Words.{pivots_kept}
use Rattle.xlsx_commands.specs.CacheRows.{HasCache}
use Rattle.xlsx_commands.proofs.CachesRead.{finding_is_named, cache_is_named}
use Rattle.xlsx_commands.proofs.pivot_rows.pivot_rows.Goals as goal

pub returns-in_err-pivots-clause-err : goal.returns-in_err-pivots-clause-err
returns-in_err-pivots-clause-err c =
    let handed = err_from_is_err_and c.from_residual.result c.from_residual.ensures.1 in
    rw (handed.1, handed.2)
    (finding_is_named c.args.package.parts c.args.sheet.now c.args.name.now
    c.in_err-pivots.field-0.0 c.in_err-pivots.ensures.err)

pub returns-in_err-lines_of_cache-clause-err : goal.returns-in_err-lines_of_cache-clause-err
returns-in_err-lines_of_cache-clause-err c =
    let parts = c.args.package.parts in
    let sheet = c.args.sheet.now in
    let name = c.args.name.now in
    let definitions = c.in-Some.definitions.now in
    let records = c.in-Some.records.now in
    let has : HasCache parts sheet name definitions records = record {
      pivots = pivots_kept c.in_ok-pivots.pivots;
      has = c.in_ok-pivots.ensures.ok;
      paths = sym c.in-Some.ensures;
    } in
    let handed = err_from_is_err_and c.from_residual-in_err-lines_of_cache.result
    c.from_residual-in_err-lines_of_cache.ensures.1 in
    rw (handed.1, handed.2)
    (cache_is_named parts sheet name definitions records c.in_err-lines_of_cache.field-0.0 has
    (rw c.in_ok-pivots.ensures.same at c.in_err-lines_of_cache.ensures.err))
