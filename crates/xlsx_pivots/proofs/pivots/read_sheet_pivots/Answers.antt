use Rattle.std.proofs.Common.{List, map, ap, ◌∙◌}
use Rattle.std.proofs.lemmas.List.{map-append}
use Rattle.xlsx_pivots.specs.PivotTables.{pivot_kept}
use Rattle.xlsx_pivots.specs.declared.pivot_tables.PivotTable.{PivotTable}
use Rattle.xlsx_pivots.proofs.pivots.read_sheet_pivots.Goals as goal

pub returns-clause-kept : goal.returns-clause-kept
returns-clause-kept g c =
    let own = c.push_related.ensures.kept in (
      map pivot_kept own.0,
      ap (λ (all : List PivotTable). map pivot_kept all) own.1
          ∙ map-append pivot_kept c.args.found.now.pivots.items own.0,
    )
