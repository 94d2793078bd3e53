use Rattle.xlsx_pivot_cache.specs.CacheFields.{fields_kept}
use Rattle.xlsx_pivot_cache.proofs.FieldsRead.{KeepsFields}
use Rattle.xlsx_pivot_cache.proofs.fields.fields_in.Given as goal

abbrev pub invariant-fields : goal.invariant-fields
invariant-fields g l =
    let old = l.fn.xml in
    let now = l.xml in
    KeepsFields (fields_kept l.fields.items) old now

abbrev pub decreases-fields : goal.decreases-fields
decreases-fields g l = l.xml.source.left
