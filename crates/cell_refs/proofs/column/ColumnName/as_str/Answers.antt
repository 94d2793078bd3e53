use Rattle.cell_refs.proofs.Names.{IsUtf8-from_capitals, ok_from_no_err}
use Rattle.cell_refs.proofs.column.ColumnName.as_str.Goals as goal

-- capitals are text, so `from_utf8` takes them
pub unwrap-requires : goal.unwrap-requires
unwrap-requires c = ok_from_no_err c.from_utf8.result _ _ _ c.from_utf8.ensures.cases
    (IsUtf8-from_capitals _ c.self.invariant.2)
