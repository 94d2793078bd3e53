use Rattle.std.proofs.Common.{length, suc}
use denote.Shadow.{shadow}
use denote.Text.{Utf8}
use Rattle.book_names.specs.Structured.{selected_within, first_part}
use Rattle.book_names.specs.Told.{table_told}
use Rattle.book_names.specs.declared.rows.RowSpan.TheVariants.{Unsaid}
use Rattle.book_names.proofs.Selecting.{Selects}
use Rattle.book_names.proofs.selection.selected.Given as goal

abbrev pub invariant-loop-part : goal.invariant-loop-part
invariant-loop-part l = record {
  utf8 : shadow (Utf8 l.rest);
  selects : Selects (table_told l.fn.table) l.fn.row l.rows l.rest
      (selected_within (table_told l.fn.table) l.fn.row (suc (length l.fn.text)) Unsaid
      (first_part l.fn.text));
}

abbrev pub decreases-loop-part : goal.decreases-loop-part
decreases-loop-part l = length l.rest
