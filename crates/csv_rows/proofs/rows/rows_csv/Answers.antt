use Rattle.csv_rows.specs.RowsText.{rows_text}
use Rattle.csv_rows.proofs.rows.rows_csv.Goals as goal

pub returns-clause-rows : goal.returns-clause-rows
unfolding rows_text
returns-clause-rows c = rw c.names_given.ensures at c.in_ok-written_rows.ensures
