use Rattle.xlsx_core.proofs.ShownLaws.{one_shown, alike_shown}
use Rattle.xlsx_commands.proofs.RowsPlaced.{same_rows, row_values_alike}
use Rattle.xlsx_commands.proofs.laws.sheets_have_one_text_of_rows.Goals as goal

pub returns : goal.returns
returns c =
    let alike = c.sheets_are_read_alike.ensures.alike in
    let agree = c.sheets_go_by_their_parts.ensures.alike in
    record {
      one = λ parts name asked rows others.
          same_rows parts parts name asked rows others
          (row_values_alike parts parts name (alike parts name) (one_shown parts name));
      alike = λ parts other name asked rows others same.
          same_rows parts other name asked rows others
          (row_values_alike parts other name
          (λ values more formulas further styles again.
          agree parts other name values more formulas further styles again same)
          (λ values more. alike_shown parts other name values more same));
    }
