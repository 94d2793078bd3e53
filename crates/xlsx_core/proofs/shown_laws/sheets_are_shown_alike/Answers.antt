use Rattle.xlsx_core.proofs.ShownLaws.{shown_where_read, read_where_shown, one_shown, alike_shown}
use Rattle.xlsx_core.proofs.shown_laws.sheets_are_shown_alike.Goals as goal

pub returns : goal.returns
returns c =
    record {
      onward = shown_where_read;
      back = read_where_shown;
      one = one_shown;
      alike = alike_shown;
    }
