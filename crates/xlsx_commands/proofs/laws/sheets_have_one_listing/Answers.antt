use Rattle.xlsx_commands.proofs.OneListing.{one_listing}
use Rattle.xlsx_commands.proofs.laws.sheets_have_one_listing.Goals as goal

pub returns : goal.returns
returns c =
    let alike = c.sheets_are_read_alike.ensures.alike in
    let agree = c.sheets_go_by_their_parts.ensures.alike in
    record {
      one = λ parts name lines others.
          one_listing parts parts name lines others (alike parts name);
      alike = λ parts other name lines others same.
          one_listing parts other name lines others
          (λ values more formulas further styles again.
          agree parts other name values more formulas further styles again same);
    }
