use Rattle.std.proofs.Common.{rules}
use Rattle.xlsx_pivots.proofs.pivot_parts.name_at.Goals as goal

pub returns : goal.returns
returns g c = record {
  answers = record {
    uses = search rules;
    to_end = search rules;
    said = search rules;
    err = search rules;
    kind = search rules;
  };
}
