use Rattle.std.proofs.Common.{rules}
use Rattle.xlsx_widths.specs.Widths.{widths_kept}
use Rattle.xlsx_commands.proofs.width_lines.width_lines.Goals as goal

pub returns-clause-ok : goal.returns-clause-ok
returns-clause-ok c = record {
  said = widths_kept c.in_ok-widths.widths;
  has = c.in_ok-widths.ensures.ok;
  listed = search rules;
}
