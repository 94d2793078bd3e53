use Rattle.std.proofs.Common.{rules}
use Rattle.xlsx_styles.proofs.Shades.{whole_size}
use Rattle.xlsx_styles.proofs.tint.size_of.Goals as goal

pub returns-else-size-eq0-clause-value : goal.returns-else-size-eq0-clause-value
returns-else-size-eq0-clause-value c = search (rules, whole_size)
