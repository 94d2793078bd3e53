use Rattle.std.proofs.Common.{rules, arith}
use Rattle.xlsx_styles.proofs.Orders.{zero_tint}
use Rattle.xlsx_styles.proofs.tint.apply_tint.Goals as goal

pub returns-clause-zero : goal.returns-clause-zero
returns-clause-zero c =
    λ none. zero_tint c.args.color c.new.result c.args.tint.now (omega arith) (omega arith)
    (omega arith) none (search rules) (search rules) (search rules) (search rules)
