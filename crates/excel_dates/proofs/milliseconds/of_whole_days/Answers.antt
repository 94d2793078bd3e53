use Rattle.std.proofs.Common.{arith, ◌*◌}
use Rattle.std.proofs.Math.Nat.{le-mul_of_pos_right}
use Rattle.decimals.proofs.Rounded.{unit_some}
use Rattle.excel_dates.specs.Serials.{day_length}
use Rattle.excel_dates.proofs.milliseconds.of_whole_days.Goals as goal

pub returns-in_err-checked_mul : goal.returns-in_err-checked_mul
returns-in_err-checked_mul c =
    let grown =
    le-mul_of_pos_right (c.args.days * day_length) (unit_some c.args.power) in
    rw c.from_residual.ensures (λ fits. omega (arith, grown, fits))
