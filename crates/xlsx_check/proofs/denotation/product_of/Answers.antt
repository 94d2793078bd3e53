use Rattle.std.proofs.Common.{rules, ◌≡◌, ℤ, ◌+ℤ◌, ◌*ℤ◌}
use Rattle.std.specs.Prelude.{FitsSigned, SomeIff}
use Rattle.std.specs.Int.{w128}
use Rattle.decimals.specs.Words.{number_of}
use Rattle.xlsx_check.specs.Denoting.{denoted_by}
use Rattle.xlsx_check.specs.Evaluation.{from_whole}
use Rattle.xlsx_check.proofs.Numbers.{whole_fits}
use Rattle.xlsx_check.proofs.denotation.product_of.Goals as goal

pub returns : goal.returns
returns c =
    let a : ℤ × ℤ = number_of c.args.a in
    let b : ℤ × ℤ = number_of c.args.b in
    let known : SomeIff c.checked_mul.result (FitsSigned w128 (a.0 *ℤ b.0)) (a.0 *ℤ b.0) =
    search rules in
    let is : denoted_by c.number_of_whole.result ≡ from_whole c.checked_mul.result (a.1 +ℤ b.1) =
    search rules in
    whole_fits c.checked_mul.result (a.0 *ℤ b.0) (a.1 +ℤ b.1)
    (denoted_by c.number_of_whole.result) known is
