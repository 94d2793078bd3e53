use Rattle.std.proofs.Common.{arith, ◌≡◌, ◌-◌, ◌==◌, length, length-take, ap}
use Rattle.std.proofs.lemmas.List.Sums.{suffix_len-le-length}
use Rattle.decimals.specs.Words.{trailing_zeros, without_trailing_zeros}
use Rattle.shown_text.proofs.Zeros.{zeros_added}
use Rattle.shown_text.proofs.given_digits.Digits.trailing_zeros.Goals as goal

pub returns : goal.returns
returns c =
    let text = c.args.self.now.text.now in
    let left : length c.without_trailing_zeros.result.now
    ≡ length (without_trailing_zeros text) = ap length c.without_trailing_zeros.ensures in
    omega (
      arith,
      left,
      length-take (length text - trailing_zeros text) text,
      suffix_len-le-length (λ b. b == 48) text,
      zeros_added text c.args.self.now.zeros,
    )
