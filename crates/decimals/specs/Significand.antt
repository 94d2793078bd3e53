-- What is kept of digits while they are read.
use Rattle.std.specs.Prelude.{ℕ, ◌+◌, ◌-◌, ◌*◌, ◌^◌, ◌==◌, if◌then◌else◌, List}
use Rattle.std.specs.List.{fold}
use Rattle.decimals.specs.declared.significand.Significand.{Significand}

-- one digit more, given by its value
abbrev pub digit_added : Significand → ℕ → Significand
digit_added before digit =
    if digit == 0
    then record { number = before.number; zeros = before.zeros + 1; count = before.count + 1 }
    else record {
      number = before.number * 10 ^ (before.zeros + 1) + digit;
      zeros = 0;
      count = before.count + 1;
    }

-- digits more, given by their characters
abbrev pub digits_added : Significand → List ℕ → Significand
digits_added before digits = fold (λ s b. digit_added s (b - 48)) before digits
