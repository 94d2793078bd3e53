-- Digits as they are held.
use Rattle.std.specs.Prelude.{ℕ, List, ◌++◌, replicate}
use Rattle.shown_text.specs.declared.given_digits.Digits.{Digits}

-- the digits, with the zeros behind them
abbrev pub digits_in : Digits → List ℕ
digits_in digits = digits.text.now ++ replicate digits.zeros 48
