-- Numbers under codes of numbers.
use Rattle.std.specs.Prelude.{ℕ, ◌==◌, ◌≤◌, not, List, ℤ, nat_abs}
use Rattle.std.specs.List.{filter}
use Rattle.shown_text.specs.Words.{shown_digits, most_power}

-- a number is shown by its section: the power of ten of its fifteen digits isn't too great
abbrev pub IsShownBySection : ℤ × ℤ → Type 0
IsShownBySection number = nat_abs (shown_digits number).1 ≤ most_power

-- a text of a number without the commas that group its thousands
abbrev pub without_commas : List ℕ → List ℕ
without_commas text = filter (λ c. not (c == 44)) text
