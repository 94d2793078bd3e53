-- How a time that has passed is read.
use Rattle.std.specs.Prelude.{ℕ, ◌≡◌, ◌+◌, ◌*◌, ◌<◌, List, ◌∷◌, ◌++◌}
use Rattle.std.specs.Fmt.{decimal}
use Rattle.excel_dates.specs.Words.{padded}

-- a text as `36:30:05.250` is a time of so many milliseconds
pub record IsTimeOf (milliseconds : ℕ) (text : List ℕ) : Type 0 where
  pub hours : ℕ
  pub minutes : ℕ
  pub seconds : ℕ
  pub thousandths : ℕ
  pub written : text
      ≡ decimal hours ++ 58 ∷ (padded 2 minutes ++ 58 ∷ (padded 2 seconds
      ++ 46 ∷ padded 3 thousandths))
  pub minutes_fit : minutes < 60
  pub seconds_fit : seconds < 60
  pub thousandths_fit : thousandths < 1000
  pub told : milliseconds
      ≡ ((hours * 60 + minutes) * 60 + seconds) * 1000 + thousandths
