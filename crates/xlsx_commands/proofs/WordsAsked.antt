-- What words ask for, one behind the other.
use Rattle.std.proofs.Common.{◌≡◌, ◌∙◌, ℕ, ◌+◌, ◌<◌, ◌≤◌, List, length, map, drop, get_or, ap, sym}
use Rattle.std.proofs.Common.{Some, None, String, Global, string_bytes}
use Rattle.std.specs.Option.{option_and_then}
use Rattle.std.proofs.lemmas.List.{drop_more, drop_all}
use Rattle.xlsx_commands.specs.AskedRows.{option_asked, options_asked}
use Rattle.xlsx_commands.specs.declared.asked_rows.AskedRows.{AskedRows}

module _ (asked : AskedRows) (words : List (String Global)) (i : ℕ) where
  -- one word more
  step : (d : String Global) → i < length words →
      options_asked asked (map string_bytes (drop i words))
      ≡ option_and_then (λ next. options_asked next (map string_bytes (drop (i + 1) words)))
      (option_asked asked (string_bytes (get_or words i d)))
  unfolding options_asked
  step d within =
      ap (λ (left : List (String Global)). options_asked asked (map string_bytes left))
      (drop_more words i d within)

  pub none_asked : (d : String Global) → i < length words →
      option_asked asked (string_bytes (get_or words i d)) ≡ None →
      options_asked asked (map string_bytes (drop i words)) ≡ None
  none_asked d within none =
      step d within
      ∙ ap (option_and_then (λ next. options_asked next (map string_bytes (drop (i + 1) words))))
      none

  pub all_asked : length words ≤ i →
      Some asked ≡ options_asked asked (map string_bytes (drop i words))
  unfolding options_asked
  all_asked past =
      sym (ap (λ (left : List (String Global)). options_asked asked (map string_bytes left))
      (drop_all i words past))

pub next_asked : (asked next : AskedRows) (words : List (String Global)) (i : ℕ)
    (d : String Global) → i < length words →
    option_asked asked (string_bytes (get_or words i d)) ≡ Some next →
    options_asked asked (map string_bytes (drop i words))
    ≡ options_asked next (map string_bytes (drop (i + 1) words))
next_asked asked next words i d within is =
    step asked words i d within
    ∙ ap (option_and_then (λ own. options_asked own (map string_bytes (drop (i + 1) words)))) is
