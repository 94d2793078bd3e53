-- Escapes, as the code finds them.
use Rattle.std.specs.Prelude.{◌≡◌, ℕ, ◌+◌, ◌≤◌, List, ◌++◌, take, drop, length, slice_index}
use Rattle.std.specs.Prelude.{encode_utf8}
use Rattle.attr_text.specs.Text.{unescaped}

-- the first escape with a character stands at this place
pub record HasEscapeAt (text : List ℕ) (at c : ℕ) : Type 0 where
  pub within : at + 7 ≤ length text
  pub begins : slice_index text at ≡ 95
  pub ends : slice_index text (at + 6) ≡ 95
  pub splits : unescaped text ≡ take at text ++ (encode_utf8 c ++ unescaped (drop (at + 7) text))
