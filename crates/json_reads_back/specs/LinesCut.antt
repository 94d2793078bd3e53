-- Texts that line feeds end, one behind the other.
use Rattle.std.specs.Prelude.{◌≡◌, ◌++◌, ◌==◌, not, true, Bool, ℕ, List, [], ◌∷◌, map}
use Rattle.std.specs.Prelude.{if◌then◌else◌}
use Rattle.std.specs.List.{flat_map, list_all, AllByRecursion}
use Rattle.json.specs.Json.{Json}
use Rattle.json.specs.Tree.{HasNumbers}
use Rattle.json_lines.specs.JsonLines.{json_text, json_line}

-- no byte of a text is a line feed
abbrev pub is_one_line : List ℕ → Bool
is_one_line text = list_all (λ byte. not (byte == 10)) text

-- the lines that line feeds end, of which this front is begun
abbrev pub lines_behind : List ℕ → List ℕ → List (List ℕ)
lines_behind front [] = []
lines_behind front (byte ∷ bytes) =
    if byte == 10 then front ∷ lines_behind [] bytes else lines_behind (front ++ byte ∷ []) bytes

-- the lines that line feeds end
abbrev pub lines_of : List ℕ → List (List ℕ)
lines_of text = lines_behind [] text

-- no line feed stands in the text of a value, and the lines of values are their texts, in order
pub record AreOneLineEach : Type 0 where
  pub text : (value : Json) → HasNumbers value → is_one_line (json_text value) ≡ true
  pub lines :
      (values : List Json) → AllByRecursion HasNumbers values →
      lines_of (flat_map json_line values) ≡ map json_text values
