-- Which bytes of a text aren't written as they are, and what is written for each.
use Rattle.std.specs.Prelude.{◌≡◌, ℕ, ◌==◌, List, ◌∷◌, ◌++◌, Bool, false, if◌then◌else◌, codes, []}
use Rattle.std.specs.Prelude.{Option, Some, None, is_some, ◌<◌, ◌+◌, length, take, drop}
use Rattle.std.specs.Prelude.{slice_index}
use Rattle.std.specs.Option.{unwrap_or}
use Rattle.std.specs.List.{flat_map, list_any}
use Rattle.written_markup.specs.Words.{reference_name, is_control, control_escape, least_escaped}
use Rattle.xlsx_writer.specs.declared.escaping.Escaping.{Escaping}
use Rattle.xlsx_writer.specs.declared.escaping.Escaping.TheVariants.{References, Quoted}
use Rattle.xlsx_writer.specs.declared.escaping.Escaping.TheVariants.{Underscores}

-- what is written for a byte, where it isn't written as it is; of a reference this is its name
abbrev pub escape_of : Escaping → ℕ → Option (List ℕ)
escape_of References b = reference_name b
escape_of Quoted b =
    if b == 38 then Some (codes "&amp;")
    else (if b == 34 then Some (codes "&quot;")
    else (if b == 60 then Some (codes "&lt;") else None))
escape_of Underscores b = if b == 95 then Some (codes "_x005F_") else None

-- a text by a way to write it
abbrev pub escaped_by : Escaping → List ℕ → List ℕ
escaped_by escaping bytes = flat_map (λ b. unwrap_or (escape_of escaping b) (b ∷ [])) bytes

-- some byte of the text isn't written as it is
abbrev pub has_escape : Escaping → List ℕ → Bool
has_escape escaping bytes = list_any (λ b. is_some (escape_of escaping b)) bytes

-- a text, cut at its first byte that isn't written as it is
pub record IsCutAt (escaping : Escaping) (text run escape behind : List ℕ) : Type 0 where
  pub byte : ℕ
  pub parts : text ≡ run ++ byte ∷ behind
  pub plain : has_escape escaping run ≡ false
  pub written : escape_of escaping byte ≡ Some escape

-- ---- no more escapes than needed

-- the escape of a byte, whatever stands behind it
abbrev pub escape_alone : ℕ → List ℕ
escape_alone b = if is_control b then control_escape b else codes "_x005F_"

-- a text has its first byte that isn't written as it is at a place: its run in front of that is
-- written as it is, and then come the byte's escape and what is written of the rest
pub record IsLeastCut (text : List ℕ) (place : ℕ) : Type 0 where
  pub within : place < length text
  pub ascii : slice_index text place < 128
  pub written : least_escaped text
      ≡ take place text ++ (escape_alone (slice_index text place)
      ++ least_escaped (drop (place + 1) text))
