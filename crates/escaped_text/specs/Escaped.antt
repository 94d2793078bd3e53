-- Texts as they are printed: on one line, without tabs.
use Rattle.std.specs.Prelude.{◌≡◌, false, ℕ, ◌==◌, ◌&&◌, not, List, [], ◌∷◌, ◌++◌, Bool}
use Rattle.std.specs.Prelude.{if◌then◌else◌, codes}
use Rattle.std.specs.List.{flat_map}

-- `\`, tab, LF and CR in two characters each
abbrev pub escaped_byte : ℕ → List ℕ
escaped_byte byte =
    if byte == 92 then codes "\\\\"
    else (if byte == 9 then codes "\\t"
    else (if byte == 10 then codes "\\n"
    else (if byte == 13 then codes "\\r" else byte ∷ [])))

-- a text with its tabs, line ends and backslashes escaped
abbrev pub escaped : List ℕ → List ℕ
escaped bytes = flat_map escaped_byte bytes

-- a byte that is written as it is
abbrev pub is_unescaped : ℕ → Bool
is_unescaped byte = not (byte == 92) && not (byte == 9) && not (byte == 10) && not (byte == 13)

-- nothing, or a byte that isn't written as it is stands first
abbrev pub StartsEscaped : List ℕ → Type 0
StartsEscaped [] = Unit {0}
StartsEscaped (byte ∷ bytes) = is_unescaped byte ≡ false

-- the new text is the old one, or has more behind it
pub record AddsBehind (old new : List ℕ) : Type 0 where
  pub more : List ℕ
  pub joined : new ≡ old ++ more
