-- Codes with `;` between them.
use Rattle.std.specs.Prelude.{ℕ, zero, suc, ◌==◌, ◌&&◌, ◌||◌, not, Bool, true, false, if◌then◌else◌}
use Rattle.std.specs.Prelude.{List, [], ◌∷◌, length}
use Rattle.std.specs.List.{list_any}
use Rattle.format_codes.specs.Words.{pieces_in_front}

-- What a byte begins doesn't end in the text behind it: a quote or a bracket isn't closed there, or
-- no character stands behind `\`, `_` or `*`.
abbrev pub stays_open : ℕ → List ℕ → Bool
stays_open b bs =
    if b == 34 then not (list_any (λ c. c == 34) bs)
    else (if b == 91 then not (list_any (λ c. c == 93) bs)
    else ((b == 92) || ((b == 95) || (b == 42))) && (length bs == 0))

-- a text leaves something open behind its first bytes, which belong to a piece before it
abbrev pub leaves_open_behind : ℕ → List ℕ → Bool
leaves_open_behind zero [] = false
leaves_open_behind (suc skip) [] = true
leaves_open_behind (suc skip) (b ∷ bs) = leaves_open_behind skip bs
leaves_open_behind zero (b ∷ bs) =
    stays_open b bs || leaves_open_behind (pieces_in_front b bs).size bs

-- a code ends within a quote or a bracket, or behind `\`, `_` or `*`
abbrev pub leaves_open : List ℕ → Bool
leaves_open code = leaves_open_behind 0 code
