-- Line ends, as the code reads them.
use Rattle.std.specs.Prelude.{ℕ, ◌==◌, List, [], ◌∷◌, if◌then◌else◌}

-- the text without an LF in front
abbrev pub without_line_feed : List ℕ → List ℕ
without_line_feed [] = []
without_line_feed (b ∷ bs) = if b == 10 then bs else b ∷ bs
