-- Where a text may be cut: behind the character that begins it.
use Rattle.std.proofs.Common.{◌≡◌, ◌<◌, ◌≤◌, ◌-◌, ◌==◌, ◌&&◌, ℕ, true, false, List, [], ◌∷◌, length}
use Rattle.std.proofs.Common.{arith, get_or, rules}
use Rattle.std.specs.Prelude.{nat_lt}
use Rattle.std.specs.Char.{to_ascii_lowercase}
use Rattle.std.specs.Str.{IsCharBoundary}
use Rattle.std.proofs.lemmas.List.Sums.{prefix_len-le-length, prefix_len_passes, prefix_len_stops}
use Rattle.format_codes.specs.Sections.{size_behind, character_size, run_behind}

-- no byte that continues a character
leads : (c : ℕ) → (nat_lt 127 c && nat_lt c 192) ≡ false → 128 ≤ c → 192 ≤ c
leads c stops above = grind arith

-- no character has more bytes than the text
pub size_bound : (bs : List ℕ) → size_behind bs ≤ length bs
size_bound bs = prefix_len-le-length _ bs

-- a text may be cut behind the character that begins it
pub behind_character : (text : List ℕ) → IsCharBoundary text (character_size text)
behind_character [] = search rules
behind_character (b ∷ bs) = (
  omega (arith, size_bound bs),
  λ inside above.
      leads (get_or bs (size_behind bs) 0)
      (prefix_len_stops (λ c. nat_lt 127 c && nat_lt c 192) bs 0 (omega (arith, inside))) above,
)

-- a byte that is an ASCII letter in small is ASCII
ascii_letter : (b letter : ℕ) → (to_ascii_lowercase b == letter) ≡ true → letter < 128 → b < 128
ascii_letter b letter same ascii = grind arith

-- a run of an ASCII letter in either case ends with an ASCII byte
pub run_ends : (letter run : ℕ) (bs : List ℕ) → letter < 128 → run ≡ run_behind letter bs →
    (run ≡ 0 → ⊥) → get_or bs (run - 1) 0 < 128
run_ends letter run bs ascii told some =
    let same : (to_ascii_lowercase (get_or bs (run - 1) 0) == letter) ≡ true =
    prefix_len_passes (λ c. to_ascii_lowercase c == letter) bs (run - 1) 0
    (omega (arith, told, some)) in
    ascii_letter _ letter same ascii
