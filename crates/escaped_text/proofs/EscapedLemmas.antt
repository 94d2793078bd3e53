-- Texts with bytes in two characters.
use Rattle.std.proofs.Common.{◌≡◌, ℕ, ◌+◌, ◌<◌, ◌≤◌, List, [], ◌∷◌, length, take, drop, get_or}
use Rattle.std.proofs.Common.{refl, Bool, true, false, cond, not, ◌&&◌, ◌==◌, arith, inl, inr}
use Rattle.std.specs.List.{prefix_len}
use Rattle.std.specs.Str.{IsCharBoundary}
use Rattle.std.proofs.Math.Numerals.{one-add}
use Rattle.std.proofs.lemmas.Bool.{cases_lt}
use Rattle.std.proofs.lemmas.Bool.Decides.{nat_tests}
use Rattle.std.proofs.lemmas.List.{drop_more, length-take}
use Rattle.std.proofs.lemmas.List.Folds.{length-prefix_len}
use Rattle.std.proofs.lemmas.Str.{IsCharBoundary-before_ascii, IsCharBoundary-end}
use Rattle.escaped_text.specs.Escaped.{escaped, escaped_byte, is_unescaped, StartsEscaped}

by_tests :
    (a b c d : Bool) (w x y z v : List ℕ)
    → (not a && not b && not c && not d) ≡ true
    → cond a w (cond b x (cond c y (cond d z v))) ≡ v
by_tests true b c d w x y z v is = absurd cc
by_tests false true c d w x y z v is = absurd cc
by_tests false false true d w x y z v is = absurd cc
by_tests false false false true w x y z v is = absurd cc
by_tests false false false false w x y z v is = refl

unescaped_byte : (byte : ℕ) → is_unescaped byte ≡ true → escaped_byte byte ≡ byte ∷ []
unescaped_byte byte is =
    by_tests (byte == 92) (byte == 9) (byte == 10) (byte == 13) _ _ _ _ (byte ∷ []) is

special_is_ascii : (byte : ℕ) → is_unescaped byte ≡ false → byte < 128
special_is_ascii byte is = grind (arith, nat_tests)

-- the length of the front, by whether the first byte is in it
front_len : Bool → List ℕ → ℕ
front_len test bytes = cond test (1 + prefix_len is_unescaped bytes) 0

front_by :
    (byte : ℕ) (bytes : List ℕ) (test : Bool)
    → is_unescaped byte ≡ test
    → (let front = take (prefix_len is_unescaped bytes) bytes in escaped front ≡ front)
    → (let front = take (front_len test bytes) (byte ∷ bytes) in escaped front ≡ front)
unfolding front_len
front_by byte bytes true is rest = rw (one-add, unescaped_byte byte is, rest) refl
front_by byte bytes false is rest = refl

-- the front that is written as it is
pub escaped_front :
    (bytes : List ℕ)
    → (let front = take (prefix_len is_unescaped bytes) bytes in escaped front ≡ front)
unfolding front_len
escaped_front [] = refl
escaped_front (byte ∷ bytes) = front_by byte bytes (is_unescaped byte) refl (escaped_front bytes)

behind_by :
    (byte : ℕ) (bytes : List ℕ) (test : Bool)
    → is_unescaped byte ≡ test → StartsEscaped (drop (prefix_len is_unescaped bytes) bytes)
    → StartsEscaped (drop (front_len test bytes) (byte ∷ bytes))
unfolding front_len
behind_by byte bytes true is rest = rw one-add rest
behind_by byte bytes false is rest = is

pub starts_escaped :
    (bytes : List ℕ) → StartsEscaped (drop (prefix_len is_unescaped bytes) bytes)
unfolding front_len
starts_escaped [] = tt
starts_escaped (byte ∷ bytes) = behind_by byte bytes (is_unescaped byte) refl (starts_escaped bytes)

pub first_special :
    (bytes : List ℕ) → StartsEscaped bytes → 0 < length bytes → get_or bytes 0 0 < 128
first_special [] starts some = absurd (omega arith)
first_special (byte ∷ bytes) starts some = special_is_ascii byte starts

at_special :
    (bytes : List ℕ) (place : ℕ)
    → place < length bytes → StartsEscaped (drop place bytes) → get_or bytes place 0 < 128
at_special bytes place here starts =
    special_is_ascii (get_or bytes place 0) (rw (drop_more bytes place 0 here) at starts)

pub unescaped_boundary : (bytes : List ℕ) → IsCharBoundary bytes (prefix_len is_unescaped bytes)
unescaped_boundary bytes =
    let place = prefix_len is_unescaped bytes in
    let fits : place ≤ length bytes =
    omega (arith, length-prefix_len is_unescaped bytes, length-take place bytes)
    in
    elim (cases_lt place (length bytes)) [
      | inl before ↦ (
          let special = at_special bytes place before (starts_escaped bytes) in
          IsCharBoundary-before_ascii bytes place before special
          )
      | inr past ↦ (
          let same : place ≡ length bytes = omega arith in
          rw same (IsCharBoundary-end bytes)
          )
    ]
