-- Bytes that go from a list into a piece.
use Rattle.std.proofs.Common.{◌≡◌, ℕ, ◌+◌, ◌-◌, ◌≤◌, List, ◌++◌, length, take, drop, sym, ◌∙◌, ap}
use Rattle.std.proofs.Common.{arith}
use Rattle.std.proofs.lemmas.List.{take_at, take-append-drop, drop-drop, length-drop}
use Rattle.std.proofs.lemmas.List.{length-take-le}

-- what was copied to the front of the piece, and what is left, are the bytes that were there
pub front_moved :
    (bytes front behind : List ℕ) (at count : ℕ)
    → front ≡ take count (drop at bytes) → count ≤ length bytes - at
    → drop at bytes ≡ take count (front ++ behind) ++ drop (at + count) bytes
front_moved bytes front behind at count copied fits =
    let rest = drop at bytes in
    let enough : count ≤ length rest = omega (arith, length-drop at bytes) in
    let long : length front ≡ count = ap length copied ∙ length-take-le count rest enough in
    let given = take_at front behind count long ∙ copied in
    sym (ap (λ (xs : List ℕ). xs ++ drop (at + count) bytes) given
    ∙ ap (λ (xs : List ℕ). take count rest ++ xs) (sym (drop-drop count at bytes))
    ∙ take-append-drop count rest)
