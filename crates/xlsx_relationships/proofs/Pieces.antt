-- The last piece of a path, by where its last slash stands.
use Rattle.std.proofs.Common.{◌≡◌, ◌≢◌, ℕ, ◌+◌, ◌-◌, ◌<◌, Bool, false, not, Option, Some, None}
use Rattle.std.proofs.Common.{MatchOption, Bor, refl, List, [], ◌∷◌, length, take, drop, get_or}
use Rattle.std.proofs.Common.{sym, ap, ◌∙◌, arith, ne_eqb, length-drop}
use Rattle.std.specs.List.{suffix_len}
use Rattle.std.proofs.lemmas.List.Sums.{suffix_len_is}
use Rattle.std.specs.Option.{option_copied}
use Rattle.xlsx_relationships.specs.Paths.{is_slash, behind_slash, last_piece, front_pieces}

abbrev is_other : ℕ → Bool
is_other byte = not (is_slash byte)

-- a path without a slash
pub last_piece-none : (path : List ℕ) → ((i : ℕ) → i < length path → get_or path i 0 ≡ 47 → ⊥)
    → path ≡ last_piece path
last_piece-none path none =
    let size : suffix_len is_other path ≡ length path - 0 =
    suffix_len_is is_other path 0 0 (omega arith)
    (λ k _ h. ap not (ne_eqb (get_or path k 0) 47 (none k h))) (λ h. absurd (omega arith)) in
    let from : length path - suffix_len is_other path ≡ 0 = omega arith in
    ap (λ n. drop n path) (sym from)

-- the last slash stands at k
pub last_piece-last : (path : List ℕ) (k : ℕ) → k < length path → get_or path k 0 ≡ 47
    → ((i : ℕ) → k < i → i < length path → get_or path i 0 ≡ 47 → ⊥) → drop (k + 1) path
    ≡ last_piece path
last_piece-last path k within at later =
    let size : suffix_len is_other path ≡ length path - (k + 1) =
    suffix_len_is is_other path (k + 1) 0 (omega arith)
    (λ i from h. ap not (ne_eqb (get_or path i 0) 47 (later i (omega arith) h)))
    (λ _. ap is_other (ap (λ i. get_or path i 0) (omega arith) ∙ at)) in
    let from : length path - suffix_len is_other path ≡ k + 1 = omega arith in
    ap (λ n. drop n path) (sym from)

pub front_pieces-none : (path : List ℕ) → path ≡ last_piece path → [] ≡ front_pieces path
front_pieces-none path same =
    let none : length path - length (last_piece path) ≡ 0 = omega (arith, ap length same) in
    ap (λ n. take n path) (sym none)

pub front_pieces-last : (path : List ℕ) (k : ℕ) → k < length path → drop (k + 1) path
    ≡ last_piece path → take (k + 1) path ≡ front_pieces path
front_pieces-last path k within same =
    let size : length path - length (last_piece path) ≡ k + 1 =
    omega (arith, ap length same, length-drop (k + 1) path) in
    ap (λ n. take n path) (sym size)

-- what `strip_prefix` says of a slash
pub behind_slash_is : (path : List ℕ) (r : Option (Bor (List ℕ)))
    → MatchOption r ((rest : List ℕ) → path ≢ 47 ∷ rest) (λ x. path ≡ 47 ∷ x.now) → option_copied r
    ≡ behind_slash path
behind_slash_is path (Some x) is = rw is refl
behind_slash_is [] None is = refl
behind_slash_is (byte ∷ path) None is =
    let other : is_slash byte ≡ false =
    ne_eqb byte 47 (λ same. is path (ap (λ b. b ∷ path) same)) in
    rw other refl
