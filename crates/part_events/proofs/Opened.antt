-- The names of the open elements, in one text.
use Rattle.std.proofs.Common.{◌≡◌, ℕ, ◌+◌, ◌-◌, ◌<◌, List, [], ◌∷◌, ◌++◌, length, take, drop}
use Rattle.std.proofs.Common.{reverse, Some, refl, sym, ◌∙◌, ap, arith}
use Rattle.std.specs.Prelude.{slice_get}
use Rattle.std.proofs.lemmas.List.{take_all, take_more, reverse-append}
use Rattle.std.proofs.lemmas.Option.{get_or_from_slice_get}
use Rattle.part_events.specs.OpenNames.{names_cut}

last_first : (xs : List ℕ) (n x : ℕ) → length xs ≡ n + 1 → slice_get xs n ≡ Some x → reverse xs
    ≡ x ∷ reverse (take n xs)
last_first xs n x size here =
    let parts : xs ≡ take n xs ++ x ∷ [] = sym (take_all (n + 1) xs (omega arith))
    ∙ take_more xs n x (omega arith)
    ∙ ap (λ (y : ℕ). take n xs ++ y ∷ []) (get_or_from_slice_get xs n x x here) in
    ap reverse parts ∙ reverse-append (take n xs) (x ∷ [])

-- the innermost name and the others
names_cut-last : (text sizes : List ℕ) (n size : ℕ) → length sizes ≡ n + 1 → slice_get sizes n
    ≡ Some size → names_cut text (reverse sizes)
    ≡ drop (length text - size) text ∷ names_cut (take (length text - size) text)
    (reverse (take n sizes))
names_cut-last text sizes n size count here =
    ap (names_cut text) (last_first sizes n size count here)

not_empty : (sizes : List ℕ) (size : ℕ) → slice_get sizes (length sizes - 1) ≡ Some size
    → 0 < length sizes
not_empty [] size here = cc
not_empty (first ∷ sizes) size here = omega arith

-- the same, of what the list is seen as
pub innermost_first : (text sizes : List ℕ) (names : List (List ℕ)) (size begins : ℕ)
    → names_cut text (reverse sizes) ≡ names → slice_get sizes (length sizes - 1) ≡ Some size
    → begins ≡ length text - size → names
    ≡ drop begins text ∷ names_cut (take begins text) (reverse (take (length sizes - 1) sizes))
innermost_first text sizes names size begins seen here at =
    let some = not_empty sizes size here in
    rw at (sym seen ∙ names_cut-last text sizes (length sizes - 1) size (omega arith) here)

pub length-names_cut : (text sizes : List ℕ) → length (names_cut text sizes) ≡ length sizes
length-names_cut text [] = refl
length-names_cut text (size ∷ sizes) = let more =
    length-names_cut (take (length text - size) text) sizes in omega arith
