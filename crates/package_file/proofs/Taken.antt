-- What is made of the first events, parts and files, and of one more.
use Rattle.std.proofs.Common.{◌≡◌, ℕ, ◌+◌, ◌<◌, List, [], ◌∷◌, ◌++◌, length, take, get_or, map}
use Rattle.std.proofs.Common.{Some, sym, ap, ◌∙◌, arith, append-nil, slice_get}
use Rattle.std.specs.List.{flat_map}
use Rattle.std.proofs.lemmas.Grind.{flat_map-append}
use Rattle.std.proofs.lemmas.List.{take_more, map-append, get_or-map, length-map}
use Rattle.std.proofs.lemmas.Option.{slice_get-get_or}

-- one more element's bytes
pub bytes_more : {X : Type 0} (f : X → List ℕ) (xs : List X) (i : ℕ) (x : X) → i < length xs
    → slice_get xs i ≡ Some x → flat_map f (take (i + 1) xs) ≡ flat_map f (take i xs) ++ f x
bytes_more f xs i x within is =
    let own : get_or xs i x ≡ x = let e = slice_get-get_or xs i x within in cc in
    ap (flat_map f) (take_more xs i x within)
    ∙ flat_map-append f (take i xs) (get_or xs i x ∷ [])
    ∙ ap (λ (bytes : List ℕ). flat_map f (take i xs) ++ bytes)
    (append-nil (f (get_or xs i x)) ∙ ap f own)

-- one more element, mapped
pub mapped_more : {X Y : Type 0} (f : X → Y) (xs : List X) (i : ℕ) (d : X) → i < length xs
    → map f (take (i + 1) xs) ≡ map f (take i xs) ++ f (get_or xs i d) ∷ []
mapped_more f xs i d within =
    ap (map f) (take_more xs i d within) ∙ map-append f (take i xs) (get_or xs i d ∷ [])

-- lists of which the same is mapped have one length
pub same_length : {X Y : Type 0} (f : X → List ℕ) (g : Y → List ℕ) (xs : List X) (ys : List Y)
    → map f xs ≡ map g ys → length xs ≡ length ys
same_length f g xs ys same = sym (length-map xs f) ∙ ap length same ∙ length-map ys g

-- what is mapped of two lists alike is the same at each place
pub same_at : {X Y : Type 0} (f : X → List ℕ) (g : Y → List ℕ) (xs : List X) (ys : List Y) (i : ℕ)
    (x : X) (d : Y) → map f xs ≡ map g ys → i < length xs → x ≡ get_or xs i x
    → f x ≡ g (get_or ys i d)
same_at f g xs ys i x d same within is =
    let one = same_length f g xs ys same in
    ap f is
    ∙ sym (get_or-map f xs i x (f x) within)
    ∙ ap (λ (all : List (List ℕ)). get_or all i (f x)) same
    ∙ get_or-map g ys i d (f x) (omega arith)
