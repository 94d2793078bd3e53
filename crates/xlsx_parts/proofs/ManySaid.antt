-- What many say, one behind the other, is put together one by one.
use Rattle.std.proofs.Common.{◌≡◌, List, [], ◌∷◌, ◌++◌, Option, Some, None, refl, sym, ◌∙◌, ap}
use Rattle.std.proofs.Common.{append_assoc, append-nil, inl, inr, map}
use Rattle.std.proofs.lemmas.List.{map-append}
use Rattle.std.specs.Prelude.{option_map}
use Rattle.xlsx_error.specs.declared.error.XlsxError.{XlsxError}
use Rattle.xlsx_parts.specs.PartSaid.{put_together, all_said}
use Rattle.xlsx_parts.specs.WholePart.{SomeCause}

behind_both : {A : Type 0} (kept found : List A) (others : Option (List A))
    → put_together (Some (kept ++ found)) others
    ≡ put_together (Some kept) (put_together (Some found) others)
behind_both kept found None = refl
behind_both kept found (Some more) =
    ap (λ (all : List _). Some all) (append_assoc kept found more)

-- one more says something
pub said_of_one : {X A : Type 0} (said : X → Option (List A)) (kept found : List A) (x : X)
    (xs : List X) → said x ≡ Some found
    → put_together (Some (kept ++ found)) (all_said said xs)
    ≡ put_together (Some kept) (all_said said (x ∷ xs))
said_of_one said kept found x xs is =
    behind_both kept found (all_said said xs)
    ∙ ap (λ (own : Option (List _)). put_together (Some kept)
    (put_together own (all_said said xs))) (sym is)

-- none is left
pub said_of_none : {X A : Type 0} (said : X → Option (List A)) (kept : List A)
    → put_together (Some kept) (all_said said []) ≡ Some kept
said_of_none said kept = ap (λ (all : List _). Some all) (append-nil kept)

-- nothing was said before
pub said_before : {A : Type 0} (others : Option (List A)) → put_together (Some []) others ≡ others
said_before None = refl
said_before (Some more) = refl

-- what was put together says something by each of both
both_said : {A : Type 0} (first others : Option (List A)) (all : List A)
    → put_together first others ≡ Some all
    → (a : List A) × (b : List A) × (first ≡ Some a) × (others ≡ Some b)
both_said None others all is = absurd (cc)
both_said (Some a) None all is = absurd (cc)
both_said (Some a) (Some b) all is = (a, b, refl, refl)

-- where many say something, none has a cause, if one that says something has none
pub no_some_cause : {X A : Type 0} (said : X → Option (List A)) (cause : X → XlsxError → Type 0)
    (xs : List X) (error : XlsxError) (all : List A)
    → ((x : X) (own : List A) → said x ≡ Some own → cause x error → ⊥)
    → all_said said xs ≡ Some all → SomeCause cause xs error → ⊥
no_some_cause said cause [] error all never says is = is
no_some_cause said cause (x ∷ xs) error all never says (inl own) =
    let both = both_said (said x) (all_said said xs) all says in
    never x both.0 both.2 own
no_some_cause said cause (x ∷ xs) error all never says (inr others) =
    let both = both_said (said x) (all_said said xs) all says in
    no_some_cause said cause xs error both.1 never both.3 others

-- what many say, put in another way, is said by each so
put_mapped : {A B : Type 0} (f : A → B) (first others : Option (List A))
    → put_together (option_map (map f) first) (option_map (map f) others)
    ≡ option_map (map f) (put_together first others)
put_mapped f None others = refl
put_mapped f (Some found) None = refl
put_mapped f (Some found) (Some more) =
    ap (λ (all : List _). Some all) (sym (map-append f found more))

pub all_said_mapped : {X A B : Type 0} (f : A → B) (said : X → Option (List A)) (xs : List X)
    → all_said (λ x. option_map (map f) (said x)) xs ≡ option_map (map f) (all_said said xs)
all_said_mapped f said [] = refl
all_said_mapped f said (x ∷ xs) =
    ap (put_together (option_map (map f) (said x))) (all_said_mapped f said xs)
    ∙ put_mapped f (said x) (all_said said xs)
