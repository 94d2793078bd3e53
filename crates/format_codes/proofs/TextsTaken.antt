-- The section of texts, behind those of numbers.
use Rattle.std.proofs.Common.{◌≡◌, ◌++◌, ℕ, Bool, true, false, cond, List, [], ◌∷◌, length, refl}
use Rattle.std.proofs.Common.{sym, ap, ◌∙◌, arith, rules, map, Option, Some, None}
use Rattle.std.specs.Prelude.{MatchOption, is_some}
use Rattle.std.specs.List.{last_or}
use Rattle.std.specs.Global.{Vec}
use Rattle.std.specs.Option.{option_map, option_to_list}
use Rattle.std.proofs.lemmas.List.{map-append, length-map}
use Rattle.format_codes.specs.declared.piece.CodePiece.{CodePiece}
use Rattle.format_codes.specs.Choosing.{is_for_texts, text_section, text_section_of}

-- the last of some sections
last_of : (other : Option (List CodePiece)) (front : List (List CodePiece))
    (last : List CodePiece) →
    last_or other (front ++ last ∷ []) ≡ Some last
last_of other [] last = refl
last_of other (first ∷ front) last = last_of (Some first) front last

-- the section of texts, if the last one is it
pub texts_told : (front all : List (List CodePiece)) (last : List CodePiece) →
    all ≡ front ++ last ∷ [] →
    text_section all ≡ cond (is_for_texts (length all) last) (Some last) None
texts_told front all last told =
    ap (text_section_of (length all)) (ap (last_or None) told ∙ last_of None front last)

-- whether a choice gives something
some_if : (test : Bool) (section : List CodePiece) → test ≡ is_some (cond test (Some section) None)
some_if true section = refl
some_if false section = refl

-- whether the last of sections is that of texts
pub texts_last : (front all : List (Vec CodePiece)) (last : Vec CodePiece) (n : ℕ)
    (result : Bool) → all ≡ front ++ last ∷ [] → n ≡ length all →
    result ≡ is_for_texts n last.items →
    result ≡ is_some (text_section (map (λ s. s.items) all))
texts_last front all last n result told size tests =
    let seen : map (λ s. s.items) all ≡ map (λ s. s.items) front ++ last.items ∷ [] =
    ap (map (λ s. s.items)) told ∙ map-append (λ s. s.items) front (last ∷ []) in
    let count : n ≡ length (map (λ s. s.items) all) =
    size ∙ sym (length-map all (λ s. s.items)) in
    tests
    ∙ (ap (λ k. is_for_texts k last.items) count
    ∙ (some_if (is_for_texts (length (map (λ s. s.items) all)) last.items) last.items
    ∙ ap is_some (sym (texts_told _ _ _ seen))))

-- what is chosen, where something is
chosen_if : (test : Bool) (section : List CodePiece) →
    is_some (cond test (Some section) None) ≡ true → Some section ≡ cond test (Some section) None
chosen_if true section some = refl
chosen_if false section some = absurd (search rules)

-- the last section that is taken is that of texts
pub texts_taken : (old new : List (Vec CodePiece)) (last : Option (Vec CodePiece)) →
    old ≡ new ++ option_to_list last → (last ≡ None → length old ≡ 0) →
    is_some (text_section (map (λ s. s.items) old)) ≡ true →
    option_map (λ s. s.items) last ≡ text_section (map (λ s. s.items) old)
texts_taken [] new None told empty some = refl
texts_taken (first ∷ others) new None told empty some = absurd (omega (arith, empty refl))
texts_taken old new (Some last) told empty some =
    let seen : map (λ s. s.items) old ≡ map (λ s. s.items) new ++ last.items ∷ [] =
    ap (map (λ s. s.items)) told ∙ map-append (λ s. s.items) new (last ∷ []) in
    let texts = texts_told _ _ _ seen in
    chosen_if _ last.items (ap is_some (sym texts) ∙ some) ∙ sym texts

-- what is known where nothing was taken
pub known_of_none : {X : Type 0} (taken : Option X) (empty : Type 0) (other : X → Type 0) →
    MatchOption taken empty other → taken ≡ None → empty
known_of_none None empty other known none = known
known_of_none (Some x) empty other known none = absurd (cc)
