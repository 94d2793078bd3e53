-- Pieces that are divided from the left.
use Rattle.std.proofs.Common.{◌≡◌, ◌++◌, ◌+◌, ℕ, suc, Bool, true, false, cond, List, [], ◌∷◌}
use Rattle.std.proofs.Common.{length, take, drop, refl, sym, ap, ◌∙◌, arith, map, append_assoc}
use Rattle.std.specs.Global.{Vec}
use Rattle.std.specs.List.{onto_first, slice_split, position_or_len}
use Rattle.std.specs.Prelude.{not}
use Rattle.std.proofs.lemmas.List.{map-append}
use Rattle.format_codes.specs.declared.piece.CodePiece.{CodePiece}
use Rattle.format_codes.specs.Pieces.{is_divider}

-- the section in front, and the others
abbrev front_and_others : List CodePiece → List CodePiece → List (List CodePiece)
front_and_others section [] = section ∷ []
front_and_others section (sign ∷ others) = section ∷ slice_split is_divider others

-- one more piece in front of a section
longer : (first : CodePiece) (section behind : List CodePiece) →
    onto_first first (front_and_others section behind)
    ≡ front_and_others (first ∷ section) behind
longer first section [] = refl
longer first section (sign ∷ others) = refl

-- the sections of some pieces, by whether the first is a divider
by_first : (divides : Bool) (first : CodePiece) (others : List CodePiece) →
    slice_split is_divider others
    ≡ front_and_others (take (position_or_len is_divider others) others)
    (drop (position_or_len is_divider others) others) →
    cond divides ([] ∷ slice_split is_divider others)
    (onto_first first (slice_split is_divider others))
    ≡ front_and_others
    (take (cond (not divides) (1 + position_or_len is_divider others) 0) (first ∷ others))
    (drop (cond (not divides) (1 + position_or_len is_divider others) 0) (first ∷ others))
by_first true first others told = refl
by_first false first others told =
    let place = position_or_len is_divider others in
    let next : suc place ≡ 1 + place = omega arith in
    ap (onto_first first) told
    ∙ (longer first (take place others) (drop place others)
    ∙ ap (λ n. front_and_others (take n (first ∷ others)) (drop n (first ∷ others))) next)

-- the sections are the one in front and those of what stands behind its divider
divided_at : (pieces : List CodePiece) →
    slice_split is_divider pieces
    ≡ front_and_others (take (position_or_len is_divider pieces) pieces)
    (drop (position_or_len is_divider pieces) pieces)
divided_at [] = refl
divided_at (first ∷ others) = by_first (is_divider first) first others (divided_at others)

-- a section before a divider, and the others behind it
pub section_taken : (pieces section others : List CodePiece) (sign : CodePiece) →
    section ≡ take (position_or_len is_divider pieces) pieces →
    drop (position_or_len is_divider pieces) pieces ≡ sign ∷ others →
    slice_split is_divider pieces ≡ section ∷ slice_split is_divider others
section_taken pieces section others sign front behind =
    divided_at pieces
    ∙ (ap (λ xs. front_and_others xs (drop (position_or_len is_divider pieces) pieces)) (sym front)
    ∙ ap (front_and_others section) behind)

-- the last section
pub section_left : (pieces section : List CodePiece) →
    section ≡ take (position_or_len is_divider pieces) pieces →
    drop (position_or_len is_divider pieces) pieces ≡ [] →
    slice_split is_divider pieces ≡ section ∷ []
section_left pieces section front none =
    divided_at pieces
    ∙ (ap (λ xs. front_and_others xs (drop (position_or_len is_divider pieces) pieces)) (sym front)
    ∙ ap (front_and_others section) none)

-- one more section in front of what is left
pub one_more : (old new : List (Vec CodePiece)) (section : Vec CodePiece)
    (pieces others : List CodePiece) (sign : CodePiece) →
    new ≡ old ++ section ∷ [] → section.items ≡ take (position_or_len is_divider pieces) pieces →
    drop (position_or_len is_divider pieces) pieces ≡ sign ∷ others →
    map (λ s. s.items) new ++ slice_split is_divider others
    ≡ map (λ s. s.items) old ++ slice_split is_divider pieces
one_more old new section pieces others sign pushed front behind =
    ap (λ xs. map (λ s. s.items) xs ++ slice_split is_divider others) pushed
    ∙ (ap (λ xs. xs ++ slice_split is_divider others)
    (map-append (λ s. s.items) old (section ∷ []))
    ∙ (append_assoc (map (λ s. s.items) old) (section.items ∷ []) (slice_split is_divider others)
    ∙ ap (λ xs. map (λ s. s.items) old ++ xs)
    (sym (section_taken pieces section.items others sign front behind))))

-- a list of no length is empty
empty : (pieces : List CodePiece) → length pieces ≡ 0 → pieces ≡ []
empty [] none = refl
empty (first ∷ others) none = absurd (omega (arith, none))

-- the last section in place of what is left
pub all_divided : (old new : List (Vec CodePiece)) (section : Vec CodePiece)
    (pieces behind : List CodePiece) (size : ℕ) →
    new ≡ old ++ section ∷ [] → size ≡ position_or_len is_divider pieces →
    section.items ≡ take size pieces → behind ≡ drop size pieces → length behind ≡ 0 →
    map (λ s. s.items) new ≡ map (λ s. s.items) old ++ slice_split is_divider pieces
all_divided old new section pieces behind size pushed place front back none =
    let at_place : section.items ≡ take (position_or_len is_divider pieces) pieces =
    front ∙ ap (λ n. take n pieces) place in
    let left : drop (position_or_len is_divider pieces) pieces ≡ [] =
    ap (λ n. drop n pieces) (sym place) ∙ (sym back ∙ empty behind none) in
    ap (map (λ s. s.items)) pushed
    ∙ (map-append (λ s. s.items) old (section ∷ [])
    ∙ ap (λ xs. map (λ s. s.items) old ++ xs)
    (sym (section_left pieces section.items at_place left)))
