-- Moving a text twice is moving it once, where no reference leaves the worksheet on the first way.
use Rattle.std.proofs.Common.{◌≡◌, ℕ, ◌<◌, ◌&&◌, Bool, true, false, cond, not, eqb, List, [], ◌∷◌}
use Rattle.std.proofs.Common.{◌++◌, length, Option, None, Some, sym, refl, ap, ◌∙◌, subst, inl, inr}
use Rattle.std.proofs.Common.{arith}
use Rattle.std.specs.Prelude.{IfSome, IsSome, All, ℤ, pos, negsuc, ◌+ℤ◌, ◌-ℤ◌, option_map}
use Rattle.std.specs.Prelude.{option_to_list}
use Rattle.std.proofs.lemmas.Bool.Decides.{nat_tests}
use Rattle.std.proofs.lemmas.Int.{ints}
use Rattle.std.specs.List.{list_all}
use Rattle.std.proofs.lemmas.List.Elements.{All-head, All-tail}
use Rattle.cell_refs.specs.declared.TheConstants.{MAX_ROWS, MAX_COLUMNS}
use Rattle.formula_shift.specs.declared.corner.Corner.{Corner}
use Rattle.formula_shift.specs.declared.corner.Corner.TheVariants.{Cell, Row, Column}
use Rattle.formula_shift.specs.declared.reference.Reference.{Reference}
use Rattle.formula_shift.specs.Pieces.{word_kind, PieceText, is_word_byte, pieces, joined_pieces}
use Rattle.formula_shift.specs.References.{cell_corner, IsInWorksheet, place_within, shifted_place}
use Rattle.formula_shift.specs.References.{shifted_corner, both_corners, shifted_by, shifted}
use Rattle.formula_shift.specs.References.{same_kind, word_reference, spelling}
use Rattle.formula_shift.specs.Relocation.{offset_between, is_word, is_name_before, first_byte}
use Rattle.formula_shift.specs.Relocation.{piece_reference, references, NoneLeaves, word_of, image}
use Rattle.formula_shift.specs.Relocation.{image_or, shifted_piece, shifted_pieces, moved, is_other}
use Rattle.formula_shift.specs.Relocation.{before_others, joined_others}
use Rattle.formula_shift.proofs.Recutting.{word_is, AreCut, are_cut-pieces}
use Rattle.formula_shift.proofs.Joining.{starts_other, before_others-apart, cut_apart}
use Rattle.formula_shift.proofs.Spellings.{shifted_inside, word_reference_inside}
use Rattle.formula_shift.proofs.Moving.{first_in_word, IsMovedFrom, is_moved, piece_reference_word}
use Rattle.formula_shift.proofs.Moving.{pieces-moved}
use Rattle.formula_shift.proofs.ReadBack.{AreFormed, IsFormed, formed_pair, pair_formed}
use Rattle.formula_shift.proofs.ReadBack.{word_reference_formed, reference_reads_back}

-- two offsets, one after the other
abbrev pub offsets : ℤ × ℤ → ℤ × ℤ → ℤ × ℤ
offsets d e = (d.0 +ℤ e.0, d.1 +ℤ e.1)

-- ---- places, corners and references

place_within_is : (limit : ℕ) (z : ℤ) (q : ℕ) → place_within limit z ≡ Some q → z ≡ pos q
place_within_is limit (pos n) q is = grind (arith, nat_tests)
place_within_is limit (negsuc n) q is = cc

place_twice : (limit : ℕ) (d e : ℤ) (absolute : Bool) (p q : ℕ) →
    shifted_place limit d absolute p ≡ Some q →
    shifted_place limit e absolute q ≡ shifted_place limit (d +ℤ e) absolute p
place_twice limit d e true p q is = sym is
place_twice limit d e false p q is =
    let there : pos p +ℤ d ≡ pos q = place_within_is limit (pos p +ℤ d) q is in
    let way : pos q +ℤ e ≡ pos p +ℤ (d +ℤ e) = ap (λ z. z +ℤ e) (sym there) ∙ omega (arith, ints) in
    ap (place_within limit) way

-- what a cell's two parts are
pub cell_parts : (absolute_row absolute_col : Bool) (row col : Option ℕ) (corner : Corner) →
    cell_corner absolute_row absolute_col row col ≡ Some corner →
    (r : ℕ) × (c : ℕ) × (row ≡ Some r) × (col ≡ Some c)
    × (corner ≡ Cell r c absolute_row absolute_col)
cell_parts absolute_row absolute_col (Some r) (Some c) corner is = (r, c, refl, refl, cc)
cell_parts absolute_row absolute_col (Some r) None corner is = cc
cell_parts absolute_row absolute_col None col corner is = cc

pub mapped_part : (f : ℕ → Corner) (o : Option ℕ) (corner : Corner) → option_map f o ≡ Some corner →
    (n : ℕ) × (o ≡ Some n) × (f n ≡ corner)
mapped_part f (Some n) corner is = (n, refl, cc)
mapped_part f None corner is = cc

-- a corner shifted is of the same kind, and shifted on is shifted by both
corner_twice : (d e : ℤ × ℤ) (corner moved : Corner) → shifted_corner d corner ≡ Some moved →
    (shifted_corner e moved ≡ shifted_corner (offsets d e) corner)
corner_twice d e (Cell row col absolute_row absolute_col) moved is =
    let parts = cell_parts absolute_row absolute_col (shifted_place MAX_ROWS d.0 absolute_row row)
    (shifted_place MAX_COLUMNS d.1 absolute_col col) moved is in
    ap (shifted_corner e) parts.4
    ∙ (λ i. cell_corner absolute_row absolute_col
    (place_twice MAX_ROWS d.0 e.0 absolute_row row parts.0 parts.2 i)
    (place_twice MAX_COLUMNS d.1 e.1 absolute_col col parts.1 parts.3 i))
corner_twice d e (Row row absolute) moved is =
    let part = mapped_part (λ n. Row n absolute) (shifted_place MAX_ROWS d.0 absolute row)
    moved is in
    ap (shifted_corner e) (sym part.2)
    ∙ ap (option_map (λ n. Row n absolute))
    (place_twice MAX_ROWS d.0 e.0 absolute row part.0 part.1)
corner_twice d e (Column col absolute) moved is =
    let part = mapped_part (λ n. Column n absolute) (shifted_place MAX_COLUMNS d.1 absolute col)
    moved is in
    ap (shifted_corner e) (sym part.2)
    ∙ ap (option_map (λ n. Column n absolute))
    (place_twice MAX_COLUMNS d.1 e.1 absolute col part.0 part.1)

-- cells, rows and columns by number
abbrev shape : Corner → ℕ
shape (Cell row col absolute_row absolute_col) = 0
shape (Row row absolute) = 1
shape (Column col absolute) = 2

same_kind_is : (first second : Corner) → same_kind first second ≡ eqb (shape first) (shape second)
same_kind_is (Cell row col absolute_row absolute_col) (Cell row' col' absolute_row' absolute_col') =
    refl
same_kind_is (Cell row col absolute_row absolute_col) (Row row' absolute') = refl
same_kind_is (Cell row col absolute_row absolute_col) (Column col' absolute') = refl
same_kind_is (Row row absolute) (Cell row' col' absolute_row' absolute_col') = refl
same_kind_is (Row row absolute) (Row row' absolute') = refl
same_kind_is (Row row absolute) (Column col' absolute') = refl
same_kind_is (Column col absolute) (Cell row' col' absolute_row' absolute_col') = refl
same_kind_is (Column col absolute) (Row row' absolute') = refl
same_kind_is (Column col absolute) (Column col' absolute') = refl

shape_kept : (d : ℤ × ℤ) (corner there : Corner) → shifted_corner d corner ≡ Some there →
    shape there ≡ shape corner
shape_kept d (Cell row col absolute_row absolute_col) there is =
    ap shape (cell_parts absolute_row absolute_col (shifted_place MAX_ROWS d.0 absolute_row row)
    (shifted_place MAX_COLUMNS d.1 absolute_col col) there is).4
shape_kept d (Row row absolute) there is =
    ap shape (sym (mapped_part (λ n. Row n absolute) (shifted_place MAX_ROWS d.0 absolute row)
    there is).2)
shape_kept d (Column col absolute) there is =
    ap shape (sym (mapped_part (λ n. Column n absolute)
    (shifted_place MAX_COLUMNS d.1 absolute col) there is).2)

formed_alone : (first : Corner) → AreFormed first None → shape first ≡ 0
formed_alone (Cell row col absolute_row absolute_col) formed = refl
formed_alone (Row row absolute) formed = absurd formed
formed_alone (Column col absolute) formed = absurd formed

alone_formed : (first : Corner) → shape first ≡ 0 → AreFormed first None
alone_formed (Cell row col absolute_row absolute_col) is = tt
alone_formed (Row row absolute) is = absurd (omega (arith, is))
alone_formed (Column col absolute) is = absurd (omega (arith, is))

-- what a shifted reference is made of
first_part : (o : Option Corner) (there : Reference) →
    option_map (λ first. record { first = first; second = None }) o ≡ Some there →
    (o ≡ Some there.first) × (there.second ≡ None)
first_part (Some first) there is = (cc, cc)
first_part None there is = cc

both_parts : (a b : Option Corner) (there : Reference) → both_corners a b ≡ Some there →
    (second : Corner) × (a ≡ Some there.first) × (b ≡ Some second) × (there.second ≡ Some second)
both_parts (Some first) (Some second) there is = (second, cc, refl, cc)
both_parts (Some first) None there is = cc
both_parts None b there is = cc

-- a reference shifted is formed like it, and shifted on is shifted by both
reference_twice : (d e : ℤ × ℤ) (first : Corner) (second : Option Corner) (there : Reference) →
    shifted_by d first second ≡ Some there → AreFormed first second →
    IsFormed there × (shifted_by e there.first there.second
    ≡ shifted_by (offsets d e) first second)
reference_twice d e first None there is formed =
    let part = first_part (shifted_corner d first) there is in
    let shape_is = shape_kept d first there.first part.0 in (
      subst (AreFormed there.first) (sym part.1)
          (alone_formed there.first (shape_is ∙ formed_alone first formed)),
      ap (shifted_by e there.first) part.1
          ∙ ap (option_map (λ moved. record { first = moved; second = None }))
          (corner_twice d e first there.first part.0),
    )
reference_twice d e first (Some second) there is formed =
    let parts = both_parts (shifted_corner d first) (shifted_corner d second) there is in
    let same : same_kind there.first parts.0 ≡ same_kind first second =
    same_kind_is there.first parts.0
    ∙ (λ i. eqb (shape_kept d first there.first parts.1 i)
    (shape_kept d second parts.0 parts.2 i)) ∙ sym (same_kind_is first second) in (
      subst (AreFormed there.first) (sym parts.3)
          (pair_formed there.first parts.0 (same ∙ formed_pair first second formed)),
      ap (shifted_by e there.first) parts.3
          ∙ (λ i. both_corners (corner_twice d e first there.first parts.1 i)
          (corner_twice d e second parts.0 parts.2 i)),
    )

pub shifted_twice : (d e : ℤ × ℤ) (reference there : Reference) →
    shifted d reference ≡ Some there → IsFormed reference →
    IsFormed there × (shifted e there ≡ shifted (offsets d e) reference)
unfolding shifted
shifted_twice d e reference there is formed =
    reference_twice d e reference.first reference.second there is formed

-- ---- pieces

-- the reference that a piece is depends on what is behind it only by whether a name ends there
pub piece_reference_alike : (p : PieceText) (behind behind' : Option ℕ) →
    is_name_before behind ≡ is_name_before behind' →
    piece_reference p behind ≡ piece_reference p behind'
unfolding piece_reference
piece_reference_alike p behind behind' alike =
    ap (λ b. cond (is_word p.kind && not b) (word_reference p.bytes) None) alike

-- a piece that is a reference: it is formed, and nothing that makes it a name is behind it
pub piece_reference_formed : (p : PieceText) (behind : Option ℕ) →
    IfSome (piece_reference p behind) (λ r. IsFormed r × (is_name_before behind ≡ false))
unfolding piece_reference
piece_reference_formed p behind =
    by_tests (is_word p.kind) (is_name_before behind) (word_reference p.bytes)
    (word_reference_formed p.bytes) where
      by_tests : (a b : Bool) (o : Option Reference) → IfSome o IsFormed →
          IfSome (cond (a && not b) o None) (λ r. IsFormed r × (b ≡ false))
      by_tests true false None formed = tt
      by_tests true false (Some r) formed = (formed, refl)
      by_tests true true o formed = tt
      by_tests false b o formed = tt

-- the Word that spells a reference is that reference
pub piece_reference_spelled : (r : Reference) (behind : Option ℕ) → IsInWorksheet r → IsFormed r →
    is_name_before behind ≡ false → piece_reference (word_of r) behind ≡ Some r
unfolding piece_reference
piece_reference_spelled r behind inside formed none =
    ap (λ b. cond (not b) (word_reference (spelling r)) None) none
    ∙ reference_reads_back r inside formed

-- whether a name ends before the pieces stays when they are moved
word_is_no_name : (b : ℕ) → is_word_byte b ≡ true → is_name_before (Some b) ≡ false
word_is_no_name b word = grind (arith, nat_tests)

first_of : (bytes rest : List ℕ) (b : ℕ) (bs : List ℕ) → bytes ≡ b ∷ bs →
    first_byte (bytes ++ rest) ≡ Some b
first_of bytes rest b bs are = ap (λ t. first_byte (t ++ rest)) are

pub name_kept : (d : ℤ × ℤ) (ps : List PieceText) → AreCut ps →
    is_name_before (first_byte (joined_pieces ps))
    ≡ is_name_before (first_byte (joined_pieces (shifted_pieces d ps)))
name_kept d [] cut = refl
name_kept d (p ∷ ps) cut =
    by_image (shifted_piece d p (first_byte (joined_pieces ps)))
    (is_moved d p (first_byte (joined_pieces ps))) where
      rest' : List ℕ
      rest' = joined_pieces (shifted_pieces d ps)

      own : (rest : List ℕ) → first_byte (p.bytes ++ rest) ≡ Some cut.0.first
      own rest = first_of p.bytes rest cut.0.first cut.0.behind cut.0.bytes_are

      by_bytes : (bs : List ℕ) → 0 < length bs → list_all is_word_byte bs ≡ true →
          is_name_before (first_byte (bs ++ joined_pieces (shifted_pieces d ps))) ≡ false
      by_bytes [] nonempty all = absurd (omega arith)
      by_bytes (w ∷ ws) nonempty all = word_is_no_name w (first_in_word w ws all)

      by_image : (qs : List PieceText) → IsMovedFrom p qs →
          is_name_before (first_byte (p.bytes ++ joined_pieces ps))
          ≡ is_name_before (first_byte (joined_pieces (qs ++ shifted_pieces d ps)))
      by_image qs (inl same) =
          ap is_name_before (own (joined_pieces ps) ∙ sym (own rest'))
          ∙ ap (λ qs. is_name_before (first_byte (joined_pieces (qs ++ shifted_pieces d ps))))
          (sym same)
      by_image qs (inr word) =
          let in_word : is_word_byte cut.0.first ≡ true = sym (word_is cut.0.first)
          ∙ ap is_word (sym cut.0.kind_is ∙ word.0) in
          ap is_name_before (own (joined_pieces ps)) ∙ word_is_no_name cut.0.first in_word
          ∙ sym (elim word.1 [
            | inl lost ↦
                ap (λ qs. is_name_before (first_byte (joined_pieces (qs ++ shifted_pieces d ps))))
                lost
            | inr moved ↦
                ap (λ qs. is_name_before (first_byte (joined_pieces (qs ++ shifted_pieces d ps))))
                moved.1 ∙ by_bytes moved.0.bytes moved.3.nonempty moved.3.in_word
          ])

-- a piece moved twice, in front of others; on the second way it may leave
module _ (d e : ℤ × ℤ) (p : PieceText) (behind : Option ℕ) (after : List PieceText)
    (alike : is_name_before behind ≡ is_name_before (first_byte (joined_pieces after))) where
  plain_twice : piece_reference p behind ≡ None →
      shifted_pieces e (shifted_piece d p behind ++ after)
      ≡ shifted_piece (offsets d e) p behind ++ shifted_pieces e after
  plain_twice none =
      let none' : piece_reference p (first_byte (joined_pieces after)) ≡ None =
      sym (piece_reference_alike p behind (first_byte (joined_pieces after)) alike) ∙ none in
      ap (λ o. shifted_pieces e (image_or p d o ++ after)) none
      ∙ ap (λ o. image_or p e o ++ shifted_pieces e after) none'
      ∙ ap (λ o. image_or p (offsets d e) o ++ shifted_pieces e after) (sym none)

  reference_moved_twice : (r s : Reference) → piece_reference p behind ≡ Some r →
      IsInWorksheet r → IsFormed r → is_name_before behind ≡ false → shifted d r ≡ Some s →
      shifted_pieces e (shifted_piece d p behind ++ after)
      ≡ shifted_piece (offsets d e) p behind ++ shifted_pieces e after
  reference_moved_twice r s is inside formed none there =
      let on = shifted_twice d e r s there formed in
      let inside' : IsInWorksheet s =
      subst (λ o. IfSome o IsInWorksheet) there (shifted_inside d r inside) in
      let read : piece_reference (word_of s) (first_byte (joined_pieces after)) ≡ Some s =
      piece_reference_spelled s (first_byte (joined_pieces after)) inside' on.0
      (sym alike ∙ none) in
      ap (λ o. shifted_pieces e (image_or p d o ++ after)) is
      ∙ ap (λ o. shifted_pieces e (image o ++ after)) there
      ∙ ap (λ o. image_or (word_of s) e o ++ shifted_pieces e after) read
      ∙ ap (λ o. image o ++ shifted_pieces e after) on.1
      ∙ ap (λ o. image_or p (offsets d e) o ++ shifted_pieces e after) (sym is)

  piece_twice : (o : Option Reference) → piece_reference p behind ≡ o →
      IfSome o (λ r. IsSome (shifted d r)) →
      shifted_pieces e (shifted_piece d p behind ++ after)
      ≡ shifted_piece (offsets d e) p behind ++ shifted_pieces e after
  piece_twice None is stays = plain_twice is
  piece_twice (Some r) is stays =
      let known = subst (λ o. IfSome o (λ r. IsInWorksheet r × (p.kind ≡ word_kind))) is
      (piece_reference_word p behind) in
      let formed = subst (λ o. IfSome o (λ r. IsFormed r × (is_name_before behind ≡ false))) is
      (piece_reference_formed p behind) in
      by_answer (shifted d r) refl stays known.0 formed.0 formed.1 where
        by_answer : (a : Option Reference) → shifted d r ≡ a → IsSome a → IsInWorksheet r →
            IsFormed r → is_name_before behind ≡ false →
            shifted_pieces e (shifted_piece d p behind ++ after)
            ≡ shifted_piece (offsets d e) p behind ++ shifted_pieces e after
        by_answer (Some s) there stays inside formed none =
            reference_moved_twice r s is inside formed none there
        by_answer None there stays inside formed none = cc

-- ---- texts

-- each reference stays in the worksheet
abbrev AllStay : ℤ × ℤ → List Reference → Type 0
AllStay d rs = All (λ r. IsSome (shifted d r)) rs

front_stays : (d : ℤ × ℤ) (o : Option Reference) (rs : List Reference) →
    AllStay d (option_to_list o ++ rs) → IfSome o (λ r. IsSome (shifted d r)) × AllStay d rs
front_stays d None rs stay = (tt, stay)
front_stays d (Some r) rs stay = (
  All-head (λ r. IsSome (shifted d r)) r rs stay,
  All-tail (λ r. IsSome (shifted d r)) r rs stay,
)

-- where none leaves, no Other comes beside another
stays_one : (d : ℤ × ℤ) (p : PieceText) (o : Option Reference) →
    IfSome o (λ r. IsInWorksheet r × (p.kind ≡ word_kind)) →
    IfSome o (λ r. IsSome (shifted d r)) →
    (q : PieceText) × (image_or p d o ≡ q ∷ []) × (q.kind ≡ p.kind)
stays_one d p None known stays = (p, refl, refl)
stays_one d p (Some r) known stays = by_answer (shifted d r) stays where
  by_answer : (a : Option Reference) → IsSome a →
      (q : PieceText) × (image a ≡ q ∷ []) × (q.kind ≡ p.kind)
  by_answer (Some s) stays = (word_of s, refl, sym known.1)
  by_answer None stays = cc

moved_apart : (d : ℤ × ℤ) (ps : List PieceText) → AreCut ps → AllStay d (references ps) →
    (joined_others (shifted_pieces d ps) ≡ shifted_pieces d ps)
    × (starts_other (shifted_pieces d ps) ≡ starts_other ps)
moved_apart d [] cut stay = (refl, refl)
moved_apart d (p ∷ ps) cut stay =
    let o = piece_reference p (first_byte (joined_pieces ps)) in
    let here = front_stays d o (references ps) stay in
    let later = moved_apart d ps cut.1 here.1 in
    let one = stays_one d p o (piece_reference_word p (first_byte (joined_pieces ps))) here.0 in
    let apart : (is_other one.0.kind && starts_other (shifted_pieces d ps)) ≡ false =
    (λ i. is_other (one.2 i) && later.1 i) ∙ cut_apart p ps cut in (
      subst (λ qs. joined_others (qs ++ shifted_pieces d ps) ≡ qs ++ shifted_pieces d ps)
          (sym one.1)
          (ap (before_others one.0) later.0
          ∙ before_others-apart one.0 (shifted_pieces d ps) apart),
      ap (λ qs. starts_other (qs ++ shifted_pieces d ps)) one.1 ∙ ap is_other one.2,
    )

pieces_twice : (d e : ℤ × ℤ) (ps : List PieceText) → AreCut ps → AllStay d (references ps) →
    shifted_pieces e (shifted_pieces d ps) ≡ shifted_pieces (offsets d e) ps
pieces_twice d e [] cut stay = refl
pieces_twice d e (p ∷ ps) cut stay =
    let behind = first_byte (joined_pieces ps) in
    let here = front_stays d (piece_reference p behind) (references ps) stay in
    piece_twice d e p behind (shifted_pieces d ps)
    (name_kept d ps cut.1) (piece_reference p behind) refl here.0
    ∙ ap (λ qs. shifted_piece (offsets d e) p behind ++ qs) (pieces_twice d e ps cut.1 here.1)

moved-moved : (text : List ℕ) (d e : ℤ × ℤ) → NoneLeaves d text →
    moved (moved text d) e ≡ moved text (offsets d e)
unfolding moved
moved-moved text d e stay =
    ap (λ ps. joined_pieces (shifted_pieces e ps))
    (pieces-moved text d ∙ (moved_apart d (pieces text) (are_cut-pieces text) stay).0)
    ∙ ap joined_pieces (pieces_twice d e (pieces text) (are_cut-pieces text) stay)

-- ---- between positions

way : (a b c : ℕ × ℕ) → offsets (offset_between a b) (offset_between b c) ≡ offset_between a c
way a b c =
    let rows : (pos b.0 -ℤ pos a.0) +ℤ (pos c.0 -ℤ pos b.0) ≡ pos c.0 -ℤ pos a.0 =
    omega (arith, ints) in
    let columns : (pos b.1 -ℤ pos a.1) +ℤ (pos c.1 -ℤ pos b.1) ≡ pos c.1 -ℤ pos a.1 =
    omega (arith, ints) in
    (λ i. (rows i, columns i))

no_way : (a : ℕ × ℕ) → offset_between a a ≡ (pos 0, pos 0)
no_way a =
    let rows : pos a.0 -ℤ pos a.0 ≡ pos 0 = omega (arith, ints) in
    let columns : pos a.1 -ℤ pos a.1 ≡ pos 0 = omega (arith, ints) in
    (λ i. (rows i, columns i))

pub compose : (text : List ℕ) (a b c : ℕ × ℕ) → NoneLeaves (offset_between a b) text →
    moved (moved text (offset_between a b)) (offset_between b c) ≡ moved text (offset_between a c)
compose text a b c stay =
    moved-moved text (offset_between a b) (offset_between b c) stay ∙ ap (moved text) (way a b c)

pub there_and_back : (text : List ℕ) (a b : ℕ × ℕ) → NoneLeaves (offset_between a b) text →
    moved (moved text (offset_between a b)) (offset_between b a) ≡ moved text (pos 0, pos 0)
there_and_back text a b stay = compose text a b a stay ∙ ap (moved text) (no_way a)

-- what a Word names is spelled so that it reads back
pub word_reads_back : (word : List ℕ) →
    IfSome (word_reference word) (λ r. word_reference (spelling r) ≡ Some r)
word_reads_back word =
    by_answer (word_reference word) (word_reference_inside word) (word_reference_formed word) where
      by_answer : (o : Option Reference) → IfSome o IsInWorksheet → IfSome o IsFormed →
          IfSome o (λ r. word_reference (spelling r) ≡ Some r)
      by_answer None inside formed = tt
      by_answer (Some r) inside formed = reference_reads_back r inside formed
