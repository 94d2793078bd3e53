-- The references of a moved text are the references of the text, moved, and those that leave are
-- left out.
use Rattle.std.proofs.Common.{◌≡◌, ℕ, ◌&&◌, Bool, true, false, cond, not, List, [], ◌∷◌, ◌++◌}
use Rattle.std.proofs.Common.{Option, None, Some, sym, refl, ap, ◌∙◌, subst}
use Rattle.std.specs.Prelude.{IfSome, ℤ, option_to_list}
use Rattle.std.specs.List.{flat_map}
use Rattle.std.proofs.lemmas.Grind.{flat_map-append}
use Rattle.formula_shift.specs.declared.reference.Reference.{Reference}
use Rattle.formula_shift.specs.Pieces.{word_kind, PieceText, pieces, joined_pieces}
use Rattle.formula_shift.specs.References.{IsInWorksheet, word_reference, shifted}
use Rattle.formula_shift.specs.Relocation.{is_word, is_other, is_name_before, first_byte}
use Rattle.formula_shift.specs.Relocation.{piece_reference, references, other_of, lost_pieces}
use Rattle.formula_shift.specs.Relocation.{image, image_or, shifted_pieces, moved, before_others}
use Rattle.formula_shift.specs.Relocation.{joined_others, shifted_references}
use Rattle.formula_shift.proofs.Recutting.{AreCut, are_cut-pieces}
use Rattle.formula_shift.proofs.Joining.{other_kind_is, both_true, joined_pieces-joined_others}
use Rattle.formula_shift.proofs.Spellings.{shifted_inside}
use Rattle.formula_shift.proofs.Moving.{piece_reference_word, pieces-moved}
use Rattle.formula_shift.proofs.ReadBack.{IsFormed}
use Rattle.formula_shift.proofs.Composing.{shifted_twice, piece_reference_alike}
use Rattle.formula_shift.proofs.Composing.{piece_reference_formed, piece_reference_spelled}
use Rattle.formula_shift.proofs.Composing.{name_kept}

-- ---- neighbouring Other pieces made one

other_is_none : (p : PieceText) (behind : Option ℕ) → is_other p.kind ≡ true →
    piece_reference p behind ≡ None
unfolding piece_reference
other_is_none p behind other =
    ap (λ kind. cond (is_word kind && not (is_name_before behind)) (word_reference p.bytes) None)
    (other_kind_is p.kind other)

references-before_others : (p : PieceText) (qs : List PieceText) →
    references (before_others p qs) ≡ references (p ∷ qs)
references-before_others p [] = refl
references-before_others p (q ∷ qs) = by_test (is_other p.kind && is_other q.kind) refl where
  by_test : (both : Bool) → (is_other p.kind && is_other q.kind) ≡ both →
      references (cond both (other_of (p.bytes ++ q.bytes) ∷ qs) (p ∷ q ∷ qs))
      ≡ references (p ∷ q ∷ qs)
  by_test false are = refl
  by_test true are =
      let others = both_true (is_other p.kind) (is_other q.kind) are in
      let behind = first_byte (joined_pieces qs) in
      let one : piece_reference (other_of (p.bytes ++ q.bytes)) behind ≡ None =
      other_is_none (other_of (p.bytes ++ q.bytes)) behind refl in
      ap (λ o. option_to_list o ++ references qs) one
      ∙ (λ i. option_to_list
      (sym (other_is_none p (first_byte (q.bytes ++ joined_pieces qs)) others.0) i)
      ++ (option_to_list (sym (other_is_none q behind others.1) i) ++ references qs))

references-joined_others : (ps : List PieceText) → references (joined_others ps) ≡ references ps
references-joined_others [] = refl
references-joined_others (p ∷ ps) =
    references-before_others p (joined_others ps)
    ∙ (λ i. option_to_list (piece_reference p (first_byte (joined_pieces-joined_others ps i)))
    ++ references-joined_others ps i)

-- ---- moved pieces

-- the references that one becomes
abbrev kept : ℤ × ℤ → Reference → List Reference
kept d r = option_to_list (shifted d r)

lost_none : (after : List PieceText) → references (lost_pieces ++ after) ≡ references after
unfolding piece_reference
lost_none after = refl

-- what stands for a piece, in front of others
module _ (d : ℤ × ℤ) (p : PieceText) (behind : Option ℕ) (after : List PieceText)
    (alike : is_name_before behind ≡ is_name_before (first_byte (joined_pieces after))) where
  front_references : (o : Option Reference) → piece_reference p behind ≡ o →
      references (image_or p d o ++ after)
      ≡ flat_map (kept d) (option_to_list o) ++ references after
  front_references None is =
      ap (λ o. option_to_list o ++ references after)
      (sym (piece_reference_alike p behind (first_byte (joined_pieces after)) alike) ∙ is)
  front_references (Some r) is =
      let known = subst (λ o. IfSome o (λ r. IsInWorksheet r × (p.kind ≡ word_kind))) is
      (piece_reference_word p behind) in
      let formed = subst (λ o. IfSome o (λ r. IsFormed r × (is_name_before behind ≡ false))) is
      (piece_reference_formed p behind) in
      by_answer (shifted d r) refl known.0 formed.0 formed.1 where
        by_answer : (a : Option Reference) → shifted d r ≡ a → IsInWorksheet r → IsFormed r →
            is_name_before behind ≡ false →
            references (image a ++ after) ≡ (option_to_list a ++ []) ++ references after
        by_answer None there inside formed none = lost_none after
        by_answer (Some s) there inside formed none =
            let inside' : IsInWorksheet s =
            subst (λ o. IfSome o IsInWorksheet) there (shifted_inside d r inside) in
            ap (λ o. option_to_list o ++ references after)
            (piece_reference_spelled s (first_byte (joined_pieces after)) inside'
            (shifted_twice d d r s there formed).0 (sym alike ∙ none))

references-shifted_pieces : (d : ℤ × ℤ) (ps : List PieceText) → AreCut ps →
    references (shifted_pieces d ps) ≡ flat_map (kept d) (references ps)
references-shifted_pieces d [] cut = refl
references-shifted_pieces d (p ∷ ps) cut =
    let behind = first_byte (joined_pieces ps) in
    let o = piece_reference p behind in
    front_references d p behind (shifted_pieces d ps) (name_kept d ps cut.1) o refl
    ∙ ap (λ rs. flat_map (kept d) (option_to_list o) ++ rs) (references-shifted_pieces d ps cut.1)
    ∙ sym (flat_map-append (kept d) (option_to_list o) (references ps))

pub references-moved : (text : List ℕ) (offset : ℤ × ℤ) →
    references (pieces (moved text offset)) ≡ shifted_references text offset
references-moved text offset =
    ap references (pieces-moved text offset)
    ∙ references-joined_others (shifted_pieces offset (pieces text))
    ∙ references-shifted_pieces offset (pieces text) (are_cut-pieces text)
