-- The references of a moved text that don't stand behind `!` are those of the text, moved, and
-- those that leave are left out.
use Rattle.std.proofs.Common.{◌≡◌, ℕ, ◌⊎◌, ◌&&◌, Bool, true, false, cond, not, List, [], ◌∷◌, ◌++◌}
use Rattle.std.proofs.Common.{Option, None, Some, sym, refl, ap, ◌∙◌, subst, inl, inr, append-nil}
use Rattle.std.specs.Prelude.{IfSome, ℤ, option_to_list}
use Rattle.std.specs.List.{flat_map}
use Rattle.std.proofs.lemmas.Grind.{flat_map-append}
use Rattle.formula_shift.specs.declared.reference.Reference.{Reference}
use Rattle.formula_shift.specs.Areas.{last_byte, is_elsewhere, own_references}
use Rattle.formula_shift.specs.Pieces.{word_kind, PieceText, is_word_byte, length_behind, pieces}
use Rattle.formula_shift.specs.Pieces.{joined_pieces}
use Rattle.formula_shift.specs.References.{IsInWorksheet, word_reference, shifted, spelling}
use Rattle.formula_shift.specs.Relocation.{is_word, is_other, is_name_before, first_byte}
use Rattle.formula_shift.specs.Relocation.{piece_reference, word_of, other_of, lost_pieces, image}
use Rattle.formula_shift.specs.Relocation.{image_or, shifted_pieces, moved, before_others}
use Rattle.formula_shift.specs.Relocation.{joined_others}
use Rattle.formula_shift.proofs.Recutting.{begins, run_stops, word_is, StandsBefore, AreCut}
use Rattle.formula_shift.proofs.Recutting.{are_cut-pieces}
use Rattle.formula_shift.proofs.Joining.{other_kind_is, both_true, joined_pieces-joined_others}
use Rattle.formula_shift.proofs.Spellings.{shifted_inside}
use Rattle.formula_shift.proofs.Moving.{piece_reference_word, pieces-moved}
use Rattle.formula_shift.proofs.ReadBack.{IsFormed}
use Rattle.formula_shift.proofs.Composing.{shifted_twice, piece_reference_alike}
use Rattle.formula_shift.proofs.Composing.{piece_reference_formed, piece_reference_spelled}
use Rattle.formula_shift.proofs.Composing.{name_kept}

-- the references of a piece that is this one, or none, behind this byte
abbrev own : Option ℕ → Option Reference → List Reference
own before o = cond (is_elsewhere before) [] (option_to_list o)

own_none : (before : Option ℕ) → own before None ≡ []
own_none before = by_test (is_elsewhere before) where
  by_test : (elsewhere : Bool) → cond {A = List Reference} elsewhere [] [] ≡ []
  by_test true = refl
  by_test false = refl

no_word_none : (p : PieceText) (behind : Option ℕ) → is_word p.kind ≡ false →
    piece_reference p behind ≡ None
unfolding piece_reference
no_word_none p behind none =
    ap (λ word. cond (word && not (is_name_before behind)) (word_reference p.bytes) None) none

-- ---- neighbouring Other pieces made one

other_no_word : (p : PieceText) → is_other p.kind ≡ true → is_word p.kind ≡ false
other_no_word p other = ap is_word (other_kind_is p.kind other)

last_byte-append : (before : Option ℕ) (bs cs : List ℕ) →
    last_byte before (bs ++ cs) ≡ last_byte (last_byte before bs) cs
last_byte-append before [] cs = refl
last_byte-append before (b ∷ bs) cs = last_byte-append (Some b) bs cs

-- behind an Other the references are those behind its last byte
own_behind : (before : Option ℕ) (p : PieceText) (ps : List PieceText) → is_word p.kind ≡ false →
    own_references before (p ∷ ps) ≡ own_references (last_byte before p.bytes) ps
own_behind before p ps none =
    ap (λ o. own before o ++ own_references (last_byte before p.bytes) ps)
    (no_word_none p (first_byte (joined_pieces ps)) none)
    ∙ ap (λ rs. rs ++ own_references (last_byte before p.bytes) ps) (own_none before)

own_references-before_others : (before : Option ℕ) (p : PieceText) (qs : List PieceText) →
    own_references before (before_others p qs) ≡ own_references before (p ∷ qs)
own_references-before_others before p [] = refl
own_references-before_others before p (q ∷ qs) =
    by_test (is_other p.kind && is_other q.kind) refl where
      by_test : (both : Bool) → (is_other p.kind && is_other q.kind) ≡ both →
          own_references before (cond both (other_of (p.bytes ++ q.bytes) ∷ qs) (p ∷ q ∷ qs))
          ≡ own_references before (p ∷ q ∷ qs)
      by_test false are = refl
      by_test true are =
          let others = both_true (is_other p.kind) (is_other q.kind) are in
          own_behind before (other_of (p.bytes ++ q.bytes)) qs refl
          ∙ ap (λ b. own_references b qs) (last_byte-append before p.bytes q.bytes)
          ∙ sym (own_behind (last_byte before p.bytes) q qs (other_no_word q others.1))
          ∙ sym (own_behind before p (q ∷ qs) (other_no_word p others.0))

-- the references are the same over pieces of which neighbouring Other pieces are one
pub own_references-joined_others : (before : Option ℕ) (ps : List PieceText) →
    own_references before (joined_others ps) ≡ own_references before ps
own_references-joined_others before [] = refl
own_references-joined_others before (p ∷ ps) =
    own_references-before_others before p (joined_others ps)
    ∙ (λ i. own before (piece_reference p (first_byte (joined_pieces-joined_others ps i)))
    ++ own_references-joined_others (last_byte before p.bytes) ps i)

-- ---- moved pieces

-- the references that one becomes
abbrev kept : ℤ × ℤ → Reference → List Reference
kept d r = option_to_list (shifted d r)

-- whether the first of some pieces is a Word
abbrev starts_word : List PieceText → Bool
starts_word [] = false
starts_word (p ∷ ps) = is_word p.kind

-- behind a Word stands no Word
apart : (p : PieceText) (ps : List PieceText) → p.kind ≡ word_kind → AreCut (p ∷ ps) →
    starts_word ps ≡ false
apart p [] word cut = refl
apart p (q ∷ qs) word cut =
    let stands = cut.0 in
    let follows = cut.1.0 in
    let stops : begins is_word_byte (q.bytes ++ joined_pieces qs) ≡ false =
    run_stops is_word_byte stands.behind (q.bytes ++ joined_pieces qs)
    (ap (λ kind. length_behind kind (stands.behind ++ (q.bytes ++ joined_pieces qs))) (sym word)
    ∙ stands.ends) in
    ap is_word follows.kind_is ∙ word_is follows.first
    ∙ sym (ap (λ t. begins is_word_byte (t ++ joined_pieces qs)) follows.bytes_are) ∙ stops

-- Both bytes are `!` or none is, as far as it matters: only before a Word.
abbrev StandAlike : Option ℕ → Option ℕ → List PieceText → Type 0
StandAlike before after ps = (is_elsewhere before ≡ is_elsewhere after) ⊎ (starts_word ps ≡ false)

-- the last byte of a piece is its own
last_own : (p : PieceText) (rest : List ℕ) (before after : Option ℕ) → StandsBefore p rest →
    last_byte before p.bytes ≡ last_byte after p.bytes
last_own p rest before after stands =
    ap (last_byte before) stands.bytes_are ∙ sym (ap (last_byte after) stands.bytes_are)

lost_none : (before : Option ℕ) (ps : List PieceText) →
    own_references before (lost_pieces ++ ps) ≡ own_references (Some 33) ps
unfolding piece_reference
lost_none before ps = ap (λ rs. rs ++ own_references (Some 33) ps) (own_none before)

kept_own : (d : ℤ × ℤ) (r : Reference) (a : Option Reference) → shifted d r ≡ a →
    (elsewhere : Bool) →
    flat_map (kept d) (cond elsewhere [] (r ∷ [])) ≡ cond elsewhere [] (option_to_list a)
kept_own d r a there true = refl
kept_own d r a there false =
    append-nil (option_to_list (shifted d r)) ∙ ap (λ o. option_to_list o) there

-- what stands for a piece, in front of others that have these references
module _ (d : ℤ × ℤ) (p : PieceText) (behind : Option ℕ) (later : List PieceText)
    (before after : Option ℕ) (rs : List Reference)
    (alike : is_name_before behind ≡ is_name_before (first_byte (joined_pieces later)))
    (stand : (is_elsewhere before ≡ is_elsewhere after) ⊎ (is_word p.kind ≡ false))
    (behind_piece : own_references (last_byte after p.bytes) later ≡ rs)
    (behind_word : p.kind ≡ word_kind → (b : Option ℕ) → own_references b later ≡ rs) where
  stand_word : p.kind ≡ word_kind → is_elsewhere before ≡ is_elsewhere after
  stand_word word = elim stand [
    | inl both ↦ both
    | inr none ↦ let never : true ≡ false = sym (ap is_word word) ∙ none in absurd (cc)
  ]

  front_own : (o : Option Reference) → piece_reference p behind ≡ o →
      own_references after (image_or p d o ++ later)
      ≡ flat_map (kept d) (own before o) ++ rs
  front_own None is =
      ap (λ o. own after o ++ own_references (last_byte after p.bytes) later)
      (sym (piece_reference_alike p behind (first_byte (joined_pieces later)) alike) ∙ is)
      ∙ ap (λ first. first ++ own_references (last_byte after p.bytes) later) (own_none after)
      ∙ behind_piece
      ∙ sym (ap (λ first. flat_map (kept d) first ++ rs) (own_none before))
  front_own (Some r) is =
      let known = subst (λ o. IfSome o (λ r. IsInWorksheet r × (p.kind ≡ word_kind))) is
      (piece_reference_word p behind) in
      let formed = subst (λ o. IfSome o (λ r. IsFormed r × (is_name_before behind ≡ false))) is
      (piece_reference_formed p behind) in
      by_answer (shifted d r) refl known.0 known.1 formed.0 formed.1 where
        by_answer : (a : Option Reference) → shifted d r ≡ a → IsInWorksheet r →
            p.kind ≡ word_kind → IsFormed r → is_name_before behind ≡ false →
            own_references after (image a ++ later)
            ≡ flat_map (kept d) (cond (is_elsewhere before) [] (r ∷ [])) ++ rs
        by_answer None there inside word formed none =
            lost_none after later ∙ behind_word word (Some 33)
            ∙ sym (ap (λ first. first ++ rs)
            (kept_own d r None there (is_elsewhere before) ∙ own_none before))
        by_answer (Some s) there inside word formed none =
            let inside' : IsInWorksheet s =
            subst (λ o. IfSome o IsInWorksheet) there (shifted_inside d r inside) in
            let spelled : piece_reference (word_of s) (first_byte (joined_pieces later)) ≡ Some s =
            piece_reference_spelled s (first_byte (joined_pieces later)) inside'
            (shifted_twice d d r s there formed).0 (sym alike ∙ none) in
            (λ i. own after (spelled i) ++ behind_word word (last_byte after (spelling s)) i)
            ∙ sym (ap (λ first. first ++ rs)
            (kept_own d r (Some s) there (is_elsewhere before)
            ∙ ap (λ elsewhere. cond elsewhere [] (s ∷ [])) (stand_word word)))

own_references-shifted_pieces : (d : ℤ × ℤ) (before after : Option ℕ) (ps : List PieceText) →
    AreCut ps → StandAlike before after ps →
    own_references after (shifted_pieces d ps) ≡ flat_map (kept d) (own_references before ps)
own_references-shifted_pieces d before after [] cut alike = refl
own_references-shifted_pieces d before after (p ∷ ps) cut alike =
    let behind = first_byte (joined_pieces ps) in
    let o = piece_reference p behind in
    let last = last_byte before p.bytes in
    let rs = flat_map (kept d) (own_references last ps) in
    let behind_piece : own_references (last_byte after p.bytes) (shifted_pieces d ps) ≡ rs =
    own_references-shifted_pieces d last (last_byte after p.bytes) ps cut.1
    (inl (ap is_elsewhere (last_own p (joined_pieces ps) before after cut.0))) in
    let behind_word : p.kind ≡ word_kind → (b : Option ℕ) →
    own_references b (shifted_pieces d ps) ≡ rs =
    λ word b. own_references-shifted_pieces d last b ps cut.1 (inr (apart p ps word cut)) in
    front_own d p behind (shifted_pieces d ps) before after rs (name_kept d ps cut.1) alike
    behind_piece behind_word o refl
    ∙ sym (flat_map-append (kept d) (own before o) (own_references last ps))

pub own_references-moved : (text : List ℕ) (offset : ℤ × ℤ) →
    own_references None (pieces (moved text offset))
    ≡ flat_map (kept offset) (own_references None (pieces text))
own_references-moved text offset =
    ap (own_references None) (pieces-moved text offset)
    ∙ own_references-joined_others None (shifted_pieces offset (pieces text))
    ∙ own_references-shifted_pieces offset None None (pieces text) (are_cut-pieces text) (inl refl)
