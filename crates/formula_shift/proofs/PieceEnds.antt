-- A text that is known to begin with a piece of so many bytes, and the places behind its pieces.
use Rattle.std.proofs.Common.{◌≡◌, ℕ, suc, ◌+◌, ◌-◌, ◌<◌, ◌≤◌, List, [], ◌∷◌, length, get_or, take}
use Rattle.std.proofs.Common.{drop, Some, IsUtf8, sym, refl, ap, ◌∙◌, subst, arith, add-one}
use Rattle.std.proofs.Common.{length-append}
use Rattle.std.specs.Str.{IsCharBoundary}
use Rattle.std.proofs.Math.Seq.{drop-cons}
use Rattle.std.specs.Prelude.{All}
use Rattle.std.proofs.lemmas.List.{length-take-le, drop-drop}
use Rattle.std.proofs.lemmas.List.Elements.{All-nil, All-cons}
use Rattle.std.proofs.lemmas.Str.{IsUtf8-drop, IsCharBoundary-from_rest}
use Rattle.formula_shift.specs.Pieces.{PieceText, piece_kind, length_behind, pieces, joined_pieces}
use Rattle.formula_shift.specs.Pieces.{first_size, piece_ends}
use Rattle.formula_shift.proofs.Cutting.{pieces-nil, pieces-cons, length_behind-le}
use Rattle.formula_shift.proofs.Cutting.{boundary_behind_piece, next_pieces, joined_pieces-pieces}

first_of_none : (size : ℕ) → first_size (pieces []) ≡ Some size → ⊥
first_of_none size first = let none = sym first ∙ ap first_size pieces-nil in cc

first_of : (b : ℕ) (bs : List ℕ) (size : ℕ) → first_size (pieces (b ∷ bs)) ≡ Some size →
    size ≡ length_behind (piece_kind b) bs + 1
first_of b bs size first =
    let n = length_behind (piece_kind b) bs in
    let same : Some size ≡ Some (suc (length (take n bs))) =
    sym first ∙ ap first_size (pieces-cons b bs) in
    grind (arith, same, length-take-le n bs (length_behind-le (piece_kind b) bs))

pub first_boundary : (text : List ℕ) (size : ℕ) → first_size (pieces text) ≡ Some size →
    IsUtf8 text → IsCharBoundary text size
first_boundary [] size first utf8 = absurd (first_of_none size first)
first_boundary (b ∷ bs) size first utf8 =
    subst (IsCharBoundary (b ∷ bs)) (sym (first_of b bs size first))
    (boundary_behind_piece b bs utf8)

pub first_some : (text : List ℕ) (size : ℕ) → first_size (pieces text) ≡ Some size →
    (0 < size) × (size ≤ length text)
first_some [] size first = absurd (first_of_none size first)
first_some (b ∷ bs) size first =
    let is = first_of b bs size first in
    (omega (arith, is), omega (arith, is, length_behind-le (piece_kind b) bs))

pub first_pieces : (text : List ℕ) (size : ℕ) → first_size (pieces text) ≡ Some size →
    (front after : List ℕ) → front ≡ take size text → after ≡ drop size text →
    pieces text
    ≡ record { kind = piece_kind (get_or front 0 0); bytes = front } ∷ pieces after
first_pieces [] size first front after front_is after_is = absurd (first_of_none size first)
first_pieces (b ∷ bs) size first front after front_is after_is =
    let n = length_behind (piece_kind b) bs in
    let is = first_of b bs size first in
    let front_now : front ≡ take (n + 1) (b ∷ bs) =
    front_is ∙ ap (λ k. take k (b ∷ bs)) is in
    let begins : b ≡ get_or front 0 0 =
    sym (ap (λ t. get_or t 0 0) (front_now ∙ ap (λ k. take k (b ∷ bs)) (add-one n))) in
    next_pieces (b ∷ bs) b bs n refl refl front after front_now
    (after_is ∙ ap (λ k. drop k (b ∷ bs)) is)
    ∙ ap (λ k. record { kind = piece_kind k; bytes = front } ∷ pieces after) begins

-- the place behind the first of some pieces, and those behind the others
first_end : (from : ℕ) (ps : List PieceText) (end : ℕ) (others : List ℕ) →
    end ∷ others ≡ piece_ends from ps →
    (from ≤ end) × (first_size ps ≡ Some (end - from))
first_end from [] end others are = cc
first_end from (p ∷ ps) end others are =
    let is : end ≡ from + length p.bytes = cc in
    let size : length p.bytes ≡ end - from = omega (arith, is) in
    (omega (arith, is), ap Some size)

other_ends : (from : ℕ) (p : PieceText) (ps : List PieceText) (end : ℕ) (others : List ℕ) →
    end ∷ others ≡ piece_ends from (p ∷ ps) → others ≡ piece_ends end ps
other_ends from p ps end others are =
    let is : end ≡ from + length p.bytes = cc in
    let later : others ≡ piece_ends (from + length p.bytes) ps = cc in
    later ∙ ap (λ at. piece_ends at ps) (sym is)

-- at the i-th of the places, which the code has taken up to there
module _ (ends : List ℕ) (i from : ℕ) (text : List ℕ) (more : i < length ends)
    (places : drop i ends ≡ piece_ends from (pieces text)) where
  pub end_found : (from ≤ get_or ends i 0)
      × (first_size (pieces text) ≡ Some (get_or ends i 0 - from))
  end_found = first_end from (pieces text) (get_or ends i 0) (drop (suc i) ends)
      (sym (drop-cons ends i 0 more) ∙ places)

  pub ends_behind : (p : PieceText) (rest : List ℕ) → pieces text ≡ p ∷ pieces rest →
      drop (i + 1) ends ≡ piece_ends (get_or ends i 0) (pieces rest)
  ends_behind p rest first =
      ap (λ k. drop k ends) (add-one i)
      ∙ other_ends from p (pieces rest) (get_or ends i 0) (drop (suc i) ends)
      (sym (drop-cons ends i 0 more) ∙ places ∙ ap (piece_ends from) first)

-- behind the last place nothing is left
pub no_ends : (from : ℕ) (ps : List PieceText) → piece_ends from ps ≡ [] → ps ≡ []
no_ends from [] none = refl
no_ends from (p ∷ ps) none = cc

-- a text has the bytes of its first piece and those of what stands behind it
pub length_behind_first : (text rest : List ℕ) (p : PieceText) → pieces text ≡ p ∷ pieces rest →
    length text ≡ length p.bytes + length rest
length_behind_first text rest p first =
    ap length (sym (joined_pieces-pieces text) ∙ ap joined_pieces first)
    ∙ length-append p.bytes (joined_pieces (pieces rest))
    ∙ ap (λ t. length p.bytes + length t) (joined_pieces-pieces rest)

-- behind each piece the text may be cut; the first of these pieces stands at a place of the whole
boundaries_from : (whole : List ℕ) (at : ℕ) (ps : List PieceText) → at ≤ length whole →
    IsUtf8 (drop at whole) → pieces (drop at whole) ≡ ps →
    All (IsCharBoundary whole) (piece_ends at ps)
boundaries_from whole at [] within utf8 are = All-nil (IsCharBoundary whole)
boundaries_from whole at (p ∷ ps) within utf8 are =
    let text = drop at whole in
    let size = length p.bytes in
    let first : first_size (pieces text) ≡ Some size = ap first_size are in
    let here = first_boundary text size first utf8 in
    let whole_boundary = IsCharBoundary-from_rest whole at size within here in
    let cut = sym (first_pieces text size first (take size text) (drop size text) refl refl)
    ∙ are in
    let later : pieces (drop size text) ≡ ps = cc in
    All-cons (IsCharBoundary whole) (at + size) (piece_ends (at + size) ps) whole_boundary
    (boundaries_from whole (at + size) ps whole_boundary.0
    (subst IsUtf8 (drop-drop size at whole) (IsUtf8-drop text size utf8 here))
    (ap pieces (sym (drop-drop size at whole)) ∙ later))

pub ends_boundaries : (text : List ℕ) → IsUtf8 text →
    All (IsCharBoundary text) (piece_ends 0 (pieces text))
ends_boundaries text utf8 = boundaries_from text 0 (pieces text) (omega arith) utf8 refl
