-- References as they are spelled, and how a moved formula begins.
use Rattle.std.proofs.Common.{◌≡◌, ◌∙◌, ◌+◌, ◌<◌, ℕ, Bool, true, false, cond, eqb, List, [], ◌∷◌}
use Rattle.std.proofs.Common.{◌++◌, length, take, drop, Option, Some, None, refl, sym, ap, subst}
use Rattle.std.proofs.Common.{arith, suc}
use Rattle.std.specs.Prelude.{ℤ, IfSome}
use Rattle.std.specs.List.{prefix_len, list_all}
use Rattle.std.proofs.lemmas.Bool.Decides.{nat_tests}
use Rattle.std.proofs.lemmas.List.{take-append-drop}
use Rattle.formula_shift.specs.declared.corner.Corner.{Corner}
use Rattle.formula_shift.specs.declared.reference.Reference.{Reference}
use Rattle.formula_shift.specs.Pieces.{is_word_byte}
use Rattle.formula_shift.specs.Words.{word_kind, joined_pieces, shifted, word_reference, first_byte}
use Rattle.formula_shift.specs.Words.{moved}
use Rattle.formula_shift.specs.References.{corner_spelling, second_spelling, spelling}
use Rattle.formula_shift.specs.References.{IsCornerInside, IsInWorksheet}
use Rattle.formula_shift.specs.Relocation.{is_name_before, image, image_or}
use Rattle.formula_shift.proofs.Recutting.{begins}
use Rattle.formula_shift.proofs.Joining.{both_true}
use Rattle.formula_shift.proofs.ReadBack.{corner_reads_back}
use Rattle.formula_shift.proofs.Spellings.{word_reference_inside, shifted_inside}
use Rattle.graph_naming_laws.proofs.Corners.{is_corner_byte, corner_bytes, corner_some, run_passes}
use Rattle.graph_naming_laws.proofs.Corners.{corner_in_word}
use Rattle.graph_naming_laws.proofs.Errors.{run_over}
use Rattle.graph_naming_laws.proofs.Moves.{begins_kept, word_moved}

-- a corner is spelled by letters, digits and `$`, of which there are some
pub spelled_bytes : (c : Corner) → IsCornerInside c →
    list_all is_corner_byte (corner_spelling c) ≡ true
spelled_bytes c inside = corner_bytes (corner_spelling c) c (corner_reads_back c inside)

pub spelled_some : (c : Corner) → IsCornerInside c → 0 < length (corner_spelling c)
spelled_some c inside = corner_some (corner_spelling c) c (corner_reads_back c inside)

-- what a reference is spelled as begins with such a byte
pub spelled_begins : (p : ℕ → Bool) → ((b : ℕ) → is_corner_byte b ≡ true → p b ≡ false) →
    (r : Reference) (rest : List ℕ) → IsCornerInside r.first →
    begins p ((spelling r ++ []) ++ rest) ≡ false
unfolding spelling
spelled_begins p none r rest inside =
    by_bytes (corner_spelling r.first) (spelled_some r.first inside)
    (spelled_bytes r.first inside) where
      by_bytes : (bs : List ℕ) → 0 < length bs → list_all is_corner_byte bs ≡ true →
          begins p (((bs ++ second_spelling r.second) ++ []) ++ rest) ≡ false
      by_bytes [] some all = absurd (omega arith)
      by_bytes (b ∷ bs) some all =
          none b (both_true (is_corner_byte b) (list_all is_corner_byte bs) all).0

corner_no_colon : (b : ℕ) → is_corner_byte b ≡ true → eqb b 58 ≡ false
corner_no_colon b is = grind (arith, nat_tests)

image_begins : (offset : ℤ × ℤ) (p : ℕ → Bool) →
    ((b : ℕ) → is_word_byte b ≡ true → eqb b 58 ≡ false → p b ≡ false) → p 35 ≡ false →
    (u rest : List ℕ) (o : Option Reference) → IfSome o IsInWorksheet →
    begins p (u ++ rest) ≡ false → 0 < length u →
    begins p (joined_pieces (image_or (record { kind = word_kind; bytes = u }) offset o) ++ rest)
    ≡ false
image_begins offset p none hash u rest None inside own some = by_bytes u own some where
  by_bytes : (u : List ℕ) → begins p (u ++ rest) ≡ false → 0 < length u →
      begins p ((u ++ []) ++ rest) ≡ false
  by_bytes [] own some = absurd (omega arith)
  by_bytes (b ∷ bs) own some = own
image_begins offset p none hash u rest (Some r) inside own some =
    by_image (shifted offset r) (shifted_inside offset r inside) where
      by_image : (a : Option Reference) → IfSome a IsInWorksheet →
          begins p (joined_pieces (image a) ++ rest) ≡ false
      by_image None inside = hash
      by_image (Some s) inside =
          spelled_begins p (λ b is. none b (corner_in_word b is) (corner_no_colon b is)) s rest
          inside.0

pub at_place : (t : Bool) (u : List ℕ) → IfSome (cond t None (word_reference u)) IsInWorksheet
at_place true u = tt
at_place false u = word_reference_inside u

-- a moved formula begins with no byte that may not begin a Word, where the formula doesn't
pub moved_begins : (offset : ℤ × ℤ) (p : ℕ → Bool) →
    ((b : ℕ) → is_word_byte b ≡ true → eqb b 58 ≡ false → p b ≡ false) → p 35 ≡ false →
    (text : List ℕ) → begins p text ≡ false → begins p (moved text offset) ≡ false
moved_begins offset p none hash text own = by_test (begins is_word_byte text) refl where
  k : ℕ
  k = prefix_len is_word_byte text

  split : take k text ++ drop k text ≡ text
  split = take-append-drop k text

  longer : (text : List ℕ) → begins is_word_byte text ≡ true →
      0 < length (take (prefix_len is_word_byte text) text)
  longer [] is = absurd (cc)
  longer (b ∷ bs) is =
      let n = prefix_len is_word_byte bs in
      let more : cond (is_word_byte b) (1 + n) 0 ≡ 1 + n = ap (λ t. cond t (1 + n) 0) is in
      subst (λ m. 0 < length (take m (b ∷ bs))) (sym (more ∙ one_more n)) (omega arith) where
        one_more : (n : ℕ) → 1 + n ≡ suc n
        one_more n = omega arith

  by_test : (t : Bool) → begins is_word_byte text ≡ t → begins p (moved text offset) ≡ false
  by_test false no_word = begins_kept offset p text no_word ∙ own
  by_test true in_word =
      let u = take k text in
      let rest = drop k text in
      let o = cond (is_name_before (first_byte rest)) None (word_reference u) in
      ap (λ t. begins p (moved t offset)) (sym split)
      ∙ ap (begins p) (word_moved offset u rest o (longer text in_word)
      (run_passes is_word_byte text) (run_over is_word_byte text) refl)
      ∙ image_begins offset p none hash u (moved rest offset) o
      (at_place (is_name_before (first_byte rest)) u)
      (front_begins u (longer text in_word) (ap (begins p) split ∙ own))
      (longer text in_word) where
        front_begins : (u : List ℕ) → 0 < length u →
            begins p (u ++ drop k text) ≡ false → begins p (u ++ moved (drop k text) offset) ≡ false
        front_begins [] some own = absurd (omega arith)
        front_begins (b ∷ bs) some own = own
