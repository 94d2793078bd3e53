-- Where neighbouring Other pieces are made one, the text stays, and the pieces are those that it is
-- cut into.
use Rattle.std.proofs.Common.{◌≡◌, ℕ, ◌+◌, ◌⊎◌, ◌&&◌, Bool, true, false, cond, List, [], ◌∷◌, ◌++◌}
use Rattle.std.proofs.Common.{length, Some, sym, refl, ap, ◌∙◌, subst, inl, inr, arith}
use Rattle.std.proofs.Common.{append_assoc, length-append}
use Rattle.std.specs.List.{prefix_len, list_all}
use Rattle.formula_shift.specs.Pieces.{PieceKind, string_kind, quoted_kind, group_kind, word_kind}
use Rattle.formula_shift.specs.Pieces.{other_kind, PieceText, is_other_byte, length_behind}
use Rattle.formula_shift.specs.Pieces.{joined_pieces}
use Rattle.formula_shift.specs.Relocation.{is_other, other_of, before_others, joined_others}
use Rattle.formula_shift.proofs.Recutting.{first_kind, passes, begins, begins_other, other_is}
use Rattle.formula_shift.proofs.Recutting.{run_stops, StandsBefore, GrowsBefore, AreCut}

pub other_kind_is : (kind : PieceKind) → is_other kind ≡ true → kind ≡ other_kind
other_kind_is string_kind e = cc
other_kind_is quoted_kind e = cc
other_kind_is group_kind e = cc
other_kind_is word_kind e = cc
other_kind_is other_kind e = refl

-- the text stays
pub joined_pieces-before_others : (p : PieceText) (qs : List PieceText) →
    joined_pieces (before_others p qs) ≡ p.bytes ++ joined_pieces qs
joined_pieces-before_others p [] = refl
joined_pieces-before_others p (q ∷ qs) = by_test (is_other p.kind && is_other q.kind) where
  by_test : (both : Bool) →
      joined_pieces (cond both (other_of (p.bytes ++ q.bytes) ∷ qs) (p ∷ q ∷ qs))
      ≡ p.bytes ++ (q.bytes ++ joined_pieces qs)
  by_test true = append_assoc p.bytes q.bytes (joined_pieces qs)
  by_test false = refl

pub joined_pieces-joined_others : (ps : List PieceText) →
    joined_pieces (joined_others ps) ≡ joined_pieces ps
joined_pieces-joined_others [] = refl
joined_pieces-joined_others (p ∷ ps) = joined_pieces-before_others p (joined_others ps)
    ∙ ap (λ t. p.bytes ++ t) (joined_pieces-joined_others ps)

-- the kind of a piece that stands before a text is the first one before any
pub first_kind_is : (p : PieceText) (rest after : List ℕ) → StandsBefore p rest →
    first_kind (p.bytes ++ after) ≡ Some p.kind
first_kind_is p rest after stands = ap (λ t. first_kind (t ++ after)) stands.bytes_are
    ∙ ap Some (sym stands.kind_is)

begins_piece : (p : PieceText) (rest : List ℕ) → StandsBefore p rest →
    begins is_other_byte (p.bytes ++ rest) ≡ is_other p.kind
begins_piece p rest stands = begins_other (p.bytes ++ rest)
    ∙ ap (passes is_other) (first_kind_is p rest rest stands)

-- no Other begins behind an Other that ends
no_other_behind : (p : PieceText) (rest : List ℕ) → StandsBefore p rest → is_other p.kind ≡ true →
    begins is_other_byte rest ≡ false
no_other_behind p rest stands other =
    run_stops is_other_byte stands.behind rest
    (ap (λ k. length_behind k (stands.behind ++ rest)) (sym (other_kind_is p.kind other))
    ∙ stands.ends)

pub both_true : (a b : Bool) → (a && b) ≡ true → (a ≡ true) × (b ≡ true)
both_true true true e = (refl, refl)
both_true true false e = cc
both_true false b e = cc

-- two pieces of a text are never both Other
never_both : (p q : PieceText) (rest : List ℕ) → StandsBefore p (q.bytes ++ rest) →
    StandsBefore q rest → (is_other p.kind && is_other q.kind) ≡ false
never_both p q rest stands stands' =
    by_test (is_other p.kind && is_other q.kind) refl where
      by_test : (both : Bool) → (is_other p.kind && is_other q.kind) ≡ both → both ≡ false
      by_test false is = refl
      by_test true is =
          let others = both_true (is_other p.kind) (is_other q.kind) is in
          sym others.1 ∙ sym (begins_piece q rest stands')
          ∙ no_other_behind p (q.bytes ++ rest) stands others.0

run_on : (p : ℕ → Bool) (xs ys : List ℕ) → list_all p xs ≡ true →
    prefix_len p (xs ++ ys) ≡ length xs + prefix_len p ys
run_on p [] ys all = omega arith
run_on p (x ∷ xs) ys all = grind (arith, run_on p xs ys)

-- an Other that grows by the Other behind it
module _ (p q : PieceText) (rest : List ℕ) (grows : GrowsBefore p (q.bytes ++ rest))
    (stands : StandsBefore q rest) (other : is_other q.kind ≡ true) where
  whole_run : prefix_len is_other_byte (q.bytes ++ rest) ≡ length q.bytes
  whole_run =
      let first : is_other_byte stands.first ≡ true = sym (other_is stands.first)
      ∙ ap is_other (sym stands.kind_is) ∙ other in
      let ends : prefix_len is_other_byte (stands.behind ++ rest) ≡ length stands.behind =
      ap (λ k. length_behind k (stands.behind ++ rest)) (sym (other_kind_is q.kind other))
      ∙ stands.ends in
      ap (λ t. prefix_len is_other_byte (t ++ rest)) stands.bytes_are
      ∙ by_first stands.first stands.behind first ends
      ∙ sym (ap length stands.bytes_are) where
        by_first : (f : ℕ) (bs : List ℕ) → is_other_byte f ≡ true →
            prefix_len is_other_byte (bs ++ rest) ≡ length bs →
            prefix_len is_other_byte (f ∷ (bs ++ rest)) ≡ length (f ∷ bs)
        by_first f bs first ends = grind arith

  grown : StandsBefore (other_of (p.bytes ++ q.bytes)) rest
  grown = record {
    first = grows.first;
    behind = grows.behind ++ q.bytes;
    bytes_are = ap (λ t. t ++ q.bytes) grows.bytes_are;
    kind_is = sym (other_kind_is p.kind grows.is_other_kind) ∙ grows.kind_is;
    ends = ap (prefix_len is_other_byte) (append_assoc grows.behind q.bytes rest)
        ∙ run_on is_other_byte grows.behind (q.bytes ++ rest) grows.in_other
        ∙ ap (λ n. length grows.behind + n) whole_run
        ∙ sym (length-append grows.behind q.bytes);
  }

-- a piece that ends there, or an Other that goes on, before pieces that are cut
pub before_others-cut : (p : PieceText) (qs : List PieceText) →
    StandsBefore p (joined_pieces qs) ⊎ GrowsBefore p (joined_pieces qs) → AreCut qs →
    AreCut (before_others p qs)
before_others-cut p [] (inl stands) cut = (stands, tt)
before_others-cut p [] (inr grows) cut = let never : false ≡ true = grows.grows in cc
before_others-cut p (q ∷ qs) (inl stands) cut =
    subst (λ both. AreCut (cond both (other_of (p.bytes ++ q.bytes) ∷ qs) (p ∷ q ∷ qs)))
    (sym (never_both p q (joined_pieces qs) stands cut.0)) (stands, cut)
before_others-cut p (q ∷ qs) (inr grows) cut =
    let other : is_other q.kind ≡ true = sym (begins_piece q (joined_pieces qs) cut.0)
    ∙ grows.grows in
    let both : (is_other p.kind && is_other q.kind) ≡ true =
    λ i. grows.is_other_kind i && other i in
    subst (λ both. AreCut (cond both (other_of (p.bytes ++ q.bytes) ∷ qs) (p ∷ q ∷ qs)))
    (sym both) (grown p q (joined_pieces qs) grows cut.0 other, cut.1)

-- ---- where no two are neighbours

-- whether the first of some pieces is an Other
abbrev pub starts_other : List PieceText → Bool
starts_other [] = false
starts_other (p ∷ ps) = is_other p.kind

pub before_others-apart : (p : PieceText) (qs : List PieceText) →
    (is_other p.kind && starts_other qs) ≡ false → before_others p qs ≡ p ∷ qs
before_others-apart p [] apart = refl
before_others-apart p (q ∷ qs) apart =
    ap (λ both. cond both (other_of (p.bytes ++ q.bytes) ∷ qs) (p ∷ q ∷ qs)) apart

pub cut_apart : (p : PieceText) (ps : List PieceText) → AreCut (p ∷ ps) →
    (is_other p.kind && starts_other ps) ≡ false
cut_apart p [] cut = by_test (is_other p.kind) where
  by_test : (other : Bool) → (other && false) ≡ false
  by_test true = refl
  by_test false = refl
cut_apart p (q ∷ qs) cut = never_both p q (joined_pieces qs) cut.0 cut.1.0
