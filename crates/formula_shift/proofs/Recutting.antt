-- Pieces that are cut alike: where each piece ends, whatever follows that begins alike.
use Rattle.std.proofs.Common.{◌≡◌, ℕ, zero, suc, ◌<◌, ◌⊎◌, Bool, true, false, cond, not, ◌||◌, eqb}
use Rattle.std.proofs.Common.{List, [], ◌∷◌, ◌++◌, length, take, drop, Option, None, Some, sym}
use Rattle.std.proofs.Common.{refl, ap, ◌∙◌, subst, inl, inr, arith}
use Rattle.std.proofs.lemmas.Bool.{cases_eq}
use Rattle.std.proofs.lemmas.Bool.Decides.{nat_tests}
use Rattle.std.proofs.lemmas.List.{take-append-drop, length-take-le, take_at, drop_at}
use Rattle.std.specs.List.{prefix_len, list_all}
use Rattle.formula_shift.specs.Pieces.{PieceKind, string_kind, quoted_kind, group_kind, word_kind}
use Rattle.formula_shift.specs.Pieces.{other_kind, PieceText, piece_kind, string_length}
use Rattle.formula_shift.specs.Pieces.{quoted_length, group_length, is_word_byte, is_other_byte}
use Rattle.formula_shift.specs.Pieces.{length_behind, pieces_behind, pieces, joined_pieces}
use Rattle.formula_shift.specs.Relocation.{is_word, is_other}
use Rattle.formula_shift.proofs.Cutting.{length_behind-le, joined_pieces-pieces_behind, pieces-nil}
use Rattle.formula_shift.proofs.Cutting.{pieces-cons}

abbrev pub is_quoted : PieceKind → Bool
is_quoted quoted_kind = true
is_quoted _ = false

-- a fact of a byte and its kind, from the three bytes that begin a kind alone and from all others
kind_by : (P : ℕ → PieceKind → Type 0) → P 34 string_kind → P 39 quoted_kind → P 91 group_kind →
    ((c : ℕ) → eqb c 34 ≡ false → eqb c 39 ≡ false → eqb c 91 ≡ false →
    P c (cond (is_word_byte c) word_kind other_kind)) → (c : ℕ) → P c (piece_kind c)
kind_by P quote apostrophe bracket others c =
    elim (cases_eq c 34) [
      | inl e ↦ subst (λ c. P c (piece_kind c)) (sym e) quote
      | inr not_quote ↦ elim (cases_eq c 39) [
        | inl e ↦ subst (λ c. P c (piece_kind c)) (sym e) apostrophe
        | inr not_apostrophe ↦ elim (cases_eq c 91) [
          | inl e ↦ subst (λ c. P c (piece_kind c)) (sym e) bracket
          | inr not_bracket ↦
              let a : eqb c 34 ≡ false = grind (arith, nat_tests) in
              let b : eqb c 39 ≡ false = grind (arith, nat_tests) in
              let d : eqb c 91 ≡ false = grind (arith, nat_tests) in
              rw (a, b, d) (others c a b d)
        ]
      ]
    ]

pub quoted_is : (c : ℕ) → is_quoted (piece_kind c) ≡ eqb c 39
quoted_is c = kind_by (λ c k. is_quoted k ≡ eqb c 39) refl refl refl
    (λ c a b d. by_word c (is_word_byte c) b) c where
      by_word : (c : ℕ) (w : Bool) → eqb c 39 ≡ false →
          is_quoted (cond w word_kind other_kind) ≡ eqb c 39
      by_word c true e = sym e
      by_word c false e = sym e

pub word_is : (c : ℕ) → is_word (piece_kind c) ≡ is_word_byte c
word_is c = kind_by (λ c k. is_word k ≡ is_word_byte c) refl refl refl
    (λ c a b d. by_word (is_word_byte c)) c where
      by_word : (w : Bool) → is_word (cond w word_kind other_kind) ≡ w
      by_word true = refl
      by_word false = refl

pub other_is : (c : ℕ) → is_other (piece_kind c) ≡ is_other_byte c
other_is c = kind_by (λ c k. is_other k ≡ is_other_byte c) refl refl refl
    (λ c a b d. by_word (is_word_byte c) (eqb c 34) (eqb c 39) (eqb c 91) a b d) c where
      by_word : (w a b d : Bool) → a ≡ false → b ≡ false → d ≡ false →
          is_other (cond w word_kind other_kind) ≡ not (w || a || b || d)
      by_word true a b d x y z = grind arith
      by_word false a b d x y z = grind arith

-- the kind of the piece that a text begins with
abbrev pub first_kind : List ℕ → Option PieceKind
first_kind [] = None
first_kind (b ∷ bs) = Some (piece_kind b)

quoted_positive : (c : ℕ) (r : List ℕ) → 0 < quoted_length (c ∷ r)
unfolding quoted_length
quoted_positive c [] = omega arith
quoted_positive c (d ∷ r) = grind arith

group_positive : (inner c : ℕ) (r : List ℕ) → 0 < group_length inner (c ∷ r)
unfolding group_length
group_positive inner c [] = omega arith
group_positive zero c (d ∷ r) = grind arith
group_positive (suc inner) c (d ∷ r) = grind arith

-- whether a text begins with a byte that passes
abbrev pub begins : (ℕ → Bool) → List ℕ → Bool
begins p [] = false
begins p (b ∷ bs) = p b

abbrev is_some : List ℕ → Bool
is_some text = begins (λ c. true) text

abbrev is_apostrophe_first : List ℕ → Bool
is_apostrophe_first text = begins (λ c. eqb c 39) text

-- Where a piece's bytes end before one text, they end before any other that begins like it, as far
-- as matters for the kind of the piece. bs are the bytes behind the first.
string_keeps : (bs rest rest' : List ℕ) → is_some rest ≡ is_some rest' →
    string_length (bs ++ rest) ≡ length bs → string_length (bs ++ rest') ≡ length bs
unfolding string_length
string_keeps [] [] [] alike ends = refl
string_keeps [] [] (c' ∷ r') alike ends = cc
string_keeps [] (c ∷ r) rest' alike ends = absurd (grind arith)
string_keeps (b ∷ bs) rest rest' alike ends = grind (arith, string_keeps bs rest rest' alike)

quoted_keeps : (bs rest rest' : List ℕ) → is_some rest ≡ is_some rest' →
    is_apostrophe_first rest ≡ is_apostrophe_first rest' →
    quoted_length (bs ++ rest) ≡ length bs → quoted_length (bs ++ rest') ≡ length bs
unfolding quoted_length
quoted_keeps [] [] [] alike apostrophes ends = refl
quoted_keeps [] [] (c' ∷ r') alike apostrophes ends = cc
quoted_keeps [] (c ∷ []) rest' alike apostrophes ends = absurd (grind arith)
quoted_keeps [] (c ∷ d ∷ r) rest' alike apostrophes ends = absurd (grind arith)
quoted_keeps (b ∷ []) [] [] alike apostrophes ends = refl
quoted_keeps (b ∷ []) [] (c' ∷ r') alike apostrophes ends = cc
quoted_keeps (b ∷ []) (c ∷ r) [] alike apostrophes ends = cc
quoted_keeps (b ∷ []) (c ∷ r) (c' ∷ r') alike apostrophes ends =
    grind (arith, apostrophes, quoted_positive c r)
quoted_keeps (b ∷ c ∷ bs) rest rest' alike apostrophes ends =
    grind (
      arith,
      quoted_keeps bs rest rest' alike apostrophes,
      quoted_keeps (c ∷ bs) rest rest' alike apostrophes,
    )

group_keeps : (inner : ℕ) (bs rest rest' : List ℕ) → is_some rest ≡ is_some rest' →
    group_length inner (bs ++ rest) ≡ length bs → group_length inner (bs ++ rest') ≡ length bs
unfolding group_length
group_keeps inner [] [] [] alike ends = refl
group_keeps inner [] [] (c' ∷ r') alike ends = cc
group_keeps inner [] (c ∷ []) rest' alike ends = absurd (grind arith)
group_keeps zero [] (c ∷ d ∷ r) rest' alike ends = absurd (grind arith)
group_keeps (suc inner) [] (c ∷ d ∷ r) rest' alike ends = absurd (grind arith)
group_keeps inner (b ∷ []) [] [] alike ends = refl
group_keeps inner (b ∷ []) [] (c' ∷ r') alike ends = cc
group_keeps inner (b ∷ []) (c ∷ r) [] alike ends = cc
group_keeps zero (b ∷ []) (c ∷ r) (c' ∷ r') alike ends =
    grind (arith, group_positive 1 c r, group_positive zero c r)
group_keeps (suc inner) (b ∷ []) (c ∷ r) (c' ∷ r') alike ends =
    absurd (grind (
      arith,
      group_positive (suc (suc inner)) c r,
      group_positive inner c r,
      group_positive (suc inner) c r,
    ))
group_keeps zero (b ∷ c ∷ bs) rest rest' alike ends =
    grind (
      arith,
      group_keeps zero bs rest rest' alike,
      group_keeps 1 (c ∷ bs) rest rest' alike,
      group_keeps zero (c ∷ bs) rest rest' alike,
    )
group_keeps (suc inner) (b ∷ c ∷ bs) rest rest' alike ends =
    grind (
      arith,
      group_keeps (suc inner) bs rest rest' alike,
      group_keeps (suc (suc inner)) (c ∷ bs) rest rest' alike,
      group_keeps inner (c ∷ bs) rest rest' alike,
      group_keeps (suc inner) (c ∷ bs) rest rest' alike,
    )

run_keeps : (p : ℕ → Bool) (bs rest rest' : List ℕ) → begins p rest ≡ begins p rest' →
    prefix_len p (bs ++ rest) ≡ length bs → prefix_len p (bs ++ rest') ≡ length bs
run_keeps p [] [] [] alike ends = refl
run_keeps p [] [] (c' ∷ r') alike ends = grind arith
run_keeps p [] (c ∷ r) [] alike ends = grind arith
run_keeps p [] (c ∷ r) (c' ∷ r') alike ends = grind arith
run_keeps p (b ∷ bs) rest rest' alike ends = grind (arith, run_keeps p bs rest rest' alike)

-- the texts begin alike, as far as the end of a piece of a kind before them depends on it
abbrev pub EndsAlike : PieceKind → List ℕ → List ℕ → Type 0
EndsAlike string_kind rest rest' = is_some rest ≡ is_some rest'
EndsAlike quoted_kind rest rest' =
    (is_some rest ≡ is_some rest') × (is_apostrophe_first rest ≡ is_apostrophe_first rest')
EndsAlike group_kind rest rest' = is_some rest ≡ is_some rest'
EndsAlike word_kind rest rest' = begins is_word_byte rest ≡ begins is_word_byte rest'
EndsAlike other_kind rest rest' = begins is_other_byte rest ≡ begins is_other_byte rest'

pub length_behind_keeps : (kind : PieceKind) (bs rest rest' : List ℕ) → EndsAlike kind rest rest' →
    length_behind kind (bs ++ rest) ≡ length bs → length_behind kind (bs ++ rest') ≡ length bs
length_behind_keeps string_kind bs rest rest' alike ends = string_keeps bs rest rest' alike ends
length_behind_keeps quoted_kind bs rest rest' alike ends =
    quoted_keeps bs rest rest' alike.0 alike.1 ends
length_behind_keeps group_kind bs rest rest' alike ends = group_keeps 0 bs rest rest' alike ends
length_behind_keeps word_kind bs rest rest' alike ends =
    run_keeps is_word_byte bs rest rest' alike ends
length_behind_keeps other_kind bs rest rest' alike ends =
    run_keeps is_other_byte bs rest rest' alike ends

-- whether there is a kind that passes
abbrev pub passes : (PieceKind → Bool) → Option PieceKind → Bool
passes q None = false
passes q (Some kind) = q kind

begins_by : (p : ℕ → Bool) (q : PieceKind → Bool) → ((c : ℕ) → q (piece_kind c) ≡ p c) →
    (text : List ℕ) → begins p text ≡ passes q (first_kind text)
begins_by p q is [] = refl
begins_by p q is (c ∷ r) = sym (is c)

begins_word : (text : List ℕ) → begins is_word_byte text ≡ passes is_word (first_kind text)
begins_word = begins_by is_word_byte is_word word_is

pub begins_other : (text : List ℕ) → begins is_other_byte text ≡ passes is_other (first_kind text)
begins_other = begins_by is_other_byte is_other other_is

-- two texts begin with pieces of one kind, or both are empty, or the Word with which the one begins
-- has become an Other
abbrev pub BeginsAlike : List ℕ → List ℕ → Type 0
BeginsAlike rest rest' = (first_kind rest ≡ first_kind rest')
    ⊎ ((first_kind rest ≡ Some word_kind) × (first_kind rest' ≡ Some other_kind))

pub alike_by : (p : ℕ → Bool) (q : PieceKind → Bool) → ((c : ℕ) → q (piece_kind c) ≡ p c) →
    q word_kind ≡ q other_kind → (rest rest' : List ℕ) → BeginsAlike rest rest' →
    begins p rest ≡ begins p rest'
alike_by p q is same rest rest' alike = begins_by p q is rest
    ∙ (elim alike [
      | inl same_kind ↦ ap (passes q) same_kind
      | inr lost ↦ ap (passes q) lost.0 ∙ same ∙ sym (ap (passes q) lost.1)
    ]) ∙ sym (begins_by p q is rest')

-- behind a Word no Word begins, and none begins where one has become an Other
pub run_stops : (p : ℕ → Bool) (bs rest : List ℕ) → prefix_len p (bs ++ rest) ≡ length bs →
    begins p rest ≡ false
run_stops p [] [] ends = refl
run_stops p [] (c ∷ r) ends = grind arith
run_stops p (b ∷ bs) rest ends = grind (arith, run_stops p bs rest)

pub word_stops : (bs rest rest' : List ℕ) → prefix_len is_word_byte (bs ++ rest) ≡ length bs →
    BeginsAlike rest rest' → begins is_word_byte rest' ≡ false
word_stops bs rest rest' ends alike = begins_word rest'
    ∙ (elim alike [
      | inl same_kind ↦ sym (ap (passes is_word) same_kind) ∙ sym (begins_word rest)
          ∙ run_stops is_word_byte bs rest ends
      | inr lost ↦ ap (passes is_word) lost.1
    ])

-- a piece stands before a text where its bytes are what belongs to the first piece of both together
pub record StandsBefore (p : PieceText) (rest : List ℕ) : Type 0 where
  pub first : ℕ
  pub behind : List ℕ
  pub bytes_are : p.bytes ≡ first ∷ behind
  pub kind_is : p.kind ≡ piece_kind first
  pub ends : length_behind p.kind (behind ++ rest) ≡ length behind

-- an Other before an Other, of whose bytes each may stand in an Other
pub record GrowsBefore (p : PieceText) (rest : List ℕ) : Type 0 where
  pub first : ℕ
  pub behind : List ℕ
  pub bytes_are : p.bytes ≡ first ∷ behind
  pub kind_is : p.kind ≡ piece_kind first
  pub is_other_kind : is_other p.kind ≡ true
  pub in_other : list_all is_other_byte behind ≡ true
  pub grows : begins is_other_byte rest ≡ true

-- each piece stands before those behind it
abbrev pub AreCut : List PieceText → Type 0
AreCut [] = Unit {0}
AreCut (p ∷ ps) = StandsBefore p (joined_pieces ps) × AreCut ps

are_cut_behind : (n : ℕ) (bs : List ℕ) → AreCut (pieces_behind n bs)
unfolding pieces_behind
are_cut_behind n [] = tt
are_cut_behind (suc n) (b ∷ bs) = are_cut_behind n bs
are_cut_behind zero (b ∷ bs) =
    let m = length_behind (piece_kind b) bs in (
      record {
        first = b;
        behind = take m bs;
        bytes_are = refl;
        kind_is = refl;
        ends = ap (λ rest. length_behind (piece_kind b) (take m bs ++ rest))
            (joined_pieces-pieces_behind m bs)
            ∙ ap (length_behind (piece_kind b)) (take-append-drop m bs)
            ∙ sym (length-take-le m bs (length_behind-le (piece_kind b) bs));
      },
      are_cut_behind m bs,
    )

pub are_cut-pieces : (text : List ℕ) → AreCut (pieces text)
unfolding pieces
are_cut-pieces text = are_cut_behind 0 text

-- such pieces are those that their text is cut into
first_of_joined : (p : PieceText) (rest : List ℕ) → StandsBefore p rest →
    pieces (p.bytes ++ rest) ≡ p ∷ pieces rest
first_of_joined p rest stands =
    let b = stands.first in
    let bs = stands.behind in
    let counted : length_behind (piece_kind b) (bs ++ rest) ≡ length bs =
    ap (λ k. length_behind k (bs ++ rest)) (sym stands.kind_is) ∙ stands.ends in
    let cut : pieces (b ∷ (bs ++ rest))
    ≡ record { kind = piece_kind b; bytes = b ∷ take (length bs) (bs ++ rest) } ∷ pieces
    (drop (length bs) (bs ++ rest)) =
    subst (λ k. pieces (b ∷ (bs ++ rest))
    ≡ record { kind = piece_kind b; bytes = b ∷ take k (bs ++ rest) } ∷ pieces
    (drop k (bs ++ rest))) counted (pieces-cons b (bs ++ rest)) in
    let front : take (length bs) (bs ++ rest) ≡ bs = take_at bs rest (length bs) refl in
    let after : drop (length bs) (bs ++ rest) ≡ rest = drop_at bs rest (length bs) refl in
    let whole : record { kind = piece_kind b; bytes = b ∷ bs } ≡ p =
    λ i. record { kind = sym stands.kind_is i; bytes = sym stands.bytes_are i } in
    ap (λ t. pieces (t ++ rest)) stands.bytes_are ∙ cut
    ∙ (λ i. record { kind = piece_kind b; bytes = b ∷ front i } ∷ pieces (after i))
    ∙ ap (λ q. q ∷ pieces rest) whole

pub pieces-joined_pieces : (ps : List PieceText) → AreCut ps → pieces (joined_pieces ps) ≡ ps
pieces-joined_pieces [] cut = pieces-nil
pieces-joined_pieces (p ∷ ps) cut = first_of_joined p (joined_pieces ps) cut.0
    ∙ ap (λ qs. p ∷ qs) (pieces-joined_pieces ps cut.1)
