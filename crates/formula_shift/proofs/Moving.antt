-- The pieces of a moved text are the pieces of the text, moved, of which neighbouring Other pieces
-- are one.
use Rattle.std.proofs.Common.{◌≡◌, ℕ, ◌+◌, ◌*◌, ◌<◌, ◌≤◌, ◌⊎◌, ◌&&◌, Bool, true, false, cond, not}
use Rattle.std.proofs.Common.{List, [], ◌∷◌, ◌++◌, length, Option, None, Some, sym, refl, ap, ◌∙◌}
use Rattle.std.proofs.Common.{subst, inl, inr, arith, length-append, append-nil, eqb}
use Rattle.std.specs.Prelude.{IfSome, ℤ, option_to_list, codes}
use Rattle.std.specs.List.{prefix_len, list_all}
use Rattle.std.proofs.lemmas.Grind.{flat_map-append}
use Rattle.formula_shift.specs.declared.reference.Reference.{Reference}
use Rattle.formula_shift.specs.Pieces.{PieceKind, string_kind, quoted_kind, group_kind, word_kind}
use Rattle.formula_shift.specs.Pieces.{other_kind, PieceText, piece_kind, is_word_byte}
use Rattle.formula_shift.specs.Pieces.{is_other_byte, length_behind, pieces, joined_pieces}
use Rattle.formula_shift.specs.References.{IsInWorksheet, word_reference, shifted}
use Rattle.formula_shift.specs.Relocation.{is_word, is_other, is_name_before, first_byte}
use Rattle.formula_shift.specs.Relocation.{piece_reference, word_of, other_of, lost_pieces, image}
use Rattle.formula_shift.specs.Relocation.{image_or, shifted_piece, shifted_pieces, references}
use Rattle.formula_shift.specs.Relocation.{moved, joined_others}
use Rattle.formula_shift.proofs.Cutting.{joined_pieces-pieces}
use Rattle.formula_shift.proofs.Recutting.{first_kind, passes, begins, begins_other, is_quoted}
use Rattle.formula_shift.proofs.Recutting.{quoted_is, word_is, alike_by, word_stops, run_stops}
use Rattle.formula_shift.proofs.Recutting.{BeginsAlike, EndsAlike, length_behind_keeps}
use Rattle.formula_shift.proofs.Recutting.{StandsBefore, GrowsBefore, AreCut, are_cut-pieces}
use Rattle.formula_shift.proofs.Recutting.{pieces-joined_pieces}
use Rattle.formula_shift.proofs.Joining.{joined_pieces-joined_others, before_others-cut}
use Rattle.formula_shift.proofs.Joining.{first_kind_is, both_true}
use Rattle.formula_shift.proofs.Spellings.{IsWordText, word_reference_inside, shifted_inside}
use Rattle.formula_shift.proofs.Spellings.{spelling_is_word}

word_kind_is : (kind : PieceKind) → is_word kind ≡ true → kind ≡ word_kind
word_kind_is string_kind e = cc
word_kind_is quoted_kind e = cc
word_kind_is group_kind e = cc
word_kind_is word_kind e = refl
word_kind_is other_kind e = cc

-- a piece that is a reference is a Word, and names what is inside
pub piece_reference_word : (piece : PieceText) (behind : Option ℕ) →
    IfSome (piece_reference piece behind) (λ r. IsInWorksheet r × (piece.kind ≡ word_kind))
unfolding piece_reference
piece_reference_word piece behind =
    by_tests (is_word piece.kind) (not (is_name_before behind)) (word_reference piece.bytes)
    (word_reference_inside piece.bytes) (word_kind_is piece.kind) where
      by_tests : {K : Type 0} (a b : Bool) (o : Option Reference) → IfSome o IsInWorksheet →
          (a ≡ true → K) → IfSome (cond (a && b) o None) (λ r. IsInWorksheet r × K)
      by_tests true true None inside word = tt
      by_tests true true (Some r) inside word = (inside, word refl)
      by_tests true false o inside word = tt
      by_tests false b o inside word = tt

-- what stands for a piece in a moved text: the piece alone, or, where it is a Word, the pieces of
-- `#REF!` or another Word
abbrev pub IsWordImage : List PieceText → Type 0
IsWordImage qs = (qs ≡ lost_pieces)
    ⊎ ((q : PieceText) × (qs ≡ q ∷ []) × (q.kind ≡ word_kind) × IsWordText 25 q.bytes)

abbrev pub IsMovedFrom : PieceText → List PieceText → Type 0
IsMovedFrom p qs = (qs ≡ p ∷ []) ⊎ ((p.kind ≡ word_kind) × IsWordImage qs)

moved_by_reference : (offset : ℤ × ℤ) (p : PieceText) (o : Option Reference) →
    IfSome o (λ r. IsInWorksheet r × (p.kind ≡ word_kind)) → IsMovedFrom p (image_or p offset o)
moved_by_reference offset p None inside = inl refl
moved_by_reference offset p (Some r) inside =
    inr (inside.1, by_displaced (shifted offset r) (shifted_inside offset r inside.0)) where
      by_displaced : (o : Option Reference) → IfSome o IsInWorksheet → IsWordImage (image o)
      by_displaced None there = inl refl
      by_displaced (Some s) there = inr (word_of s, refl, refl, spelling_is_word s there)

pub is_moved : (offset : ℤ × ℤ) (p : PieceText) (behind : Option ℕ) →
    IsMovedFrom p (shifted_piece offset p behind)
is_moved offset p behind =
    moved_by_reference offset p (piece_reference p behind) (piece_reference_word p behind)

-- a run of a Word's bytes ends where the next byte is none of a Word's
pub run_is : (p : ℕ → Bool) (ws rest : List ℕ) → list_all p ws ≡ true → begins p rest ≡ false →
    prefix_len p (ws ++ rest) ≡ length ws
run_is p [] [] all stops = refl
run_is p [] (c ∷ r) all stops = grind arith
run_is p (w ∷ ws) rest all stops = grind (arith, run_is p ws rest)

word_piece_kind : (c : ℕ) → is_word_byte c ≡ true → piece_kind c ≡ word_kind
word_piece_kind c word = word_kind_is (piece_kind c) (word_is c ∙ word)

-- the first byte of a Word is one of a Word's, and so are the others
word_bytes : (w : ℕ) (ws : List ℕ) → list_all is_word_byte (w ∷ ws) ≡ true →
    (is_word_byte w ≡ true) × (list_all is_word_byte ws ≡ true)
word_bytes w ws all = both_true (is_word_byte w) (list_all is_word_byte ws) all

pub first_in_word : (w : ℕ) (ws : List ℕ) → list_all is_word_byte (w ∷ ws) ≡ true →
    is_word_byte w ≡ true
first_in_word w ws all = (word_bytes w ws all).0

-- a Word of these bytes stands before a text that begins with no byte of a Word's
word_stands : (q : PieceText) (bs rest : List ℕ) → q.bytes ≡ bs → q.kind ≡ word_kind →
    0 < length bs → list_all is_word_byte bs ≡ true → begins is_word_byte rest ≡ false →
    StandsBefore q rest
word_stands q [] rest are kind nonempty all stops = absurd (omega arith)
word_stands q (w ∷ ws) rest are kind nonempty all stops = record {
  first = w;
  behind = ws;
  bytes_are = are;
  kind_is = kind ∙ sym (word_piece_kind w (first_in_word w ws all));
  ends = ap (λ k. length_behind k (ws ++ rest)) kind
      ∙ run_is is_word_byte ws rest (word_bytes w ws all).1 stops;
}

run_all : (p : ℕ → Bool) (bs rest : List ℕ) → prefix_len p (bs ++ rest) ≡ length bs →
    list_all p bs ≡ true
run_all p [] rest ends = refl
run_all p (b ∷ bs) rest ends = grind (arith, run_all p bs rest)

-- a piece that stays, before a text that has become another
module _ (p : PieceText) (rest rest' : List ℕ) (stands : StandsBefore p rest)
    (alike : BeginsAlike rest rest') where
  ends_of : (kind : PieceKind) → p.kind ≡ kind →
      length_behind kind (stands.behind ++ rest) ≡ length stands.behind
  ends_of kind is = ap (λ k. length_behind k (stands.behind ++ rest)) (sym is) ∙ stands.ends

  stays_by : (kind : PieceKind) → p.kind ≡ kind → EndsAlike kind rest rest' → StandsBefore p rest'
  stays_by kind is ends_alike = record {
    first = stands.first;
    behind = stands.behind;
    bytes_are = stands.bytes_are;
    kind_is = stands.kind_is;
    ends = ap (λ k. length_behind k (stands.behind ++ rest')) is
        ∙ length_behind_keeps kind stands.behind rest rest' ends_alike (ends_of kind is);
  }

  some_alike : begins (λ c. true) rest ≡ begins (λ c. true) rest'
  some_alike = alike_by (λ c. true) (λ kind. true) (λ c. refl) refl rest rest' alike

  stays_before : (kind : PieceKind) → p.kind ≡ kind → StandsBefore p rest' ⊎ GrowsBefore p rest'
  stays_before string_kind is = inl (stays_by string_kind is some_alike)
  stays_before quoted_kind is =
      inl (stays_by quoted_kind is
      (some_alike, alike_by (λ c. eqb c 39) is_quoted quoted_is refl rest rest' alike))
  stays_before group_kind is = inl (stays_by group_kind is some_alike)
  stays_before word_kind is =
      inl (stays_by word_kind is
      (run_stops is_word_byte stands.behind rest (ends_of word_kind is)
      ∙ sym (word_stops stands.behind rest rest' (ends_of word_kind is) alike)))
  stays_before other_kind is = elim alike [
    | inl same ↦ inl (stays_by other_kind is
        (begins_other rest ∙ ap (passes is_other) same ∙ sym (begins_other rest')))
    | inr lost ↦ inr (record {
      first = stands.first;
      behind = stands.behind;
      bytes_are = stands.bytes_are;
      kind_is = stands.kind_is;
      is_other_kind = ap is_other is;
      in_other = run_all is_other_byte stands.behind rest (ends_of other_kind is);
      grows = begins_other rest' ∙ ap (passes is_other) lost.1;
    })
  ]

-- a piece in front of moved pieces
joined_cut : (p : PieceText) (after : List PieceText) →
    StandsBefore p (joined_pieces after) ⊎ GrowsBefore p (joined_pieces after) →
    AreCut (joined_others after) → AreCut (joined_others (p ∷ after))
joined_cut p after before cut =
    before_others-cut p (joined_others after)
    (subst (λ t. StandsBefore p t ⊎ GrowsBefore p t) (sym (joined_pieces-joined_others after))
    before) cut

mark_before : (rest : List ℕ) (other : Bool) → begins is_other_byte rest ≡ other →
    StandsBefore (other_of (codes "!")) rest ⊎ GrowsBefore (other_of (codes "!")) rest
mark_before rest true is = inr (record {
  first = 33;
  behind = [];
  bytes_are = refl;
  kind_is = refl;
  is_other_kind = refl;
  in_other = refl;
  grows = is;
})
mark_before rest false is = inl (record {
  first = 33;
  behind = [];
  bytes_are = refl;
  kind_is = refl;
  ends = run_is is_other_byte [] rest refl is;
})

lost_cut : (after : List PieceText) → AreCut (joined_others after) →
    AreCut (joined_others (lost_pieces ++ after))
lost_cut after cut =
    let rest = joined_pieces after in
    let word : PieceText = record { kind = word_kind; bytes = codes "REF" } in
    let mark = other_of (codes "!") in
    joined_cut (other_of (codes "#")) (word ∷ mark ∷ after) (inl (record {
      first = 35;
      behind = [];
      bytes_are = refl;
      kind_is = refl;
      ends = refl;
    }))
    (joined_cut word (mark ∷ after) (inl (record {
      first = 82;
      behind = codes "EF";
      bytes_are = refl;
      kind_is = refl;
      ends = refl;
    }))
    (joined_cut mark after (mark_before rest (begins is_other_byte rest) refl) cut))

-- qs stand before what is moved, where p stands before what it is moved from
module _ (p : PieceText) (rest : List ℕ) (qs after : List PieceText) (is_from : IsMovedFrom p qs)
    (stands : StandsBefore p rest) (alike : BeginsAlike rest (joined_pieces after)) where
  cut_moved : AreCut (joined_others after) → AreCut (joined_others (qs ++ after))
  cut_moved cut =
      elim is_from [
        | inl same ↦ subst (λ qs. AreCut (joined_others (qs ++ after))) (sym same)
            (joined_cut p after
            (stays_before p rest (joined_pieces after) stands alike p.kind refl) cut)
        | inr word ↦ elim word.1 [
          | inl lost ↦ subst (λ qs. AreCut (joined_others (qs ++ after))) (sym lost)
              (lost_cut after cut)
          | inr moved ↦ subst (λ qs. AreCut (joined_others (qs ++ after))) (sym moved.1)
              (joined_cut moved.0 after
              (inl (word_stands moved.0 moved.0.bytes (joined_pieces after) refl moved.2
              moved.3.nonempty moved.3.in_word (stops word.0))) cut)
        ]
      ] where
        stops : p.kind ≡ word_kind → begins is_word_byte (joined_pieces after) ≡ false
        stops is =
            word_stops stands.behind rest (joined_pieces after)
            (ends_of p rest (joined_pieces after) stands alike word_kind is) alike

  alike_moved : BeginsAlike (p.bytes ++ rest) (joined_pieces (qs ++ after))
  alike_moved =
      elim is_from [
        | inl same ↦ subst (λ qs. BeginsAlike (p.bytes ++ rest) (joined_pieces (qs ++ after)))
            (sym same) (inl (whole ∙ sym (first_kind_is p rest (joined_pieces after) stands)))
        | inr word ↦ elim word.1 [
          | inl lost ↦ subst (λ qs. BeginsAlike (p.bytes ++ rest) (joined_pieces (qs ++ after)))
              (sym lost) (inr (whole ∙ ap Some word.0, refl))
          | inr moved ↦ subst (λ qs. BeginsAlike (p.bytes ++ rest) (joined_pieces (qs ++ after)))
              (sym moved.1)
              (inl (whole ∙ ap Some word.0
              ∙ sym (by_bytes moved.0.bytes moved.3.nonempty moved.3.in_word)))
        ]
      ] where
        whole : first_kind (p.bytes ++ rest) ≡ Some p.kind
        whole = first_kind_is p rest rest stands

        by_bytes : (bs : List ℕ) → 0 < length bs → list_all is_word_byte bs ≡ true →
            first_kind (bs ++ joined_pieces after) ≡ Some word_kind
        by_bytes [] nonempty all = absurd (omega arith)
        by_bytes (w ∷ ws) nonempty all = ap Some (word_piece_kind w (first_in_word w ws all))

are_cut-moved : (offset : ℤ × ℤ) (ps : List PieceText) → AreCut ps →
    AreCut (joined_others (shifted_pieces offset ps))
    × BeginsAlike (joined_pieces ps) (joined_pieces (shifted_pieces offset ps))
are_cut-moved offset [] cut = (tt, inl refl)
are_cut-moved offset (p ∷ ps) cut =
    let qs = shifted_piece offset p (first_byte (joined_pieces ps)) in
    let is_from : IsMovedFrom p qs = is_moved offset p (first_byte (joined_pieces ps)) in
    let later = are_cut-moved offset ps cut.1 in (
      cut_moved p (joined_pieces ps) qs (shifted_pieces offset ps) is_from cut.0 later.1 later.0,
      alike_moved p (joined_pieces ps) qs (shifted_pieces offset ps) is_from cut.0 later.1,
    )

-- cutting the moved text gives the moved pieces, of which neighbouring Other pieces are one
pub pieces-moved : (text : List ℕ) (offset : ℤ × ℤ) →
    pieces (moved text offset) ≡ joined_others (shifted_pieces offset (pieces text))
unfolding moved
pieces-moved text offset =
    let qs = shifted_pieces offset (pieces text) in
    ap pieces (sym (joined_pieces-joined_others qs))
    ∙ pieces-joined_pieces (joined_others qs)
    (are_cut-moved offset (pieces text) (are_cut-pieces text)).0

-- ---- a scan over the pieces

joined_pieces-append : (ps qs : List PieceText) →
    joined_pieces (ps ++ qs) ≡ joined_pieces ps ++ joined_pieces qs
joined_pieces-append ps qs = flat_map-append (λ p. p.bytes) ps qs

pub moved-nil : (text : List ℕ) (offset : ℤ × ℤ) → pieces text ≡ [] → moved text offset ≡ []
unfolding moved
moved-nil text offset none = ap (λ ps. joined_pieces (shifted_pieces offset ps)) none

-- the piece p stands in front of rest, which the code has as `seen`
pub moved-next : (text rest seen : List ℕ) (offset : ℤ × ℤ) (p : PieceText) →
    pieces text ≡ p ∷ pieces rest → seen ≡ rest →
    moved text offset
    ≡ joined_pieces (shifted_piece offset p (first_byte seen)) ++ moved rest offset
unfolding moved
moved-next text rest seen offset p next same =
    ap (λ ps. joined_pieces (shifted_pieces offset ps)) next
    ∙ joined_pieces-append (shifted_piece offset p (first_byte (joined_pieces (pieces rest))))
    (shifted_pieces offset (pieces rest))
    ∙ ap (λ t. joined_pieces (shifted_piece offset p (first_byte t)) ++ joined_pieces
    (shifted_pieces offset (pieces rest))) (joined_pieces-pieces rest ∙ sym same)

pub length-moved-next : (text rest seen : List ℕ) (offset : ℤ × ℤ) (p : PieceText) →
    pieces text ≡ p ∷ pieces rest → seen ≡ rest →
    length (moved text offset)
    ≡ length (joined_pieces (shifted_piece offset p (first_byte seen)))
    + length (moved rest offset)
length-moved-next text rest seen offset p next same =
    ap length (moved-next text rest seen offset p next same)
    ∙ length-append (joined_pieces (shifted_piece offset p (first_byte seen))) (moved rest offset)

-- what stands for a piece has a byte, and at most 25 times as many as the piece
image_length : (p : PieceText) (rest : List ℕ) (qs : List PieceText) → IsMovedFrom p qs →
    StandsBefore p rest →
    (0 < length (joined_pieces qs)) × (length (joined_pieces qs) ≤ 25 * length p.bytes)
image_length p rest qs is_from stands =
    let nonempty : 0 < length p.bytes = omega (arith, ap length stands.bytes_are) in
    elim is_from [
      | inl same ↦
          let len : length (joined_pieces qs) ≡ length p.bytes =
          ap (λ qs. length (joined_pieces qs)) same ∙ ap length (append-nil p.bytes) in
          (omega (arith, len), omega (arith, len))
      | inr word ↦ elim word.1 [
        | inl lost ↦
            let len : length (joined_pieces qs) ≡ 5 = ap (λ qs. length (joined_pieces qs)) lost in
            (omega (arith, len), omega (arith, len))
        | inr moved ↦
            let len : length (joined_pieces qs) ≡ length moved.0.bytes =
            ap (λ qs. length (joined_pieces qs)) moved.1
            ∙ ap length (append-nil moved.0.bytes) in
            (omega (arith, len, moved.3.nonempty), omega (arith, len, moved.3.short))
      ]
    ]

-- a moved text is at most 25 times as long, and empty only where the text is
shifted_length : (offset : ℤ × ℤ) (ps : List PieceText) → AreCut ps →
    (length (joined_pieces (shifted_pieces offset ps)) ≤ 25 * length (joined_pieces ps))
    × (0 < length (joined_pieces ps) → 0 < length (joined_pieces (shifted_pieces offset ps)))
shifted_length offset [] cut = (omega arith, λ some. some)
shifted_length offset (p ∷ ps) cut =
    let qs = shifted_piece offset p (first_byte (joined_pieces ps)) in
    let one : (0 < length (joined_pieces qs))
    × (length (joined_pieces qs) ≤ 25 * length p.bytes) =
    image_length p (joined_pieces ps) qs (is_moved offset p (first_byte (joined_pieces ps))) cut.0
    in
    let whole : length (joined_pieces (qs ++ shifted_pieces offset ps))
    ≡ length (joined_pieces qs) + length (joined_pieces (shifted_pieces offset ps)) =
    ap length (joined_pieces-append qs (shifted_pieces offset ps))
    ∙ length-append (joined_pieces qs) (joined_pieces (shifted_pieces offset ps)) in (
      omega (
        arith,
        whole,
        one.1,
        length-append p.bytes (joined_pieces ps),
        (shifted_length offset ps cut.1).0,
      ),
      λ some. omega (arith, whole, one.0),
    )

pub length-moved-le : (text : List ℕ) (offset : ℤ × ℤ) →
    length (moved text offset) ≤ 25 * length text
unfolding moved
length-moved-le text offset =
    subst (λ t. length (joined_pieces (shifted_pieces offset (pieces text))) ≤ 25 * length t)
    (joined_pieces-pieces text) (shifted_length offset (pieces text) (are_cut-pieces text)).0

pub moved-some : (text : List ℕ) (offset : ℤ × ℤ) → 0 < length text →
    0 < length (moved text offset)
unfolding moved
moved-some text offset some =
    (shifted_length offset (pieces text) (are_cut-pieces text)).1
    (subst (λ t. 0 < length t) (sym (joined_pieces-pieces text)) some)

-- ---- a text without a reference

none_first : {A : Type 0} (o : Option A) (xs : List A) → option_to_list o ++ xs ≡ [] →
    (o ≡ None) × (xs ≡ [])
none_first None xs none = (refl, none)
none_first (Some x) xs none = cc

pub no_reference_stays : (offset : ℤ × ℤ) (ps : List PieceText) → references ps ≡ [] →
    shifted_pieces offset ps ≡ ps
no_reference_stays offset [] none = refl
no_reference_stays offset (p ∷ ps) none =
    let here = none_first (piece_reference p (first_byte (joined_pieces ps)))
    (references ps) none in
    (λ i. image_or p offset (here.0 i) ++ no_reference_stays offset ps here.1 i)

pub moved-without_reference : (text : List ℕ) (offset : ℤ × ℤ) → references (pieces text) ≡ [] →
    moved text offset ≡ text
unfolding moved
moved-without_reference text offset none =
    ap joined_pieces (no_reference_stays offset (pieces text) none) ∙ joined_pieces-pieces text
