-- The Words of a moved formula are cut as tokens are, where those of the formula are.
use Rattle.std.proofs.Common.{◌≡◌, ◌∙◌, ◌<◌, ◌&&◌, ◌||◌, ℕ, Bool, true, false, cond, not, List, []}
use Rattle.std.proofs.Common.{◌∷◌, ◌++◌, Option, Some, None, refl, sym, ap, subst, arith, length}
use Rattle.std.specs.Prelude.{◌==◌, ℤ, IfSome}
use Rattle.std.specs.List.{list_all, list_any, prefix_len}
use Rattle.std.proofs.lemmas.Bool.Decides.{nat_tests}
use Rattle.formula_shift.specs.declared.reference.Reference.{Reference}
use Rattle.formula_shift.specs.Words.{last_byte, word_kind, PieceText, pieces, joined_pieces}
use Rattle.formula_shift.specs.Words.{word_reference, shifted, first_byte, moved}
use Rattle.formula_shift.specs.Pieces.{is_word_byte, length_behind}
use Rattle.formula_shift.specs.References.{spelling, IsInWorksheet}
use Rattle.formula_shift.specs.Relocation.{is_word, is_other, is_name_before, piece_reference}
use Rattle.formula_shift.specs.Relocation.{other_of, image, image_or, shifted_pieces, before_others}
use Rattle.formula_shift.specs.Relocation.{joined_others}
use Rattle.formula_shift.proofs.Recutting.{begins, run_stops, word_is, StandsBefore, AreCut}
use Rattle.formula_shift.proofs.Recutting.{are_cut-pieces}
use Rattle.formula_shift.proofs.Joining.{other_kind_is, both_true, joined_pieces-joined_others}
use Rattle.formula_shift.proofs.Spellings.{shifted_inside, word_reference_inside, spelling_is_word}
use Rattle.formula_shift.proofs.Moving.{pieces-moved}
use Rattle.formula_shift.proofs.ReadBack.{IsFormed, word_reference_formed, reference_reads_back}
use Rattle.formula_shift.proofs.Composing.{shifted_twice}
use Rattle.graph_naming_laws.specs.OwnSheet.{StandingWord, words_among, is_some_reference}
use Rattle.graph_naming_laws.specs.OwnSheet.{is_wide_byte, is_one_word}
use Rattle.graph_naming_laws.proofs.FirstTokens.{last_passes}
use Rattle.graph_naming_laws.proofs.Passing.{AreAlike}
use Rattle.graph_naming_laws.proofs.Tests.{neither, not_true}
use Rattle.graph_naming_laws.proofs.Standing.{word_kind_is}

-- ---- neighbouring Other pieces made one

last_byte-append : (before : Option ℕ) (bs cs : List ℕ) →
    last_byte before (bs ++ cs) ≡ last_byte (last_byte before bs) cs
last_byte-append before [] cs = refl
last_byte-append before (b ∷ bs) cs = last_byte-append (Some b) bs cs

-- behind a piece that is no Word stand the Words behind its last byte
words_behind : (before : Option ℕ) (p : PieceText) (ps : List PieceText) →
    is_word p.kind ≡ false →
    words_among before (p ∷ ps) ≡ words_among (last_byte before p.bytes) ps
words_behind before p ps none =
    ap (λ t. cond t (record {
      before = before;
      bytes = p.bytes;
      behind = first_byte (joined_pieces ps);
    } ∷ []) [] ++ words_among (last_byte before p.bytes) ps) none

other_no_word : (p : PieceText) → is_other p.kind ≡ true → is_word p.kind ≡ false
other_no_word p other = ap is_word (other_kind_is p.kind other)

words_before_others : (before : Option ℕ) (p : PieceText) (qs : List PieceText) →
    words_among before (before_others p qs) ≡ words_among before (p ∷ qs)
words_before_others before p [] = refl
words_before_others before p (q ∷ qs) =
    by_test (is_other p.kind && is_other q.kind) refl where
      by_test : (both : Bool) → (is_other p.kind && is_other q.kind) ≡ both →
          words_among before (cond both (other_of (p.bytes ++ q.bytes) ∷ qs) (p ∷ q ∷ qs))
          ≡ words_among before (p ∷ q ∷ qs)
      by_test false are = refl
      by_test true are =
          let others = both_true (is_other p.kind) (is_other q.kind) are in
          ap (λ b. words_among b qs) (last_byte-append before p.bytes q.bytes)
          ∙ sym (words_behind (last_byte before p.bytes) q qs (other_no_word q others.1))
          ∙ sym (words_behind before p (q ∷ qs) (other_no_word p others.0))

words_joined_others : (before : Option ℕ) (ps : List PieceText) →
    words_among before (joined_others ps) ≡ words_among before ps
words_joined_others before [] = refl
words_joined_others before (p ∷ ps) =
    words_before_others before p (joined_others ps)
    ∙ (λ i. cond (is_word p.kind) (record {
      before = before;
      bytes = p.bytes;
      behind = first_byte (joined_pieces-joined_others ps i);
    } ∷ []) [] ++ words_joined_others (last_byte before p.bytes) ps i)

-- ---- a Word

-- no wide byte comes where none was
abbrev NoWider : Option ℕ → Option ℕ → Type 0
NoWider x y = is_wide_byte x ≡ false → is_wide_byte y ≡ false

-- a Word that stays, where what is beside it is no wider
word_alike : (before x behind y : Option ℕ) (bytes : List ℕ) → NoWider before x →
    NoWider behind y → is_name_before behind ≡ is_name_before y →
    is_one_word (record { before = before; bytes = bytes; behind = behind }) ≡ true →
    is_one_word (record { before = x; bytes = bytes; behind = y }) ≡ true
word_alike before x behind y bytes first last named one =
    ap (λ t. cond (is_some_reference (cond t None (word_reference bytes)))
    (not (is_wide_byte x || is_wide_byte y)) (not (list_any (λ b. b == 58) bytes))) (sym named)
    ∙ by_reference (is_some_reference (cond (is_name_before behind) None
    (word_reference bytes))) one
  where
    by_reference : (t : Bool) →
        cond t (not (is_wide_byte before || is_wide_byte behind))
        (not (list_any (λ b. b == 58) bytes))
        ≡ true →
        cond t (not (is_wide_byte x || is_wide_byte y)) (not (list_any (λ b. b == 58) bytes)) ≡ true
    by_reference true one =
        let apart = neither (is_wide_byte before) (is_wide_byte behind) (not_true _ one) in
        λ i. not (first apart.0 i || last apart.1 i)
    by_reference false one = one

-- a Word that is a reference touches nothing wide
reference_apart : (before behind : Option ℕ) (bytes : List ℕ) (r : Reference) →
    cond (is_name_before behind) None (word_reference bytes) ≡ Some r →
    is_one_word (record { before = before; bytes = bytes; behind = behind }) ≡ true →
    (is_wide_byte before ≡ false) × (is_wide_byte behind ≡ false)
reference_apart before behind bytes r is one =
    neither (is_wide_byte before) (is_wide_byte behind)
    (not_true _
    (sym (ap (λ o. cond (is_some_reference o) (not (is_wide_byte before || is_wide_byte behind))
    (not (list_any (λ b. b == 58) bytes))) is) ∙ one))

-- a reference as it is spelled stands as one
spelled_alike : (x y : Option ℕ) (s : Reference) → IsInWorksheet s → IsFormed s →
    is_wide_byte x ≡ false → is_wide_byte y ≡ false → is_name_before y ≡ false →
    is_one_word (record { before = x; bytes = spelling s; behind = y }) ≡ true
spelled_alike x y s inside formed first last named =
    (λ i. cond (is_some_reference (cond (named i) None (reference_reads_back s inside formed i)))
    (not (first i || last i)) (not (list_any (λ b. b == 58) (spelling s))))

-- ---- pieces

-- the first of some pieces is a Word
abbrev starts_word : List PieceText → Bool
starts_word [] = false
starts_word (p ∷ ps) = is_word p.kind

-- behind a Word stands no Word
apart : (p : PieceText) (ps : List PieceText) → p.kind ≡ word_kind → AreCut (p ∷ ps) →
    starts_word ps ≡ false
apart p [] word cut = refl
apart p (q ∷ qs) word cut =
    let stands = cut.0 in
    let follows = cut.1.0 in
    let stops : begins is_word_byte (q.bytes ++ joined_pieces qs) ≡ false =
    run_stops is_word_byte stands.behind (q.bytes ++ joined_pieces qs)
    (ap (λ kind. length_behind kind (stands.behind ++ (q.bytes ++ joined_pieces qs))) (sym word)
    ∙ stands.ends) in
    ap is_word follows.kind_is ∙ word_is follows.first
    ∙ sym (ap (λ t. begins is_word_byte (t ++ joined_pieces qs)) follows.bytes_are) ∙ stops

no_word_none : (p : PieceText) (behind : Option ℕ) → is_word p.kind ≡ false →
    piece_reference p behind ≡ None
unfolding piece_reference
no_word_none p behind none =
    ap (λ word. cond (word && not (is_name_before behind)) (word_reference p.bytes) None) none

-- pieces that begin with no Word begin with the same byte when they are moved
first_kept : (d : ℤ × ℤ) (ps : List PieceText) → AreCut ps → starts_word ps ≡ false →
    first_byte (joined_pieces (shifted_pieces d ps)) ≡ first_byte (joined_pieces ps)
first_kept d [] cut none = refl
first_kept d (q ∷ qs) cut none =
    ap (λ o. first_byte (joined_pieces (image_or q d o ++ shifted_pieces d qs)))
    (no_word_none q (first_byte (joined_pieces qs)) none)
    ∙ ap (λ t. first_byte (t ++ joined_pieces (shifted_pieces d qs))) cut.0.bytes_are
    ∙ sym (ap (λ t. first_byte (t ++ joined_pieces qs)) cut.0.bytes_are)

-- the last byte of a piece is its own
last_own : (p : PieceText) (rest : List ℕ) (before after : Option ℕ) → StandsBefore p rest →
    last_byte before p.bytes ≡ last_byte after p.bytes
last_own p rest before after stands =
    ap (last_byte before) stands.bytes_are ∙ sym (ap (last_byte after) stands.bytes_are)

-- what is before pieces that begin with no Word doesn't matter
before_free : (x y : Option ℕ) (ps : List PieceText) → AreCut ps → starts_word ps ≡ false →
    words_among x ps ≡ words_among y ps
before_free x y [] cut none = refl
before_free x y (p ∷ ps) cut none =
    words_behind x p ps none
    ∙ ap (λ b. words_among b ps) (last_own p (joined_pieces ps) x y cut.0)
    ∙ sym (words_behind y p ps none)

front_alike : (w : StandingWord) (ws : List StandingWord) → is_one_word w ≡ true →
    list_all is_one_word ws ≡ true → list_all is_one_word (w ∷ ws) ≡ true
front_alike w ws one all = λ i. one i && all i

reference_of : (p : PieceText) (behind : Option ℕ) → is_word p.kind ≡ true →
    piece_reference p behind ≡ cond (is_name_before behind) None (word_reference p.bytes)
unfolding piece_reference
reference_of p behind word =
    ap (λ t. cond (t && not (is_name_before behind)) (word_reference p.bytes) None) word
    ∙ by_test (is_name_before behind) where
      by_test : (t : Bool) →
          cond (not t) (word_reference p.bytes) None ≡ cond t None (word_reference p.bytes)
      by_test true = refl
      by_test false = refl

-- the same Words are alike before what is moved
abbrev StaysAlike : ℤ × ℤ → List PieceText → Type 0
StaysAlike d ps = (before x : Option ℕ) → NoWider before x →
    list_all is_one_word (words_among before ps) ≡ true →
    list_all is_one_word (words_among x (shifted_pieces d ps)) ≡ true

-- a Word that is moved, before others
module _ (d : ℤ × ℤ) (p : PieceText) (ps : List PieceText) (cut : AreCut (p ∷ ps))
    (word : p.kind ≡ word_kind) (rest : StaysAlike d ps) (before x : Option ℕ)
    (wider : NoWider before x)
    (alike : list_all is_one_word (words_among before (p ∷ ps)) ≡ true) where
  is_a_word : is_word p.kind ≡ true
  is_a_word = ap is_word word

  behind : Option ℕ
  behind = first_byte (joined_pieces ps)

  both : (is_one_word (record {
    before = before;
    bytes = p.bytes;
    behind = first_byte (joined_pieces ps);
  }) ≡ true) × (list_all is_one_word (words_among (last_byte before p.bytes) ps) ≡ true)
  both =
      both_true (is_one_word (record {
        before = before;
        bytes = p.bytes;
        behind = first_byte (joined_pieces ps);
      })) (list_all is_one_word (words_among (last_byte before p.bytes) ps))
      (sym (ap (λ t. list_all is_one_word (cond t (record {
        before = before;
        bytes = p.bytes;
        behind = first_byte (joined_pieces ps);
      } ∷ []) [] ++ words_among (last_byte before p.bytes) ps)) is_a_word) ∙ alike)

  no_word : starts_word ps ≡ false
  no_word = apart p ps word cut

  same_first : first_byte (joined_pieces (shifted_pieces d ps)) ≡ first_byte (joined_pieces ps)
  same_first = first_kept d ps cut.1 no_word

  -- the rest is alike behind any byte that is not wide
  rest_alike : (y : Option ℕ) → is_wide_byte y ≡ false →
      list_all is_one_word (words_among y (shifted_pieces d ps)) ≡ true
  rest_alike y narrow =
      rest None y (λ e. narrow)
      (sym (ap (list_all is_one_word)
      (before_free (last_byte before p.bytes) None ps cut.1 no_word)) ∙ both.1)

  stays : piece_reference p (first_byte (joined_pieces ps)) ≡ None →
      is_wide_byte (last_byte x p.bytes) ≡ false →
      list_all is_one_word (words_among x (p ∷ shifted_pieces d ps)) ≡ true
  stays none narrow =
      ap (λ t. list_all is_one_word (cond t (record {
        before = x;
        bytes = p.bytes;
        behind = first_byte (joined_pieces (shifted_pieces d ps));
      } ∷ []) [] ++ words_among (last_byte x p.bytes) (shifted_pieces d ps))) is_a_word
      ∙ front_alike (record {
        before = x;
        bytes = p.bytes;
        behind = first_byte (joined_pieces (shifted_pieces d ps));
      }) (words_among (last_byte x p.bytes) (shifted_pieces d ps))
      (word_alike before x (first_byte (joined_pieces ps))
      (first_byte (joined_pieces (shifted_pieces d ps))) p.bytes wider
      (λ e. ap is_wide_byte same_first ∙ e) (sym (ap is_name_before same_first)) both.0)
      (rest_alike (last_byte x p.bytes) narrow)

  goes : (r : Reference) → piece_reference p (first_byte (joined_pieces ps)) ≡ Some r →
      ((s : Reference) → IsInWorksheet s → is_wide_byte (last_byte x (spelling s)) ≡ false) →
      list_all is_one_word (words_among x (image (shifted d r) ++ shifted_pieces d ps)) ≡ true
  goes r is narrow = by_image (shifted d r) refl where
    own : cond (is_name_before (first_byte (joined_pieces ps))) None (word_reference p.bytes)
        ≡ Some r
    own = sym (reference_of p (first_byte (joined_pieces ps)) is_a_word) ∙ is

    known : (t : Bool) (o : Option Reference) → IfSome o IsInWorksheet → IfSome o IsFormed →
        cond t None o ≡ Some r → IsInWorksheet r × IsFormed r × (t ≡ false)
    known true o inside formed e = absurd (cc)
    known false None inside formed e = absurd (cc)
    known false (Some q) inside formed e =
        let same : q ≡ r = cc in
        (subst IsInWorksheet same inside, subst IsFormed same formed, refl)

    parts : IsInWorksheet r × IsFormed r × (is_name_before (first_byte (joined_pieces ps)) ≡ false)
    parts = known (is_name_before (first_byte (joined_pieces ps))) (word_reference p.bytes)
        (word_reference_inside p.bytes) (word_reference_formed p.bytes) own

    narrow_beside : (is_wide_byte before ≡ false) × (is_wide_byte (first_byte (joined_pieces ps))
        ≡ false)
    narrow_beside = reference_apart before (first_byte (joined_pieces ps)) p.bytes r own both.0

    by_image : (a : Option Reference) → shifted d r ≡ a →
        list_all is_one_word (words_among x (image a ++ shifted_pieces d ps)) ≡ true
    by_image None there = rest_alike (Some 33) refl
    by_image (Some s) there =
        let inside : IsInWorksheet s =
        subst (λ o. IfSome o IsInWorksheet) there (shifted_inside d r parts.0) in
        let formed = (shifted_twice d d r s there parts.1).0 in
        front_alike (record {
          before = x;
          bytes = spelling s;
          behind = first_byte (joined_pieces (shifted_pieces d ps));
        }) (words_among (last_byte x (spelling s)) (shifted_pieces d ps))
        (spelled_alike x (first_byte (joined_pieces (shifted_pieces d ps))) s inside formed
        (wider narrow_beside.0) (ap is_wide_byte same_first ∙ narrow_beside.1)
        (ap is_name_before same_first ∙ parts.2))
        (rest_alike (last_byte x (spelling s)) (narrow s inside))

-- ---- last bytes

run_all : (p : ℕ → Bool) (bs rest : List ℕ) → prefix_len p (bs ++ rest) ≡ length bs →
    list_all p bs ≡ true
run_all p [] rest ends = refl
run_all p (b ∷ bs) rest ends = grind (arith, run_all p bs rest)

word_narrow : (b : ℕ) → is_word_byte b ≡ true → is_wide_byte (Some b) ≡ false
word_narrow b is = grind (arith, nat_tests)

last_narrow : (x : Option ℕ) (bs : List ℕ) → 0 < length bs → list_all is_word_byte bs ≡ true →
    is_wide_byte (last_byte x bs) ≡ false
last_narrow x [] some all = absurd (omega arith)
last_narrow x (b ∷ bs) some all =
    let both = both_true (is_word_byte b) (list_all is_word_byte bs) all in
    let last = last_passes is_word_byte b bs both.0 both.1 in
    ap is_wide_byte last.1 ∙ word_narrow last.0 last.2

spelled_narrow : (x : Option ℕ) (s : Reference) → IsInWorksheet s →
    is_wide_byte (last_byte x (spelling s)) ≡ false
spelled_narrow x s inside =
    let text = spelling_is_word s inside in last_narrow x (spelling s) text.nonempty text.in_word

piece_narrow : (x : Option ℕ) (p : PieceText) (rest : List ℕ) → StandsBefore p rest →
    p.kind ≡ word_kind → is_wide_byte (last_byte x p.bytes) ≡ false
piece_narrow x p rest stands word =
    let first : is_word_byte stands.first ≡ true =
    sym (word_is stands.first) ∙ ap is_word (sym stands.kind_is ∙ word) in
    let behind : list_all is_word_byte stands.behind ≡ true =
    run_all is_word_byte stands.behind rest
    (ap (λ kind. length_behind kind (stands.behind ++ rest)) (sym word) ∙ stands.ends) in
    ap (λ t. is_wide_byte (last_byte x t)) stands.bytes_are
    ∙ last_narrow x (stands.first ∷ stands.behind) (omega arith) (λ i. first i && behind i)

-- ---- all pieces

pieces_alike : (d : ℤ × ℤ) (ps : List PieceText) → AreCut ps → StaysAlike d ps
pieces_alike d [] cut before x wider alike = refl
pieces_alike d (p ∷ ps) cut before x wider alike =
    by_kind (is_word p.kind) refl (pieces_alike d ps cut.1) where
      by_reference : (o : Option Reference) → is_word p.kind ≡ true → StaysAlike d ps →
          piece_reference p (first_byte (joined_pieces ps)) ≡ o →
          list_all is_one_word (words_among x (image_or p d o ++ shifted_pieces d ps)) ≡ true
      by_reference None word rest is =
          let kind = word_kind_is p.kind word in
          stays d p ps cut kind rest before x wider alike is
          (piece_narrow x p (joined_pieces ps) cut.0 kind)
      by_reference (Some r) word rest is =
          goes d p ps cut (word_kind_is p.kind word) rest before x wider alike r is
          (spelled_narrow x)

      by_kind : (t : Bool) → is_word p.kind ≡ t → StaysAlike d ps →
          list_all is_one_word (words_among x (shifted_pieces d (p ∷ ps))) ≡ true
      by_kind true word rest =
          by_reference (piece_reference p (first_byte (joined_pieces ps))) word rest refl
      by_kind false none rest =
          ap (λ o. list_all is_one_word (words_among x (image_or p d o ++ shifted_pieces d ps)))
          (no_word_none p (first_byte (joined_pieces ps)) none)
          ∙ ap (list_all is_one_word) (words_behind x p (shifted_pieces d ps) none)
          ∙ rest (last_byte before p.bytes) (last_byte x p.bytes)
          (λ e. ap is_wide_byte (last_own p (joined_pieces ps) x before cut.0) ∙ e)
          (sym (ap (list_all is_one_word) (words_behind before p ps none)) ∙ alike)

-- the Words of a moved formula are cut as tokens are
pub moved_alike : (text : List ℕ) (offset : ℤ × ℤ) → AreAlike None text →
    AreAlike None (moved text offset)
moved_alike text offset alike =
    ap (λ ps. list_all is_one_word (words_among None ps)) (pieces-moved text offset)
    ∙ ap (list_all is_one_word)
    (words_joined_others None (shifted_pieces offset (pieces text)))
    ∙ pieces_alike offset (pieces text) (are_cut-pieces text) None None (λ e. e) alike
