-- The areas that have a position, found by halving.
use Rattle.std.proofs.Common.{◌≡◌, ℕ, zero, suc, ◌+◌, ◌*◌, ◌/◌, ◌^◌, ◌≤◌, ◌<◌, Bool, true, false}
use Rattle.std.proofs.Common.{cond, List, [], ◌∷◌, ◌++◌, length, map, get_or, refl, sym, ap, ◌∙◌}
use Rattle.std.proofs.Common.{subst, arith, ◌||◌, suc-mul, mul-add, pow-suc, mul-le-mul_left}
use Rattle.std.specs.Prelude.{nat_le, ◌==◌, ◌&&◌, filter}
use Rattle.std.specs.List.{list_all, list_any, sum_by}
use Rattle.std.specs.List.Sorted.{IsNonDecreasingBy, IsPermutation}
use Rattle.std.proofs.lemmas.Bool.Decides.{nat_tests}
use Rattle.std.proofs.lemmas.List.{append-nil, length-append, length-map, map-append, get_or_at}
use Rattle.std.proofs.lemmas.List.Elements.{filter-append}
use Rattle.std.proofs.lemmas.List.Folds.{list_all-append}
use Rattle.std.proofs.lemmas.List.Sums.{sum_by-cons}
use Rattle.std.proofs.lemmas.List.Sorted.{length_permutation, sum_by-IsPermutation}
use Rattle.cell_refs.specs.Words.{is_in_area}
use Rattle.cell_refs.specs.declared.dimensions.Dimensions.{Dimensions}
use Rattle.cell_refs.proofs.PositionOrder.{and_both, and_from}
use Rattle.xlsx_precedents.proofs.Halving.{rising_rest}
use Rattle.xlsx_precedents.specs.Precedents.{all_named, has_row, steps_within}
use Rattle.xlsx_precedents.specs.Spans.{IsGreatest, Numbered, SearchesIn, begin_by, count_having}
use Rattle.xlsx_precedents.specs.Spans.{first_row, last_row, numbered_from, numbers_having}
use Rattle.xlsx_precedents.specs.Spans.{AreSearched, AreSearchedHalves, IsHalves, span_told}
use Rattle.xlsx_precedents.specs.Spans.{spans_told}
use Rattle.xlsx_precedents.specs.declared.spans.Halves.{Halves}
use Rattle.xlsx_precedents.specs.declared.spans.Span.{Span}

-- ---- what stands around a middle, as numbers

-- what is to be found in two halves and what stands between them
pub having_around : (position : ℕ × ℕ) (left right : List Numbered) (own : Numbered) →
    numbers_having position (left ++ own ∷ right)
    ≡ numbers_having position left
    ++ (cond (is_in_area own.0 position) (own.1 ∷ []) [] ++ numbers_having position right)
having_around position left right own =
    ap (map (λ (o : Numbered). o.1))
    (filter-append (λ o. is_in_area o.0 position) left (own ∷ right))
    ∙ map-append (λ (o : Numbered). o.1) (filter (λ o. is_in_area o.0 position) left)
    (filter (λ o. is_in_area o.0 position) (own ∷ right))
    ∙ ap (λ ns. numbers_having position left ++ ns) (by_test (is_in_area own.0 position)) where
      by_test : (t : Bool) →
          map (λ (o : Numbered). o.1)
          (cond t (own ∷ filter (λ o. is_in_area o.0 position) right)
          (filter (λ o. is_in_area o.0 position) right))
          ≡ cond t (own.1 ∷ []) [] ++ numbers_having position right
      by_test true = refl
      by_test false = refl

-- an area that has a position has its row
row_of : (position : ℕ × ℕ) (area : Dimensions) → is_in_area area position ≡ true →
    (area.start.0 ≤ position.0) × (position.0 ≤ area.end.0)
row_of position area has =
    let rows = (and_both (nat_le area.start.0 position.0 && nat_le position.0 area.end.0)
    (nat_le area.start.1 position.1 && nat_le position.1 area.end.1) has).0 in
    let both = and_both (nat_le area.start.0 position.0) (nat_le position.0 area.end.0) rows in
    (grind (arith, nat_tests, both.0), grind (arith, nat_tests, both.1))

-- where all areas end above the row none has the position
pub none_above : (position : ℕ × ℕ) (row : ℕ) (all : List Numbered) →
    list_all (λ own. nat_le (last_row own) row) all ≡ true → row < position.0 →
    numbers_having position all ≡ []
none_above position row [] above less = refl
none_above position row (own ∷ all) above less =
    let both = and_both (nat_le (last_row own) row)
    (list_all (λ o. nat_le (last_row o) row) all) above in
    let rest = none_above position row all both.1 less in
    let ends : last_row own ≤ row = grind (arith, nat_tests, both.0) in
    by_test (is_in_area own.0 position) refl ends rest where
      by_test : (t : Bool) → is_in_area own.0 position ≡ t → last_row own ≤ row →
          numbers_having position all ≡ [] →
          map (λ (o : Numbered). o.1)
          (cond t (own ∷ filter (λ o. is_in_area o.0 position) all)
          (filter (λ o. is_in_area o.0 position) all)) ≡ []
      by_test true has ends rest = absurd (omega (arith, less, ends, (row_of position own.0 has).1))
      by_test false has ends rest = rest

-- where all of them begin below it none has it
none_below : (position : ℕ × ℕ) (all : List Numbered) →
    ((j : ℕ) (d : Numbered) → j < length all → position.0 < first_row (get_or all j d)) →
    numbers_having position all ≡ []
none_below position [] below = refl
none_below position (own ∷ all) below =
    by_test (is_in_area own.0 position) refl
    (none_below position all (λ j d within. below (suc j) d (omega (arith, within)))) where
      by_test : (t : Bool) → is_in_area own.0 position ≡ t → numbers_having position all ≡ [] →
          map (λ (o : Numbered). o.1)
          (cond t (own ∷ filter (λ o. is_in_area o.0 position) all)
          (filter (λ o. is_in_area o.0 position) all)) ≡ []
      by_test true has rest =
          absurd (omega (arith, below 0 own (omega arith), (row_of position own.0 has).0))
      by_test false has rest = rest

-- ---- areas that rise

at_middle : (left right : List Numbered) (own d : Numbered) →
    get_or (left ++ own ∷ right) (length left) d ≡ own
at_middle left right own d = get_or_at left own right d (length left) refl

-- what stands behind a middle that begins below the row begins there, too
pub none_right : (position : ℕ × ℕ) (left right : List Numbered) (own : Numbered) →
    IsNonDecreasingBy first_row (left ++ own ∷ right) → position.0 < first_row own →
    numbers_having position (own ∷ right) ≡ []
none_right position left right own rising below =
    let rest : IsNonDecreasingBy first_row (own ∷ right) = rising_rest left (own ∷ right) rising in
    none_below position (own ∷ right)
    (λ j d within. omega (arith, below, rest 0 j d (omega arith) within))

-- what stands before a middle that begins by the row begins by it, too
pub left_begun : (row : ℕ) (left right : List Numbered) (own : Numbered) →
    IsNonDecreasingBy first_row (left ++ own ∷ right) → first_row own ≤ row →
    begin_by row left ≡ true
left_begun row [] right own rising begins = refl
left_begun row (first ∷ left) right own rising begins =
    let behind : length (first ∷ left) < length ((first ∷ left) ++ own ∷ right) =
    omega (arith, length-append (first ∷ left) (own ∷ right)) in
    let order : first_row first ≤ first_row own =
    omega (
      arith,
      rising 0 (length (first ∷ left)) own (omega arith) behind,
      ap first_row (at_middle (first ∷ left) right own own),
    ) in
    and_from (nat_le (first_row first) row) (begin_by row left)
    (grind (arith, nat_tests, order, begins))
    (left_begun row left right own
    (λ i j d o b. rising (suc i) (suc j) d (omega (arith, o)) (omega (arith, b))) begins)

-- ---- how many have a row

-- of areas that begin by a row, one that ends in it or below has it
has_one : (row greatest : ℕ) (all : List Numbered) → begin_by row all ≡ true → row ≤ greatest →
    list_any (λ own. last_row own == greatest) all ≡ true → 1 ≤ count_having row all
has_one row greatest [] begun ends reached = absurd (cc)
has_one row greatest (own ∷ all) begun ends reached =
    let both = and_both (nat_le (first_row own) row) (begin_by row all) begun in
    by_tests (last_row own == greatest) refl (has_row row own.0) refl both.0
    (has_one row greatest all both.1 ends) reached where
      by_tests : (t : Bool) → (last_row own == greatest) ≡ t → (u : Bool) → has_row row own.0 ≡ u →
          nat_le (first_row own) row ≡ true →
          (list_any (λ o. last_row o == greatest) all ≡ true → 1 ≤ count_having row all) →
          (t || list_any (λ o. last_row o == greatest) all) ≡ true →
          1 ≤ length (cond u (own ∷ filter (λ o. has_row row o.0) all)
          (filter (λ o. has_row row o.0) all))
      by_tests t is true has first rest reached = omega arith
      by_tests true is false has first rest reached =
          let last : last_row own ≡ greatest = grind (arith, nat_tests, is) in
          let below : nat_le row (last_row own) ≡ true = grind (arith, nat_tests, last, ends) in
          let have : has_row row own.0 ≡ true =
          and_from (nat_le (first_row own) row) (nat_le row (last_row own)) first below in
          absurd (cc)
      by_tests false is false has first rest reached = rest reached

count_around : (row : ℕ) (left right : List Numbered) (own : Numbered) →
    count_having row left + count_having row right ≤ count_having row (left ++ own ∷ right)
count_around row left right own =
    let all = filter-append (λ (o : Numbered). has_row row o.0) left (own ∷ right) in
    let own_count : count_having row right ≤ count_having row (own ∷ right) =
    by_test (has_row row own.0) in
    omega (
      arith,
      ap length all,
      length-append (filter (λ (o : Numbered). has_row row o.0) left)
          (filter (λ (o : Numbered). has_row row o.0) (own ∷ right)),
      own_count,
    )
  where
    by_test : (t : Bool) →
        count_having row right ≤ length (cond t (own ∷ filter (λ o. has_row row o.0) right)
        (filter (λ o. has_row row o.0) right))
    by_test true = omega arith
    by_test false = omega arith

-- ---- steps

-- a product with one factor more
more : (h k : ℕ) → suc h * k ≡ h * k + k
more h k = suc-mul h k

pub searches_none : (row steps : ℕ) → SearchesIn row [] steps steps
searches_none row steps = record {
  counted = omega arith;
  within = λ halvings below. omega arith;
  begun = λ begun halvings below. omega arith;
}

-- a stretch is told by one halving less
half_below : (count half h : ℕ) → count < 2 ^ suc h → half ≤ count / 2 → half < 2 ^ h
half_below count half h below less =
    let doubled : 2 ^ suc h ≡ 2 ^ h * 2 = pow-suc 2 h in
    omega (arith, below, less, doubled)

none_halved : (count : ℕ) → count < 2 ^ 0 → 0 < count → ⊥
none_halved count below some = omega (arith, below, some)

-- a look at a middle, where nothing more is looked at
pub searches_one : (row steps : ℕ) (all : List Numbered) → 0 < length all →
    SearchesIn row all steps (steps + 1)
searches_one row steps all some = record {
  counted = omega arith;
  within = within';
  begun = λ begun halvings below. omega arith;
}
  where
    within' : (halvings : ℕ) → length all < 2 ^ halvings →
        steps + 1 ≤ steps + 2 * (halvings * (1 + count_having row all))
    within' zero below = absurd (none_halved (length all) below some)
    within' (suc h) below = omega (arith, more h (1 + count_having row all))

-- a look at a middle, and a search on its left
pub searches_left : (row old new : ℕ) (left right : List Numbered) (own : Numbered) →
    length left ≤ length (left ++ own ∷ right) / 2 →
    SearchesIn row left (old + 1) new →
    (begin_by row (left ++ own ∷ right) ≡ true → 1 ≤ count_having row (left ++ own ∷ right)) →
    SearchesIn row (left ++ own ∷ right) old new
searches_left row old new left right own half before one = record {
  counted = omega (arith, before.counted);
  within = within';
  begun = begun';
}
  where
    all : List Numbered
    all = left ++ own ∷ right

    some : 0 < length all
    some = omega (arith, length-append left (own ∷ right))

    fewer : count_having row left ≤ count_having row all
    fewer = omega (arith, count_around row left right own)

    within' : (halvings : ℕ) → length all < 2 ^ halvings →
        new ≤ old + 2 * (halvings * (1 + count_having row all))
    within' zero below = absurd (none_halved (length all) below some)
    within' (suc h) below =
        let a = count_having row left in
        let k = count_having row all in
        let spent : new ≤ old + 1 + 2 * (h * (1 + a)) =
        before.within h (half_below (length all) (length left) h below half) in
        let least : h * (1 + a) ≤ h * (1 + k) = mul-le-mul_left h (omega (arith, fewer)) in
        omega (arith, spent, least, more h (1 + k))

    begun' : begin_by row all ≡ true → (halvings : ℕ) → length all < 2 ^ halvings →
        new ≤ old + 1 + 2 * (halvings * count_having row all)
    begun' begun zero below = absurd (none_halved (length all) below some)
    begun' begun (suc h) below =
        let a = count_having row left in
        let k = count_having row all in
        let first : begin_by row left ≡ true =
        (and_both (begin_by row left) (begin_by row (own ∷ right))
        (sym (list_all-append (λ o. nat_le (first_row o) row) left (own ∷ right)) ∙ begun)).0 in
        let spent : new ≤ old + 1 + 1 + 2 * (h * a) =
        before.begun first h (half_below (length all) (length left) h below half) in
        let least : h * a ≤ h * k = mul-le-mul_left h fewer in
        omega (arith, spent, least, more h k, one begun)

-- a look at a middle that begins by the row, and searches on both sides
pub searches_both : (row old between new : ℕ) (left right : List Numbered) (own : Numbered) →
    length left ≤ length (left ++ own ∷ right) / 2 →
    length right ≤ length (left ++ own ∷ right) / 2 →
    begin_by row left ≡ true → SearchesIn row left (old + 1) between →
    SearchesIn row right between new →
    (begin_by row (left ++ own ∷ right) ≡ true → 1 ≤ count_having row (left ++ own ∷ right)) →
    SearchesIn row (left ++ own ∷ right) old new
searches_both row old between new left right own half half' first before behind one = record {
  counted = omega (arith, before.counted, behind.counted);
  within = within';
  begun = begun';
}
  where
    all : List Numbered
    all = left ++ own ∷ right

    a : ℕ
    a = count_having row left

    b : ℕ
    b = count_having row right

    k : ℕ
    k = count_having row all

    some : 0 < length all
    some = omega (arith, length-append left (own ∷ right))

    both : a + b ≤ k
    both = count_around row left right own

    within' : (halvings : ℕ) → length all < 2 ^ halvings →
        new ≤ old + 2 * (halvings * (1 + k))
    within' zero below = absurd (none_halved (length all) below some)
    within' (suc h) below =
        let spent : between ≤ old + 1 + 1 + 2 * (h * a) =
        before.begun first h (half_below (length all) (length left) h below half) in
        let spent' : new ≤ between + 2 * (h * (1 + b)) =
        behind.within h (half_below (length all) (length right) h below half') in
        let sum : h * (a + (1 + b)) ≡ h * a + h * (1 + b) = mul-add h a (1 + b) in
        let least : h * (a + (1 + b)) ≤ h * (1 + k) = mul-le-mul_left h (omega (arith, both)) in
        omega (arith, spent, spent', sum, least, more h (1 + k))

    begun' : begin_by row all ≡ true → (halvings : ℕ) → length all < 2 ^ halvings →
        new ≤ old + 1 + 2 * (halvings * k)
    begun' begun zero below = absurd (none_halved (length all) below some)
    begun' begun (suc h) below =
        let rest : begin_by row (own ∷ right) ≡ true =
        (and_both (begin_by row left) (begin_by row (own ∷ right))
        (sym (list_all-append (λ o. nat_le (first_row o) row) left (own ∷ right)) ∙ begun)).1 in
        let last : begin_by row right ≡ true =
        (and_both (nat_le (first_row own) row) (begin_by row right) rest).1 in
        let spent : between ≤ old + 1 + 1 + 2 * (h * a) =
        before.begun first h (half_below (length all) (length left) h below half) in
        let spent' : new ≤ between + 1 + 2 * (h * b) =
        behind.begun last h (half_below (length all) (length right) h below half') in
        let sum : h * (a + b) ≡ h * a + h * b = mul-add h a b in
        let least : h * (a + b) ≤ h * k = mul-le-mul_left h both in
        omega (arith, spent, spent', sum, least, more h k, one begun)

-- where the greatest last row is not above the row, one of areas that begin by it has it
pub one_having : (row greatest : ℕ) (all : List Numbered) → IsGreatest greatest all →
    row ≤ greatest → begin_by row all ≡ true → 1 ≤ count_having row all
one_having row greatest all is ends begun = has_one row greatest all begun ends is.reached

-- ---- areas that are kept, by their halves

told_around : (spans : List Span) (own : Halves) → IsHalves spans own →
    spans_told spans
    ≡ spans_told own.left.now ++ span_told own.middle ∷ spans_told own.right.now
told_around spans own around =
    ap spans_told around.is ∙ map-append span_told own.left.now (own.middle ∷ own.right.now)

-- nothing is found where all areas end above the row
pub having_none : (position : ℕ × ℕ) (spans : List Span) (own : Halves) →
    AreSearchedHalves spans own → own.middle.greatest < position.0 →
    numbers_having position (spans_told spans) ≡ []
having_none position spans own known less =
    none_above position own.middle.greatest (spans_told spans) known.greatest.above less

-- all is found on the left where the middle begins below the row
pub having_left : (position : ℕ × ℕ) (spans : List Span) (own : Halves) → IsHalves spans own →
    AreSearched spans → position.0 < own.middle.area.start.0 →
    numbers_having position (spans_told spans)
    ≡ numbers_having position (spans_told own.left.now)
having_left position spans own around searched less =
    let left = spans_told own.left.now in
    let right = spans_told own.right.now in
    let middle = span_told own.middle in
    let told : spans_told spans ≡ left ++ middle ∷ right = told_around spans own around in
    let rising : IsNonDecreasingBy first_row (left ++ middle ∷ right) =
    subst (IsNonDecreasingBy first_row) told searched.rising in
    ap (numbers_having position) told
    ∙ ap (map (λ (o : Numbered). o.1))
    (filter-append (λ o. is_in_area o.0 position) left (middle ∷ right))
    ∙ map-append (λ (o : Numbered). o.1) (filter (λ o. is_in_area o.0 position) left)
    (filter (λ o. is_in_area o.0 position) (middle ∷ right))
    ∙ ap (λ ns. numbers_having position left ++ ns)
    (none_right position left right middle rising less)
    ∙ append-nil (numbers_having position left)

-- all is found on both sides and in the middle
pub having_both : (position : ℕ × ℕ) (spans : List Span) (own : Halves) → IsHalves spans own →
    numbers_having position (spans_told spans)
    ≡ numbers_having position (spans_told own.left.now)
    ++ (cond (is_in_area own.middle.area position) (own.middle.number ∷ []) []
    ++ numbers_having position (spans_told own.right.now))
having_both position spans own around =
    ap (numbers_having position) (told_around spans own around)
    ∙ having_around position (spans_told own.left.now) (spans_told own.right.now)
    (span_told own.middle)

-- one of areas that begin by the row has it, where the greatest last row is not above it
one_told : (row : ℕ) (spans : List Span) (own : Halves) → IsHalves spans own →
    AreSearchedHalves spans own → row ≤ own.middle.greatest →
    let all = spans_told own.left.now ++ span_told own.middle ∷ spans_told own.right.now in
    begin_by row all ≡ true → 1 ≤ count_having row all
one_told row spans own around known ends =
    one_having row own.middle.greatest
    (spans_told own.left.now ++ span_told own.middle ∷ spans_told own.right.now)
    (subst (IsGreatest own.middle.greatest) (told_around spans own around) known.greatest) ends

half_left : (spans : List Span) (own : Halves) → IsHalves spans own →
    length (spans_told own.left.now)
    ≤ length (spans_told own.left.now ++ span_told own.middle ∷ spans_told own.right.now) / 2
half_left spans own around =
    omega (
      arith,
      around.half,
      ap length (told_around spans own around),
      length-map spans span_told,
      length-map own.left.now span_told,
    )

half_right : (spans : List Span) (own : Halves) → IsHalves spans own →
    length (spans_told own.right.now)
    ≤ length (spans_told own.left.now ++ span_told own.middle ∷ spans_told own.right.now) / 2
half_right spans own around =
    omega (
      arith,
      around.half,
      ap length around.is,
      length-append own.left.now (own.middle ∷ own.right.now),
      ap length (told_around spans own around),
      length-map spans span_told,
      length-map own.right.now span_told,
    )

-- a look at a middle, and nothing more
pub steps_one : (row old new : ℕ) (spans : List Span) (own : Halves) → IsHalves spans own →
    new ≡ old + 1 → SearchesIn row (spans_told spans) old new
steps_one row old new spans own around next =
    subst (SearchesIn row (spans_told spans) old) (sym next)
    (searches_one row old (spans_told spans)
    (omega (arith, around.fewer_left, length-map spans span_told)))

-- a look at a middle, and a search on its left
pub steps_left : (row old between new : ℕ) (spans : List Span) (own : Halves) →
    IsHalves spans own → AreSearchedHalves spans own → row ≤ own.middle.greatest →
    between ≡ old + 1 → SearchesIn row (spans_told own.left.now) between new →
    SearchesIn row (spans_told spans) old new
steps_left row old between new spans own around known ends next searches =
    subst (λ all. SearchesIn row all old new) (sym (told_around spans own around))
    (searches_left row old new (spans_told own.left.now) (spans_told own.right.now)
    (span_told own.middle) (half_left spans own around)
    (subst (λ n. SearchesIn row (spans_told own.left.now) n new) next searches)
    (one_told row spans own around known ends))

-- a look at a middle that begins by the row, and searches on both sides
pub steps_both : (row old first second new : ℕ) (spans : List Span) (own : Halves) →
    IsHalves spans own → AreSearched spans → AreSearchedHalves spans own →
    row ≤ own.middle.greatest → own.middle.area.start.0 ≤ row → first ≡ old + 1 →
    SearchesIn row (spans_told own.left.now) first second →
    SearchesIn row (spans_told own.right.now) second new → SearchesIn row (spans_told spans) old new
steps_both row old first second new spans own around searched known ends begins next left right =
    subst (λ all. SearchesIn row all old new) (sym (told_around spans own around))
    (searches_both row old second new (spans_told own.left.now) (spans_told own.right.now)
    (span_told own.middle) (half_left spans own around) (half_right spans own around)
    (left_begun row (spans_told own.left.now) (spans_told own.right.now) (span_told own.middle)
    (subst (IsNonDecreasingBy first_row) (told_around spans own around) searched.rising) begins)
    (subst (λ n. SearchesIn row (spans_told own.left.now) n second) next left) right
    (one_told row spans own around known ends))

-- ---- all areas

abbrev one_if_row : ℕ → Numbered → ℕ
one_if_row row own = cond (has_row row own.0) 1 0

row_counted : (row : ℕ) (all : List Numbered) →
    count_having row all ≡ sum_by (one_if_row row) all
row_counted row [] = refl
row_counted row (own ∷ all) =
    by_test (has_row row own.0) (row_counted row all)
    ∙ sym (sum_by-cons (one_if_row row) own all) where
      by_test : (t : Bool) → count_having row all ≡ sum_by (one_if_row row) all →
          length (cond t (own ∷ filter (λ o. has_row row o.0) all)
          (filter (λ o. has_row row o.0) all))
          ≡ cond t 1 0 + sum_by (one_if_row row) all
      by_test true rest = omega (arith, rest)
      by_test false rest = omega (arith, rest)

row_numbered : (row from : ℕ) (areas : List Dimensions) →
    count_having row (numbered_from from areas) ≡ length (filter (has_row row) areas)
row_numbered row from [] = refl
row_numbered row from (area ∷ areas) =
    by_test (has_row row area) (row_numbered row (from + 1) areas) where
      by_test : (t : Bool) →
          count_having row (numbered_from (from + 1) areas) ≡ length (filter (has_row row) areas) →
          length (cond t ((area, from) ∷ filter (λ (o : Numbered). has_row row o.0)
          (numbered_from (from + 1) areas))
          (filter (λ (o : Numbered). has_row row o.0) (numbered_from (from + 1) areas)))
          ≡ length (cond t (area ∷ filter (has_row row) areas) (filter (has_row row) areas))
      by_test true rest = ap suc rest
      by_test false rest = rest

length-numbered : (from : ℕ) (areas : List Dimensions) →
    length (numbered_from from areas) ≡ length areas
length-numbered from [] = refl
length-numbered from (area ∷ areas) = ap suc (length-numbered (from + 1) areas)

-- the bound of a search among the areas that formulas name
pub search_steps : (index : List ((ℕ × ℕ) × List Dimensions)) (position : ℕ × ℕ)
    (areas : List Dimensions) (all : List Numbered) (old new digits : ℕ) →
    areas ≡ all_named index → IsPermutation (numbered_from 0 areas) all →
    SearchesIn position.0 all old new → length (all_named index) < 2 ^ digits →
    new ≤ old + steps_within index position digits
unfolding steps_within
search_steps index position areas all old new digits named same searches below =
    let row = position.0 in
    let count : length all ≡ length (all_named index) =
    length_permutation (numbered_from 0 areas) all same
    ∙ length-numbered 0 areas
    ∙ ap length named in
    let rows : count_having row all ≡ length (filter (has_row row) (all_named index)) =
    row_counted row all
    ∙ sum_by-IsPermutation (one_if_row row) (numbered_from 0 areas) all same
    ∙ sym (row_counted row (numbered_from 0 areas))
    ∙ row_numbered row 0 areas
    ∙ ap (λ l. length (filter (has_row row) l)) named in
    subst (λ k. new ≤ old + 2 * (digits * (1 + k))) rows
    (searches.within digits (omega (arith, count, below)))
