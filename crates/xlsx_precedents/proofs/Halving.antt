-- Areas that are kept by halving.
use Rattle.std.proofs.Common.{◌≡◌, ℕ, zero, suc, ◌+◌, ◌/◌, ◌≤◌, ◌<◌, Bool, true, false, max, List}
use Rattle.std.proofs.Common.{[], ◌∷◌, ◌++◌, length, take, drop, Some, refl, sym, ap, ◌∙◌, subst}
use Rattle.std.proofs.Common.{arith, ◌||◌}
use Rattle.std.specs.Prelude.{IfSome, nat_le, ◌==◌}
use Rattle.std.specs.List.{list_all, list_any, slice_get}
use Rattle.std.specs.List.Sorted.{IsNonDecreasingBy, IsPermutation}
use Rattle.std.proofs.lemmas.Bool.Decides.{nat_tests}
use Rattle.std.proofs.lemmas.List.{append_assoc, append-nil, length-append, length-map, map-append}
use Rattle.std.proofs.lemmas.List.{take_at, drop_at, get_or_at, get_or-map, get_or_append_left}
use Rattle.std.proofs.lemmas.List.Sorted.{IsPermutation-map}
use Rattle.std.proofs.lemmas.Option.{slice_get-get_or}
use Rattle.cell_refs.specs.declared.dimensions.Dimensions.{Dimensions}
use Rattle.cell_refs.proofs.PositionOrder.{and_from}
use Rattle.xlsx_precedents.specs.Spans.{AreHalved, IsGreatest, KeepsGreatest, KeepsSpans, Numbered}
use Rattle.xlsx_precedents.specs.Spans.{AreSearched, AreSearchedHalves, AreSpans, IsHalves}
use Rattle.xlsx_precedents.specs.Spans.{numbered_from, first_row, greatest_from, last_row}
use Rattle.xlsx_precedents.specs.Spans.{span_told, spans_told}
use Rattle.xlsx_precedents.specs.declared.spans.Halves.{Halves}
use Rattle.xlsx_precedents.specs.declared.spans.Span.{Span}

-- ---- the greatest last row

-- what is reached from a row
record IsReached (row from : ℕ) (all : List Numbered) : Type 0 where
  least : from ≤ row
  above : list_all (λ own. nat_le (last_row own) row) all ≡ true
  reached : (list_any (λ own. last_row own == row) all || (from == row)) ≡ true

reaches : (from : ℕ) (all : List Numbered) → IsReached (greatest_from from all) from all
reaches from [] = record {
  least = omega arith;
  above = refl;
  reached = let same : (from == from) ≡ true = grind (arith, nat_tests) in same;
}
reaches from (own ∷ all) =
    let last = last_row own in
    let row = greatest_from (max from last) all in
    let rest : IsReached row (max from last) all = reaches (max from last) all in
    record {
      least = omega (arith, rest.least);
      above = and_from (nat_le last row) (list_all (λ o. nat_le (last_row o) row) all)
          (grind (arith, nat_tests, rest.least)) rest.above;
      reached = by_tests (last == row) refl (list_any (λ o. last_row o == row) all) (from == row)
          refl
          rest.reached;
    }
  where
    last' : ℕ
    last' = last_row own

    row' : ℕ
    row' = greatest_from (max from last') all

    by_tests : (t : Bool) → (last' == row') ≡ t → (u v : Bool) → (from == row') ≡ v →
        (u || (max from last' == row')) ≡ true → ((t || u) || v) ≡ true
    by_tests true is u v other reached = refl
    by_tests false is true v other reached = refl
    by_tests false is false true other reached = refl
    by_tests false is false false other reached =
        let same : max from last' ≡ row' = grind (arith, nat_tests, reached) in
        absurd (grind (arith, nat_tests, same, is, other))

-- the greatest of some areas is that of all of them
pub greatest_is : (all : List Numbered) → 0 < length all → IsGreatest (greatest_from 0 all) all
greatest_is [] some = absurd (omega arith)
greatest_is (own ∷ all) some =
    let first : max 0 (last_row own) ≡ last_row own = omega arith in
    let whole : IsReached (greatest_from 0 (own ∷ all)) 0 (own ∷ all) = reaches 0 (own ∷ all) in
    let rest : IsReached (greatest_from (last_row own) all) (last_row own) all =
    reaches (last_row own) all in
    record {
      above = whole.above;
      reached = subst (λ r. list_any (λ o. last_row o == greatest_from r all) (own ∷ all) ≡ true)
          (sym first) (turned (last_row own == greatest_from (last_row own) all)
          (list_any (λ o. last_row o == greatest_from (last_row own) all) all) rest.reached);
    }
  where
    turned : (t u : Bool) → (u || t) ≡ true → (t || u) ≡ true
    turned true u is = refl
    turned false true is = refl
    turned false false is = is

-- ---- halves

pub halved_none : AreHalved []
halved_none zero = tt
halved_none (suc turns) = tt

-- two halves and what stands between them
pub halved_around : (left right : List Span) (middle : Span) →
    length left ≡ length (left ++ middle ∷ right) / 2 →
    IsGreatest middle.greatest (spans_told (left ++ middle ∷ right)) →
    AreHalved left → AreHalved right → AreHalved (left ++ middle ∷ right)
halved_around left right middle half greatest first last zero = tt
halved_around left right middle half greatest first last (suc turns) =
    let spans = left ++ middle ∷ right in
    let at = length spans / 2 in
    let front : take at spans ≡ left = take_at left (middle ∷ right) at (omega (arith, half)) in
    let whole : spans ≡ (left ++ middle ∷ []) ++ right =
    sym (append_assoc left (middle ∷ []) right) in
    let long : length (left ++ middle ∷ []) ≡ at + 1 =
    omega (arith, half, length-append left (middle ∷ [])) in
    let back : drop (at + 1) spans ≡ right =
    ap (drop (at + 1)) whole ∙ drop_at (left ++ middle ∷ []) right (at + 1) (omega (arith, long)) in
    let there : slice_get spans at ≡ Some middle =
    slice_get-get_or spans at middle
    (omega (arith, half, length-append left (middle ∷ right)))
    ∙ ap Some (get_or_at left middle right middle at half) in
    subst (λ o. IfSome o (λ (span : Span). IsGreatest span.greatest (spans_told spans)
    × KeepsGreatest turns (take at spans) × KeepsGreatest turns (drop (at + 1) spans)))
    (sym there) (
      greatest,
      subst (KeepsGreatest turns) (sym front) (first turns),
      subst (KeepsGreatest turns) (sym back) (last turns),
    )

-- ---- areas that rise

pub rising_rest : (left right : List Numbered) → IsNonDecreasingBy first_row (left ++ right) →
    IsNonDecreasingBy first_row right
rising_rest [] right rising = rising
rising_rest (own ∷ left) right rising =
    rising_rest left right
    (λ i j d order below. rising (suc i) (suc j) d (omega (arith, order)) (omega (arith, below)))

rising_right : (left right : List Numbered) (own : Numbered) →
    IsNonDecreasingBy first_row (left ++ own ∷ right) → IsNonDecreasingBy first_row right
rising_right left right own rising =
    rising_rest (left ++ own ∷ []) right
    (subst (IsNonDecreasingBy first_row) (sym (append_assoc left (own ∷ []) right)) rising)

rising_left : (left right : List Numbered) → IsNonDecreasingBy first_row (left ++ right) →
    IsNonDecreasingBy first_row left
rising_left left right rising i j d order below =
    let before : j < length (left ++ right) = omega (arith, below, length-append left right) in
    omega (
      arith,
      rising i j d order before,
      ap first_row (get_or_append_left left right d i (omega (arith, order, below))),
      ap first_row (get_or_append_left left right d j below),
    )

-- what is known of areas that are searched is known of their halves
pub halves_of : (spans : List Span) (own : Halves) → IsHalves spans own → AreSearched spans →
    AreSearchedHalves spans own
halves_of spans own around searched =
    let left = own.left.now in
    let right = own.right.now in
    let middle = own.middle in
    let parts = left ++ middle ∷ right in
    let half : length left ≡ length parts / 2 =
    omega (arith, around.half, ap length around.is) in
    let halved : AreHalved parts = subst AreHalved around.is searched.halved in
    let rising : IsNonDecreasingBy first_row (spans_told left ++ spans_told (middle ∷ right)) =
    subst (IsNonDecreasingBy first_row)
    (ap spans_told around.is ∙ map-append span_told left (middle ∷ right)) searched.rising in
    let at = length parts / 2 in
    let front : take at parts ≡ left = take_at left (middle ∷ right) at (omega (arith, half)) in
    let whole : parts ≡ (left ++ middle ∷ []) ++ right =
    sym (append_assoc left (middle ∷ []) right) in
    let long : length (left ++ middle ∷ []) ≡ at + 1 =
    omega (arith, half, length-append left (middle ∷ [])) in
    let back : drop (at + 1) parts ≡ right =
    ap (drop (at + 1)) whole ∙ drop_at (left ++ middle ∷ []) right (at + 1) (omega (arith, long)) in
    let there : slice_get parts at ≡ Some middle =
    slice_get-get_or parts at middle
    (omega (arith, half, length-append left (middle ∷ right)))
    ∙ ap Some (get_or_at left middle right middle at half) in
    let at_turn : (turns : ℕ) → IsGreatest middle.greatest (spans_told parts)
    × KeepsGreatest turns (take at parts) × KeepsGreatest turns (drop (at + 1) parts) =
    λ turns. subst (λ o. IfSome o (λ (span : Span). IsGreatest span.greatest (spans_told parts)
    × KeepsGreatest turns (take at parts) × KeepsGreatest turns (drop (at + 1) parts))) there
    (halved (suc turns)) in
    record {
      greatest = subst (λ all. IsGreatest middle.greatest (spans_told all)) (sym around.is)
          (at_turn 0).0;
      left = record {
        rising = rising_left (spans_told left) (spans_told (middle ∷ right)) rising;
        halved = λ turns. subst (KeepsGreatest turns) front (at_turn turns).1;
      };
      right = record {
        rising = rising_right (spans_told left) (spans_told right) (span_told middle) rising;
        halved = λ turns. subst (KeepsGreatest turns) back (at_turn turns).2;
      };
    }

-- ---- areas that are put one behind the other

pub keeps_none : (old : List Span) → KeepsSpans old old []
keeps_none old = record {
  added = [];
  is = sym (append-nil old);
  same = refl;
  halved = halved_none;
}

same_length : (xs ys : List Span) → spans_told xs ≡ spans_told ys → length xs ≡ length ys
same_length xs ys same =
    sym (length-map xs span_told) ∙ ap length same ∙ length-map ys span_told

pub keeps_around : (old first second new sorted : List Span) (halves : Halves) (own : Span) →
    IsHalves sorted halves → KeepsSpans old first halves.left.now → second ≡ first ++ own ∷ [] →
    KeepsSpans second new halves.right.now → span_told own ≡ span_told halves.middle →
    own.greatest ≡ greatest_from 0 (spans_told sorted) → KeepsSpans old new sorted
keeps_around old first second new sorted halves own around before is behind told greatest =
    let left = halves.left.now in
    let right = halves.right.now in
    let added = before.added ++ own ∷ behind.added in
    let same : spans_told added ≡ spans_told sorted =
    map-append span_told before.added (own ∷ behind.added)
    ∙ (λ i. before.same i ++ told i ∷ behind.same i)
    ∙ sym (map-append span_told left (halves.middle ∷ right))
    ∙ ap spans_told (sym around.is) in
    let some : 0 < length (spans_told sorted) =
    omega (arith, length-map sorted span_told, around.fewer_left) in
    let greatest' : IsGreatest own.greatest (spans_told added) =
    subst (λ all. IsGreatest own.greatest all) (sym same)
    (subst (λ row. IsGreatest row (spans_told sorted)) (sym greatest)
    (greatest_is (spans_told sorted) some)) in
    record {
      added = added;
      is = behind.is
          ∙ ap (λ l. l ++ behind.added) (is ∙ ap (λ l. l ++ own ∷ []) before.is)
          ∙ append_assoc (old ++ before.added) (own ∷ []) behind.added
          ∙ append_assoc old before.added (own ∷ behind.added);
      same = same;
      halved = halved_around before.added behind.added own
          (omega (
            arith,
            around.half,
            same_length added sorted same,
            same_length before.added left before.same,
          ))
          greatest' before.halved behind.halved;
    }

-- ---- areas by their first rows

-- an area that is kept, by what it tells
abbrev as_told : Numbered → Span
as_told own = record { area = own.0; number = own.1; greatest = 0 }

pub rising_told : (spans : List Span) →
    IsNonDecreasingBy (λ (s : Span). first_row (span_told s)) spans →
    IsNonDecreasingBy first_row (spans_told spans)
rising_told spans rising i j own order below =
    let within : j < length spans = omega (arith, below, length-map spans span_told) in
    omega (
      arith,
      rising i j (as_told own) order within,
      ap first_row (get_or-map span_told spans i (as_told own) own (omega (arith, order, within))),
      ap first_row (get_or-map span_told spans j (as_told own) own within),
    )

-- areas that are numbered, put by their first rows, and halved, are those that are searched
pub spans_are : (areas : List Dimensions) (first sorted old out : List Span) →
    spans_told first ≡ numbered_from 0 areas → IsPermutation first sorted →
    IsNonDecreasingBy first_row (spans_told sorted) → old ≡ [] → KeepsSpans old out sorted →
    AreSpans areas out
spans_are areas first sorted old out numbered moved rising none kept =
    let added : out ≡ kept.added = kept.is ∙ ap (λ l. l ++ kept.added) none in
    let same : spans_told out ≡ spans_told sorted = ap spans_told added ∙ kept.same in
    record {
      are = subst (λ all. IsPermutation all (spans_told out)) numbered
          (subst (λ all. IsPermutation (spans_told first) all) (sym same)
          (IsPermutation-map span_told first sorted moved));
      searched = record {
        rising = subst (IsNonDecreasingBy first_row) (sym same) rising;
        halved = subst AreHalved (sym added) kept.halved;
      };
    }
