-- Areas by their rows, as an index keeps them: by their first rows, as a tree by halving.
use Rattle.std.specs.Prelude.{◌≡◌, ℕ, zero, suc, ◌+◌, ◌*◌, ◌/◌, ◌^◌, ◌<◌, ◌≤◌, nat_le, ◌==◌, Bool}
use Rattle.std.specs.Prelude.{true, List, [], ◌∷◌, ◌++◌, length, map, filter, take, drop, IfSome}
use Rattle.std.specs.Prelude.{max}
use Rattle.std.specs.List.{list_all, list_any, slice_get}
use Rattle.std.specs.List.Sorted.{IsNonDecreasingBy, IsPermutation}
use Rattle.cell_refs.specs.Words.{is_in_area}
use Rattle.cell_refs.specs.declared.dimensions.Dimensions.{Dimensions}
use Rattle.xlsx_precedents.specs.Precedents.{has_row}
use Rattle.xlsx_precedents.specs.declared.spans.Halves.{Halves}
use Rattle.xlsx_precedents.specs.declared.spans.Span.{Span}

-- an area, and its number among those of the index
abbrev pub Numbered : Type 0
Numbered = Dimensions × ℕ

-- areas with their numbers, where the first one has this number
abbrev pub numbered_from : ℕ → List Dimensions → List Numbered
numbered_from from [] = []
numbered_from from (area ∷ areas) = (area, from) ∷ numbered_from (from + 1) areas

-- an area that is kept, and its number
abbrev pub span_told : Span → Numbered
span_told span = (span.area, span.number)

-- the areas that are kept, each with its number
abbrev pub spans_told : List Span → List Numbered
spans_told spans = map span_told spans

-- the row in which an area begins
abbrev pub first_row : Numbered → ℕ
first_row own = own.0.start.0

-- the row in which an area ends
abbrev pub last_row : Numbered → ℕ
last_row own = own.0.end.0

-- one of these areas ends in a row, and none below it
pub record IsGreatest (row : ℕ) (all : List Numbered) : Type 0 where
  pub above : list_all (λ own. nat_le (last_row own) row) all ≡ true
  pub reached : list_any (λ own. last_row own == row) all ≡ true

-- the greatest of a row and of those in which these areas end
abbrev pub greatest_from : ℕ → List Numbered → ℕ
greatest_from row [] = row
greatest_from row (own ∷ all) = greatest_from (max row (last_row own)) all

-- what stands in the middle of a stretch keeps the greatest last row of the stretch, and so it is
-- in what stands before it and behind it, so many halvings down
abbrev pub KeepsGreatest : ℕ → List Span → Type 0
KeepsGreatest zero spans = Unit {0}
KeepsGreatest (suc turns) spans =
    let middle = length spans / 2 in
    IfSome (slice_get spans middle) (λ (span : Span). IsGreatest span.greatest (spans_told spans)
    × KeepsGreatest turns (take middle spans) × KeepsGreatest turns (drop (middle + 1) spans))

-- What stands in the middle of each stretch keeps the greatest last row of the stretch, however
-- often the stretches are halved.
abbrev pub AreHalved : List Span → Type 0
AreHalved spans = (turns : ℕ) → KeepsGreatest turns spans

-- areas by their first rows, halved
pub record AreSearched (spans : List Span) : Type 0 where
  pub rising : IsNonDecreasingBy first_row (spans_told spans)
  pub halved : AreHalved spans

-- the areas of an index, each once with its number, by their first rows
pub record AreSpans (areas : List Dimensions) (spans : List Span) : Type 0 where
  pub are : IsPermutation (numbered_from 0 areas) (spans_told spans)
  pub searched : AreSearched spans

-- areas are cut at their middle: those before it, the one there, and those behind
pub record IsHalves (spans : List Span) (own : Halves) : Type 0 where
  pub is : spans ≡ own.left.now ++ own.middle ∷ own.right.now
  pub half : length own.left.now ≡ length spans / 2
  pub fewer_left : length own.left.now < length spans
  pub fewer_right : length own.right.now < length spans

-- what is known of both halves of areas by their first rows, and of their middle
pub record AreSearchedHalves (spans : List Span) (own : Halves) : Type 0 where
  pub greatest : IsGreatest own.middle.greatest (spans_told spans)
  pub left : AreSearched own.left.now
  pub right : AreSearched own.right.now

-- areas were kept behind others, and they are these, halved
pub record KeepsSpans (old new sorted : List Span) : Type 0 where
  pub added : List Span
  pub is : new ≡ old ++ added
  pub same : spans_told added ≡ spans_told sorted
  pub halved : AreHalved added

-- the numbers of the areas that have a position
abbrev pub numbers_having : ℕ × ℕ → List Numbered → List ℕ
numbers_having position all =
    map (λ own. own.1) (filter (λ own. is_in_area own.0 position) all)

-- ---- how many are looked at

-- how many areas have a row
abbrev pub count_having : ℕ → List Numbered → ℕ
count_having row all = length (filter (λ own. has_row row own.0) all)

-- no area begins below a row
abbrev pub begin_by : ℕ → List Numbered → Bool
begin_by row all = list_all (λ own. nat_le (first_row own) row) all

-- the steps of a search for a row went from one count to another: by halving so many times, twice
-- for each area that has the row and twice more; and where all of them begin by the row, twice for
-- each that has it and one more
pub record SearchesIn (row : ℕ) (all : List Numbered) (old new : ℕ) : Type 0 where
  pub counted : old ≤ new
  pub within : (halvings : ℕ) → length all < 2 ^ halvings →
      new ≤ old + 2 * (halvings * (1 + count_having row all))
  pub begun : begin_by row all ≡ true → (halvings : ℕ) → length all < 2 ^ halvings →
      new ≤ old + 1 + 2 * (halvings * count_having row all)
