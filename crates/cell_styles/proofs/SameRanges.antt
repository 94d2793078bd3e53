-- Entries with the same first explicit id at each position give the same range.
use Rattle.std.proofs.Common.{◌≡◌, ℕ, ◌<◌, ◌≤◌, ◌==◌, ◌&&◌, nat_lt, if◌then◌else◌, List, [], ◌∷◌}
use Rattle.std.proofs.Common.{filter, length, map, Bool, true, false, Option, Some, None, All}
use Rattle.std.proofs.Common.{IfSome, refl, ap, subst, sym, ◌∙◌, arith}
use Rattle.std.proofs.lemmas.Bool.{eqb-true, eq-eqb}
use Rattle.std.proofs.lemmas.Bool.Decides.{nat_tests}
use Rattle.std.proofs.lemmas.List.Elements.{All-head, All-tail, All-cons}
use Rattle.cell_refs.specs.Words.{IsInArea}
use Rattle.cell_refs.specs.declared.dimensions.Dimensions.{Dimensions}
use Rattle.cell_refs.proofs.PositionOrder.{and_both}
use Rattle.cell_styles.specs.declared.style.Style.{Style}
use Rattle.cell_styles.specs.StyleMap.{StyledCell, is_explicit, is_at, first_id_at, widened}
use Rattle.cell_styles.specs.StyleMap.{covering_area, position_in, places, styles_in, styles_of}
use Rattle.cell_styles.specs.StyleMap.{IsInBounds}
use Rattle.cell_styles.proofs.Meaning.{kept, dropped, widened_has, widened_keeps}

abbrev explicit : ℕ → List StyledCell → List StyledCell
explicit count cells = filter (is_explicit count) cells

positive : (b : Bool) (x y : ℕ) → (b ≡ true → 0 < x) → 0 < y → 0 < (if b then x else y)
positive true x y first second = first refl
positive false x y first second = second

explicit_positive : (count : ℕ) (cell : StyledCell) → is_explicit count cell ≡ true → 0 < cell.2
explicit_positive count cell h =
    let test : nat_lt 0 cell.2 ≡ true = (and_both (nat_lt 0 cell.2) (nat_lt cell.2 count) h).0 in
    grind (arith, nat_tests)

still_positive : (count : ℕ) (cell : StyledCell) (cells : List StyledCell) (position : ℕ × ℕ)
    → 0 < first_id_at count cells position → 0 < first_id_at count (cell ∷ cells) position
still_positive count cell cells position h =
    positive (is_explicit count cell && is_at position cell) cell.2
    (first_id_at count cells position)
    (λ b. explicit_positive count cell
    (and_both (is_explicit count cell) (is_at position cell) b).0) h

abbrev HasId : ℕ → List StyledCell → StyledCell → Type 0
HasId count cells cell = 0 < first_id_at count cells (cell.0, cell.1)

own_id : (count : ℕ) (cell : StyledCell) (cells : List StyledCell) → is_explicit count cell ≡ true
    → HasId count (cell ∷ cells) cell
own_id count cell cells h =
    let row : (cell.0 == cell.0) ≡ true = eq-eqb cell.0 cell.0 refl in
    let column : (cell.1 == cell.1) ≡ true = eq-eqb cell.1 cell.1 refl in
    rw (h, row, column) (explicit_positive count cell h)

go_ids : (count : ℕ) (cell : StyledCell) (cells : List StyledCell) (b : Bool)
    → is_explicit count cell ≡ b
    → All (HasId count cells) (explicit count cells)
    → All (HasId count (cell ∷ cells)) (explicit count (cell ∷ cells))
go_ids count cell cells true h all =
    subst (All (HasId count (cell ∷ cells))) (sym (kept (is_explicit count) cell cells h))
    (All-cons (HasId count (cell ∷ cells)) cell (explicit count cells)
    (own_id count cell cells h)
    (λ k d i. still_positive count cell cells _ (all k d i)))
go_ids count cell cells false h all =
    subst (All (HasId count (cell ∷ cells))) (sym (dropped (is_explicit count) cell cells h))
    (λ k d i. still_positive count cell cells _ (all k d i))

all_ids : (count : ℕ) (cells : List StyledCell) → All (HasId count cells) (explicit count cells)
all_ids count [] = λ k d h. absurd (omega arith)
all_ids count (cell ∷ cells) =
    go_ids count cell cells (is_explicit count cell) refl (all_ids count cells)

-- a position with an id lies in the area of the explicit cells
wider : (area : Option Dimensions) (cell : StyledCell) (position : ℕ × ℕ) → IsInBounds area position
    → IsInBounds (Some (widened area cell)) position
wider None cell position h = absurd h
wider (Some area) cell position h = widened_keeps area cell (position.0, position.1, 0) h

go_inside : (count : ℕ) (cell : StyledCell) (cells : List StyledCell) (position : ℕ
    × ℕ) (b c : Bool)
    → is_explicit count cell ≡ b → is_at position cell ≡ c
    → (0 < first_id_at count cells position
    → IsInBounds (covering_area (explicit count cells)) position)
    → 0 < first_id_at count (cell ∷ cells) position
    → IsInBounds (covering_area (explicit count (cell ∷ cells))) position
go_inside count cell cells position true true e a rest h =
    let row : cell.0 ≡ position.0 =
    eqb-true _ _ (and_both (cell.0 == position.0) (cell.1 == position.1) a).0 in
    let column : cell.1 ≡ position.1 =
    eqb-true _ _ (and_both (cell.0 == position.0) (cell.1 == position.1) a).1 in
    let area = widened (covering_area (explicit count cells)) cell in
    subst (λ es. IsInBounds (covering_area es) position)
    (sym (kept (is_explicit count) cell cells e))
    (subst (λ r. IsInArea area r position.1) row (subst (λ k. IsInArea area cell.0 k) column
    (widened_has (covering_area (explicit count cells)) cell)))
go_inside count cell cells position true false e a rest h =
    let here : 0 < first_id_at count cells position = subst (λ n. 0 < n) (rw (e, a) refl) h in
    subst (λ es. IsInBounds (covering_area es) position)
    (sym (kept (is_explicit count) cell cells e))
    (wider (covering_area (explicit count cells)) cell position (rest here))
go_inside count cell cells position false c e a rest h =
    let same : first_id_at count (cell ∷ cells) position ≡ first_id_at count cells position =
    rw e refl in
    subst (λ es. IsInBounds (covering_area es) position)
    (sym (dropped (is_explicit count) cell cells e))
    (rest (subst (λ n. 0 < n) same h))

ids_inside : (count : ℕ) (cells : List StyledCell) (position : ℕ × ℕ)
    → 0 < first_id_at count cells position
    → IsInBounds (covering_area (explicit count cells)) position
ids_inside count [] position h = absurd (omega arith)
ids_inside count (cell ∷ cells) position h =
    go_inside count cell cells position (is_explicit count cell) (is_at position cell) refl refl
    (ids_inside count cells position) h

-- an area within another
abbrev Within : Dimensions → Dimensions → Type 0
Within a b =
    (b.start.0 ≤ a.start.0) × (b.start.1 ≤ a.start.1) × (a.end.0 ≤ b.end.0) × (a.end.1 ≤ b.end.1)

go_least : (area : Option Dimensions) (cell : StyledCell) (b : Dimensions)
    → IsInArea b cell.0 cell.1
    → IfSome area (λ a. Within a b) → Within (widened area cell) b
go_least None cell b here rest = (here.0, here.2, here.1, here.3)
go_least (Some a) cell b here rest = (
  omega (arith, here, rest),
  omega (arith, here, rest),
  omega (arith, here, rest),
  omega (arith, here, rest),
)

least : (cells : List StyledCell) (b : Dimensions) → All (λ c. IsInArea b c.0 c.1) cells
    → IfSome (covering_area cells) (λ a. Within a b)
least [] b all = tt
least (cell ∷ cells) b all =
    go_least (covering_area cells) cell b (All-head (λ c. IsInArea b c.0 c.1) cell cells all)
    (least cells b (All-tail (λ c. IsInArea b c.0 c.1) cell cells all))

-- two areas, each of which holds all cells of the other
equal_areas : (xs ys : List StyledCell)
    → All (λ c. IsInBounds (covering_area ys) (c.0, c.1)) xs
    → All (λ c. IsInBounds (covering_area xs) (c.0, c.1)) ys
    → covering_area xs ≡ covering_area ys
equal_areas [] [] left right = refl
equal_areas [] (y ∷ ys) left right = absurd (All-head (λ c. IsInBounds None (c.0, c.1)) y ys right)
equal_areas (x ∷ xs) [] left right = absurd (All-head (λ c. IsInBounds None (c.0, c.1)) x xs left)
equal_areas (x ∷ xs) (y ∷ ys) left right =
    let a = least (x ∷ xs) (widened (covering_area ys) y) left in
    let b = least (y ∷ ys) (widened (covering_area xs) x) right in
    let p : (widened (covering_area xs) x).start.0 ≡ (widened (covering_area ys) y).start.0 =
    omega (arith, a.0, b.0) in
    let q : (widened (covering_area xs) x).start.1 ≡ (widened (covering_area ys) y).start.1 =
    omega (arith, a.1, b.1) in
    let r : (widened (covering_area xs) x).end.0 ≡ (widened (covering_area ys) y).end.0 =
    omega (arith, a.2, b.2) in
    let s : (widened (covering_area xs) x).end.1 ≡ (widened (covering_area ys) y).end.1 =
    omega (arith, a.3, b.3) in
    λ i. Some (record { start = (p i, q i); end = (r i, s i) })

pub same_range : (palette : List Style) (xs ys : List StyledCell)
    → ((position : ℕ × ℕ) → first_id_at (length palette) xs position
    ≡ first_id_at (length palette) ys position)
    → styles_of palette xs ≡ styles_of palette ys
same_range palette xs ys same =
    let count = length palette in
    let left : All (λ c. IsInBounds (covering_area (explicit count ys)) (c.0, c.1))
    (explicit count xs) =
    λ k d h. ids_inside count ys _ (subst (λ n. 0 < n) (same _) (all_ids count xs k d h)) in
    let right : All (λ c. IsInBounds (covering_area (explicit count xs)) (c.0, c.1))
    (explicit count ys) =
    λ k d h. ids_inside count xs _
    (subst (λ n. 0 < n) (sym (same _)) (all_ids count ys k d h)) in
    let area = equal_areas (explicit count xs) (explicit count ys) left right in
    ap (λ b. styles_in b palette xs) area
    ∙ same_styles (covering_area (explicit count ys)) palette xs ys same
  where
    same_styles : (b : Option Dimensions) (p : List Style) (us vs : List StyledCell)
        → ((position : ℕ × ℕ) → first_id_at (length p) us position
        ≡ first_id_at (length p) vs position)
        → styles_in b p us ≡ styles_in b p vs
    same_styles None p us vs e = refl
    same_styles (Some a) p us vs e =
        λ i. record {
          bounds = Some a;
          palette = p;
          ids = map (λ place. e (position_in a place) i) (places a);
        }
