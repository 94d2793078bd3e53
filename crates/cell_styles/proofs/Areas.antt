-- Places of an area, and the area of cells.
use Rattle.std.proofs.Common.{◌≡◌, ℕ, ◌+◌, ◌-◌, ◌*◌, ◌<◌, ◌≤◌, min, max, List, [], ◌∷◌, Option}
use Rattle.std.proofs.Common.{Some, None, ◌++◌, All, IfSome, refl, ap, ◌∙◌, arith}
use Rattle.std.proofs.Math.Nat.{mul-le-mul_right}
use Rattle.std.proofs.lemmas.List.Elements.{All-head, All-tail}
use Rattle.cell_refs.specs.Words.{cell_count, IsInArea}
use Rattle.cell_refs.specs.declared.dimensions.Dimensions.{Dimensions}
use Rattle.cell_styles.specs.StyleMap.{StyledCell, IsOnSheet, IsArea, widened, covering_area}
use Rattle.cell_styles.specs.StyleMap.{place_in_area, width_in, height_in}

-- a row and a column below the numbers of both
below_both : (row column rows width : ℕ) → row < rows → column < width
    → row * width + column < rows * width
below_both row column rows width h i =
    let grows : (row + 1) * width ≤ rows * width = mul-le-mul_right width (omega arith) in
    let one : (row + 1) * width ≡ row * width + width =
    omega arith in
    omega arith

-- the place of a position of the area
pub place_within : (area : Dimensions) (row column : ℕ) → IsArea area → IsInArea area row column
    → place_in_area area (row, column) < cell_count area
place_within area row column whole inside =
    below_both (row - area.start.0) (column - area.start.1) (height_in area) (width_in area)
    (omega arith) (omega arith)

-- an area with one more cell
widened_area : (area : Option Dimensions) (cell : StyledCell) → IsOnSheet cell → IfSome area IsArea
    → IsArea (widened area cell)
widened_area None cell on whole = (omega arith, omega arith, on.0, on.1)
widened_area (Some area) cell on whole = (
  omega (arith, whole.0),
  omega (arith, whole.1),
  omega (arith, on.0, whole.2),
  omega (arith, on.1, whole.3),
)

pub bounds_are_area : (cells : List StyledCell) → All IsOnSheet cells
    → IfSome (covering_area cells) IsArea
bounds_are_area [] all = tt
bounds_are_area (cell ∷ cells) all =
    widened_area (covering_area cells) cell (All-head IsOnSheet cell cells all)
    (bounds_are_area cells (All-tail IsOnSheet cell cells all))

-- two cells more, in either order
widened_twice : (area : Option Dimensions) (one two : StyledCell)
    → widened (Some (widened area one)) two ≡ widened (Some (widened area two)) one
widened_twice None one two =
    let a : min one.0 two.0 ≡ min two.0 one.0 = omega arith in
    let b : min one.1 two.1 ≡ min two.1 one.1 = omega arith in
    let c : max one.0 two.0 ≡ max two.0 one.0 = omega arith in
    let d : max one.1 two.1 ≡ max two.1 one.1 = omega arith in
    λ i. record { start = (a i, b i); end = (c i, d i) }
widened_twice (Some area) one two =
    let a : min (min area.start.0 one.0) two.0 ≡ min (min area.start.0 two.0) one.0 = omega arith in
    let b : min (min area.start.1 one.1) two.1 ≡ min (min area.start.1 two.1) one.1 = omega arith in
    let c : max (max area.end.0 one.0) two.0 ≡ max (max area.end.0 two.0) one.0 = omega arith in
    let d : max (max area.end.1 one.1) two.1 ≡ max (max area.end.1 two.1) one.1 = omega arith in
    λ i. record { start = (a i, b i); end = (c i, d i) }

-- the area of cells with one more behind them
pub covering_area-more : (cells : List StyledCell) (cell : StyledCell)
    → covering_area (cells ++ cell ∷ []) ≡ Some (widened (covering_area cells) cell)
covering_area-more [] cell = refl
covering_area-more (first ∷ cells) cell =
    ap (λ area. Some (widened area first)) (covering_area-more cells cell)
    ∙ ap Some (widened_twice (covering_area cells) cell first)
