-- What a text names lies inside a worksheet.
use Rattle.std.proofs.Common.{◌≡◌, ℕ, ◌<◌, List}
use Rattle.std.specs.Prelude.{Ok}
use Rattle.cell_refs.specs.A1.{corner, row_of, behind_letters}
use Rattle.cell_refs.proofs.PositionParts.{corner-ok, row_from-ok}

pub corner_inside : (text : List ℕ) (position : ℕ × ℕ) → corner text ≡ Ok position →
    (position.0 < 1048576) × (position.1 < 16384)
corner_inside text position is =
    let parts = corner-ok text position.0 position.1 is in (parts.0.inside, parts.1.inside)

pub row_inside : (text : List ℕ) (row : ℕ) → row_of text ≡ Ok row → row < 1048576
unfolding row_of
row_inside text row is = (row_from-ok (behind_letters text) row is).inside
