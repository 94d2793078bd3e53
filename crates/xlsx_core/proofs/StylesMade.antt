-- The styles of entries of which those that don't count are left out.
use Rattle.std.proofs.Common.{◌≡◌, ℕ, List, [], ◌∷◌, length, Bool, true, false, refl, ◌∙◌, ap, sym}
use Rattle.std.proofs.Common.{Result, Ok, Err}
use Rattle.std.specs.Prelude.{filter, ◌&&◌, if◌then◌else◌, IfOk}
use Rattle.std.specs.declared.alloc.AllocError.{AllocError}
use Rattle.cell_styles.proofs.Meaning.{kept, dropped}
use Rattle.cell_styles.proofs.SameRanges.{same_range}
use Rattle.cell_styles.specs.Words.{StyledCell, StyleMap, is_explicit, is_at, first_id_at}
use Rattle.cell_styles.specs.Words.{styles_of}
use Rattle.cell_styles.specs.declared.style.Style.{Style}

first_id_kept : (count : ℕ) (cells : List StyledCell) (position : ℕ × ℕ)
    → first_id_at count (filter (is_explicit count) cells) position
    ≡ first_id_at count cells position
first_id_kept count [] position = refl
first_id_kept count (cell ∷ cells) position =
    by_test (is_explicit count cell) refl (first_id_kept count cells position)
  where
    by_test : (test : Bool) → is_explicit count cell ≡ test
        → first_id_at count (filter (is_explicit count) cells) position
        ≡ first_id_at count cells position
        → first_id_at count (filter (is_explicit count) (cell ∷ cells)) position
        ≡ first_id_at count (cell ∷ cells) position
    by_test true is others =
        ap (λ (own : List StyledCell). first_id_at count own position)
        (kept (is_explicit count) cell cells is)
        ∙ ap (λ (later : ℕ). if is_explicit count cell && is_at position cell then cell.2
        else later) others
    by_test false is others =
        let passed : first_id_at count (cell ∷ cells) position
        ≡ first_id_at count cells position = rw is refl in
        ap (λ (own : List StyledCell). first_id_at count own position)
        (dropped (is_explicit count) cell cells is) ∙ others ∙ sym passed

pub styles_whole : (palette : List Style) (ids all : List StyledCell)
    (made : Result StyleMap AllocError) → IfOk made (λ range. range ≡ styles_of palette ids)
    → ids ≡ filter (is_explicit (length palette)) all
    → IfOk made (λ range. range ≡ styles_of palette all)
styles_whole palette ids all (Ok range) is same =
    is ∙ ap (styles_of palette) same
    ∙ same_range palette (filter (is_explicit (length palette)) all) all
    (first_id_kept (length palette) all)
styles_whole palette ids all (Err error) is same = tt
