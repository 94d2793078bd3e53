-- The codes of styles by their places.
use Rattle.std.proofs.Common.{◌≡◌, ◌∙◌, ℕ, ◌≤◌, List, length, map, sym, ap, arith}
use Rattle.std.specs.Prelude.{slice_get}
use Rattle.std.specs.Option.{option_map}
use Rattle.std.proofs.lemmas.List.{length-map}
use Rattle.std.proofs.lemmas.Option.{slice_get_past, slice_get-map}
use Rattle.cell_styles.specs.declared.style.Style.{Style}
use Rattle.xlsx_formats.specs.Formattings.{style_said}
use Rattle.xlsx_core.specs.ShownSheet.{style_code, code_at}

-- a place past the styles has no style
pub code_past : (styles : List Style) (id : ℕ) → length styles ≤ id
    → code_at (map style_said styles) (length styles) ≡ code_at (map style_said styles) id
code_past styles id past =
    let size = length-map styles style_said in
    ap style_code (slice_get_past (map style_said styles) (length styles)
    (omega (arith, size))
    ∙ sym (slice_get_past (map style_said styles) id (omega (arith, size, past))))

-- the code of a style that is had from a list of styles
pub code_there : (styles : List Style) (id : ℕ)
    → style_code (option_map style_said (slice_get styles id))
    ≡ code_at (map style_said styles) id
code_there styles id = ap style_code (sym (slice_get-map style_said styles id))
