-- The style of a position of the area.
use Rattle.std.proofs.Common.{◌≡◌, ℕ, ◌<◌, List, length, slice_get, slice_index, true, Option, Some}
use Rattle.std.proofs.Common.{ap, subst, sym, arith}
use Rattle.std.proofs.lemmas.Bool.Decides.{nat_tests}
use Rattle.cell_refs.specs.Words.{IsInArea, is_in_area}
use Rattle.cell_refs.specs.declared.dimensions.Dimensions.{Dimensions}
use Rattle.cell_styles.specs.StyleMap.{StyleMap, IsSound, place_in_area, style_in, style_at}
use Rattle.cell_styles.proofs.Areas.{place_within}

-- what is known where there is an area
pub of_area : (bounds : Option Dimensions) (count : ℕ) (ids : List ℕ) (area : Dimensions)
    → IsSound bounds count ids → bounds ≡ Some area → IsSound (Some area) count ids
of_area bounds count ids area sound is = subst (λ b. IsSound b count ids) is sound

-- the place of a position is that of an id
pub has_id : (area : Dimensions) (count : ℕ) (ids : List ℕ) (pos : ℕ × ℕ) (place : ℕ)
    → IsSound (Some area) count ids → IsInArea area pos.0 pos.1 → place ≡ place_in_area area pos
    → place < length ids
has_id area count ids pos place sound inside is =
    let within = place_within area pos.0 pos.1 sound.0 inside in
    omega (arith, within, is, sound.1)

pub id_below : (area : Dimensions) (count : ℕ) (ids : List ℕ) (place id : ℕ)
    → IsSound (Some area) count ids
    → place < length ids → id ≡ slice_index ids place → id < count
id_below area count ids place id sound within is =
    subst (λ n. n < count) (sym is) (sound.2 place 0 within)

pub inside_test : (area : Dimensions) (pos : ℕ × ℕ) → IsInArea area pos.0 pos.1
    → is_in_area area pos ≡ true
inside_test area pos inside = grind (arith, nat_tests)

pub style_found : (styles : StyleMap) (area : Dimensions) (pos : ℕ × ℕ) (id : ℕ) → styles.bounds
    ≡ Some area
    → IsInArea area pos.0 pos.1 → id ≡ slice_index styles.ids (place_in_area area pos)
    → slice_get styles.palette id ≡ style_at styles pos
style_found styles area pos id is inside e =
    let test = inside_test area pos inside in
    subst (λ b. slice_get styles.palette id ≡ style_in b styles pos) (sym is)
    (rw test (ap (slice_get styles.palette) e))
