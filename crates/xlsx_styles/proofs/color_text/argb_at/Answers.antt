use Rattle.std.proofs.Common.{◌≡◌, map, option_map, Option, Some, None, sym, ◌∙◌, ap}
use Rattle.std.specs.Prelude.{slice_get, unwrap_or}
use Rattle.std.proofs.lemmas.Option.{get_or_from_slice_get, unwrap_or-slice_get, slice_get-map}
use Rattle.std.proofs.lemmas.Option.{slice_get-get_or, slice_get_past}
use Rattle.cell_styles.specs.Words.{color_of_argb}
use Rattle.cell_styles.specs.declared.color.Color.{Color}
use Rattle.xlsx_styles.specs.Colors.{black}
use Rattle.xlsx_styles.proofs.color_text.argb_at.Goals as goal

pub returns-in-Some : goal.returns-in-Some
returns-in-Some c =
    let n = c.args.number in
    let argbs = c.args.argbs.now in
    let argb = c.in-Some.argb.now in
    let other = c.in-Some.ensures.lookup in
    let here : slice_get argbs n ≡ Some argb = ap (slice_get argbs) (sym c.from.ensures)
    ∙ (slice_get-get_or argbs c.from.result argb other.3.0 ∙ ap Some (sym other.1)) in
    c.from_argb.ensures
    ∙ sym (get_or_from_slice_get (map color_of_argb argbs) n (color_of_argb argb) black
    (slice_get-map color_of_argb argbs n ∙ ap (option_map color_of_argb) here))

pub returns-in-None : goal.returns-in-None
returns-in-None c =
    let n = c.args.number in
    let argbs = c.args.argbs.now in
    let here : slice_get argbs n ≡ None = ap (slice_get argbs) (sym c.from.ensures)
    ∙ slice_get_past argbs c.from.result c.in-None.ensures.lookup.3 in
    c.rgb.ensures
    ∙ (sym (ap (λ (color : Option Color). unwrap_or color black)
    (slice_get-map color_of_argb argbs n ∙ ap (option_map color_of_argb) here))
    ∙ unwrap_or-slice_get (map color_of_argb argbs) n black)
