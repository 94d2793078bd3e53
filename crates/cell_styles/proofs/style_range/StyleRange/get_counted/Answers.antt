use Rattle.std.proofs.Common.{◌≡◌, ◌∙◌, sym, ap, Some, slice_index, slice_get, refl, arith}
use Rattle.std.proofs.lemmas.Option.{slice_get_read}
use Rattle.cell_refs.specs.Words.{IsInArea}
use Rattle.cell_styles.specs.StyleMap.{place_in_area}
use Rattle.cell_styles.proofs.Lookups.{of_area, has_id, id_below, style_found}
use Rattle.cell_styles.proofs.style_range.StyleRange.get_counted.Goals as goal

pub id_at-id-requires : goal.id_at-id-requires
id_at-id-requires g c =
    has_id c.in_ok-bounds.bounds _ _ c.args.pos c.place_in.result
    (of_area _ _ _ c.in_ok-bounds.bounds c.self.invariant c.in_ok-bounds.was)
    (c.contains.ensures.0 c.if-not-contains.false) c.place_in.ensures

pub index-requires : goal.index-requires
index-requires g c =
    let sound = of_area _ _ _ c.in_ok-bounds.bounds c.self.invariant c.in_ok-bounds.was in
    let place = has_id c.in_ok-bounds.bounds _ _ c.args.pos c.place_in.result sound
    (c.contains.ensures.0 c.if-not-contains.false) c.place_in.ensures in
    let below = id_below c.in_ok-bounds.bounds _ _ c.place_in.result c.id_at-id.result sound place
    c.id_at-id.ensures.id in
    omega (arith, below, c.self.inside.palette.ok.0)

pub returns-clause-value : goal.returns-clause-value
returns-clause-value g c =
    let sound = of_area _ _ _ c.in_ok-bounds.bounds c.self.invariant c.in_ok-bounds.was in
    let place = has_id c.in_ok-bounds.bounds _ _ c.args.pos c.place_in.result sound
    (c.contains.ensures.0 c.if-not-contains.false) c.place_in.ensures in
    let below = id_below c.in_ok-bounds.bounds _ _ c.place_in.result c.id_at-id.result sound place
    c.id_at-id.ensures.id in
    let inside : IsInArea c.in_ok-bounds.bounds c.args.pos.0 c.args.pos.1 =
    c.contains.ensures.0 c.if-not-contains.false in
    let bounds : c.args.self.now.bounds ≡ Some c.in_ok-bounds.bounds =
    sym (ap (λ s. s.bounds) c.self.view_is) ∙ c.in_ok-bounds.was in
    let id : c.id_at-id.result
    ≡ slice_index c.args.self.now.ids (place_in_area c.in_ok-bounds.bounds c.args.pos) =
    c.id_at-id.ensures.id ∙ (ap (slice_index c.self.inside.ids) c.place_in.ensures
    ∙ ap (λ s. slice_index s.ids (place_in_area c.in_ok-bounds.bounds c.args.pos))
    c.self.view_is) in
    let found = style_found c.args.self.now c.in_ok-bounds.bounds c.args.pos c.id_at-id.result
    bounds inside id in
    let palette : c.self.inside.palette.items ≡ c.args.self.now.palette =
    ap (λ s. s.palette) c.self.view_is in
    let here : slice_get c.self.inside.palette.items c.id_at-id.result ≡ Some c.index.result.now =
    slice_get_read c.self.inside.palette.items _ c.id_at-id.result c.index.result.now refl below
    c.index.ensures in
    sym here ∙ (ap (λ items. slice_get items c.id_at-id.result) palette ∙ found)
