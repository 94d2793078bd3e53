use Rattle.std.proofs.Common.{◌≡◌, ◌∙◌, sym, ap, Some, slice_get}
use Rattle.cell_refs.specs.Words.{IsInArea}
use Rattle.cell_styles.proofs.NamedStyles.{looked_up, named_inside}
use Rattle.cell_styles.proofs.style_range.StyleRange.style_with_id.Goals as goal

pub returns : goal.returns
returns c =
    let area = c.in_ok-bounds.bounds in
    let inside : IsInArea area c.args.pos.0 c.args.pos.1 =
    c.contains.ensures.0 c.if-not-contains.false in
    let bounds : c.args.self.now.bounds ≡ Some area =
    sym (ap (λ s. s.bounds) c.self.view_is) ∙ c.in_ok-bounds.was in
    let palette : c.self.inside.palette.items ≡ c.args.self.now.palette =
    ap (λ s. s.palette) c.self.view_is in
    let lookup = c.get.ensures.lookup in
    looked_up c.get.result c.deref.result.now c.args.id lookup.0 lookup.1
    ∙ ap (λ items. slice_get items c.args.id) (c.deref.ensures.value ∙ palette)
    ∙ named_inside c.args.self.now area c.args.pos c.args.id bounds inside
