use Rattle.std.proofs.Common.{◌≡◌, ◌∙◌, sym, ap, subst, Some, length}
use Rattle.cell_styles.specs.StyleItems.{cells_along, LieAhead}
use Rattle.cell_styles.specs.StyleRuns.{numbers_along}
use Rattle.cell_styles.proofs.Lookups.{of_area}
use Rattle.cell_styles.proofs.CellLists.{all_ahead, cells_of_area}
use Rattle.cell_styles.proofs.style_range.StyleRange.cells.Goals as goal

pub new-requires : goal.new-requires
new-requires c =
    let sound = of_area _ _ _ c.in-Some.area c.self.invariant c.in-Some.is in
    subst (λ palette. LieAhead c.in-Some.area (length palette) 0 c.as_slice.result.now)
    (sym c.deref.ensures.value)
    (all_ahead c.in-Some.area _ _ c.as_slice.result.now sound c.as_slice.ensures.ids
    c.as_slice.ensures.canonical)

pub returns-in-Some : goal.returns-in-Some
returns-in-Some c =
    let sound = of_area _ _ _ c.in-Some.area c.self.invariant c.in-Some.is in
    let is : c.args.self.now ≡ record {
      bounds = Some c.in-Some.area;
      palette = c.self.inside.palette.items;
      ids = c.self.inside.ids;
    } = sym c.self.view_is ∙ (λ i. record {
      bounds = c.in-Some.is i;
      palette = c.self.inside.palette.items;
      ids = c.self.inside.ids;
    }) in
    c.new.ensures
    ∙ (ap (λ palette. cells_along c.in-Some.area palette 0 (numbers_along 0 c.as_slice.result.now))
    c.deref.ensures.value
    ∙ cells_of_area c.args.self.now c.in-Some.area c.self.inside.palette.items c.self.inside.ids
    c.as_slice.result.now is sound c.as_slice.ensures.ids)
