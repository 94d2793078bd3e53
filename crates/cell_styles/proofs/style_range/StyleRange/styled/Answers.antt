use Rattle.std.proofs.Common.{◌≡◌, ◌∙◌, List, sym, ap, Some, subst, length}
use Rattle.cell_styles.specs.StyleItems.{RiseOnSheet, id_among, style_named}
use Rattle.cell_styles.specs.StyleMap.{StyledCell, IsSound}
use Rattle.cell_styles.specs.StyleRuns.{numbers_along}
use Rattle.cell_styles.proofs.Lookups.{of_area}
use Rattle.cell_styles.proofs.NamedStyles.{named_in}
use Rattle.cell_styles.proofs.StyledLists.{all_within, styled_of_area}
use Rattle.cell_styles.proofs.StyledOrder.{styled_rise}
use Rattle.cell_styles.proofs.style_range.StyleRange.styled.Goals as goal

pub new-requires : goal.new-requires
new-requires c =
    let sound = of_area _ _ _ c.in-Some.area c.self.invariant c.in-Some.is in
    all_within c.in-Some.area _ _ c.as_slice.result.now sound c.as_slice.ensures.ids
    c.as_slice.ensures.canonical

pub returns-in-Some : goal.returns-in-Some
returns-in-Some c =
    let sound = of_area _ _ _ c.in-Some.area c.self.invariant c.in-Some.is in
    let bounds : c.args.self.now.bounds ≡ Some c.in-Some.area =
    sym (ap (λ s. s.bounds) c.self.view_is) ∙ c.in-Some.is in
    let ids = sym (ap (λ s. s.ids) c.self.view_is) in
    let cells = c.new.ensures
    ∙ styled_of_area c.args.self.now c.in-Some.area c.self.inside.ids c.as_slice.result.now bounds
    ids sound.1 c.as_slice.ensures.ids in
    record {
      cells = cells;
      ids = λ position.
          ap (λ (own : List StyledCell). style_named c.args.self.now position
          (id_among own position)) cells
          ∙ named_in c.args.self.now c.in-Some.area _ bounds
          (subst (IsSound (Some c.in-Some.area) _) (sym ids) sound) position;
      order = subst RiseOnSheet (sym c.new.ensures)
          (styled_rise c.in-Some.area (numbers_along 0 c.as_slice.result.now) sound.0
          (ap length c.as_slice.ensures.ids ∙ sound.1));
    }
