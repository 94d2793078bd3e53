use Rattle.std.proofs.Common.{◌≡◌, [], length, Some, None, sym, ap, ◌∙◌}
use Rattle.std.specs.FinMap.{find}
use Rattle.std.specs.Option.{option_copied, unwrap_or}
use Rattle.cell_refs.specs.Words.{position_cmp}
use Rattle.sorted_cells.specs.Words.{kept_cells}
use Rattle.xlsx_precedents.proofs.Gathering.{found_within, precedents_found}
use Rattle.xlsx_precedents.proofs.index.DependencyIndex.precedents.Goals as goal

pub between-requires-clause-order : goal.between-requires-clause-order
between-requires-clause-order c =
    let cells = kept_cells c.self.inside.cells in
    let found : find position_cmp c.args.pos cells ≡ Some c.in-Some.field-0.now =
    sym c.get.ensures ∙ ap option_copied c.in-Some.is in
    (found_within (length c.self.inside.named.areas.items) c.args.pos cells
    c.in-Some.field-0.now c.self.invariant.0.within found).0

pub between-requires-clause-within : goal.between-requires-clause-within
between-requires-clause-within c =
    let cells = kept_cells c.self.inside.cells in
    let found : find position_cmp c.args.pos cells ≡ Some c.in-Some.field-0.now =
    sym c.get.ensures ∙ ap option_copied c.in-Some.is in
    (found_within (length c.self.inside.named.areas.items) c.args.pos cells
    c.in-Some.field-0.now c.self.invariant.0.within found).1

pub returns-in-Some : goal.returns-in-Some
returns-in-Some c =
    let cells = kept_cells c.self.inside.cells in
    let found : find position_cmp c.args.pos cells ≡ Some c.in-Some.field-0.now =
    sym c.get.ensures ∙ ap option_copied c.in-Some.is in
    c.between.ensures
    ∙ sym (ap (λ o. unwrap_or o []) (precedents_found c.self.inside.named.areas.items c.args.pos
    cells (Some c.in-Some.field-0.now) found))
    ∙ ap (λ index. unwrap_or (find position_cmp c.args.pos index) []) c.self.view_is

pub returns-in-None : goal.returns-in-None
returns-in-None c =
    let cells = kept_cells c.self.inside.cells in
    let found : find position_cmp c.args.pos cells ≡ None =
    sym c.get.ensures ∙ ap option_copied c.in-None.is in
    sym (ap (λ o. unwrap_or o []) (precedents_found c.self.inside.named.areas.items c.args.pos
    cells None found))
    ∙ ap (λ index. unwrap_or (find position_cmp c.args.pos index) []) c.self.view_is
