use Rattle.std.proofs.Common.{◌<◌, [], fold, ◌≡◌, ◌∙◌, sym, ap, subst, Some, length, filter, All}
use Rattle.std.proofs.lemmas.List.Elements.{All-filter}
use Rattle.cell_refs.specs.Words.{cell_count}
use Rattle.cell_styles.specs.Filling.{cell_place, filled_to, put_in}
use Rattle.cell_styles.specs.StyleMap.{IsOnSheet, is_explicit, covering_area}
use Rattle.cell_styles.proofs.Meaning.{map_of, sorted_within, map_is_sound, map_is_styles}
use Rattle.cell_styles.proofs.style_range.StyleRange.from_style_ids.Goals as goal

pub covering_area-requires : goal.covering_area-requires
covering_area-requires c =
    let here : c.deref.result.now ≡ filter (is_explicit c.len.result) c.args.cells.items =
    c.deref.ensures.value ∙ c.explicit-cells.ensures in
    subst (All IsOnSheet) (sym here)
    (All-filter (is_explicit c.len.result) IsOnSheet c.args.cells.items c.requires)

pub filled-requires-clause-places : goal.filled-requires-clause-places
filled-requires-clause-places c =
    let area = c.in-Some.bounds in
    let bounds : covering_area c.explicit-cells.result.items ≡ Some area =
    sym (c.covering_area.ensures.value ∙ ap covering_area c.deref.ensures.value) ∙ c.in-Some.is in
    subst (All (λ cell. cell_place area cell < cell_count area)) (sym c.deref-in-Some.ensures.value)
    (sorted_within c.explicit-cells.result.items c.in_ok-cells-in-Some.cells.items area bounds
    c.in-Some.ensures.area
    c.in_ok-cells-in-Some.ensures.permutation)

pub invariant_of-result : goal.invariant_of-result
invariant_of-result c =
    let area = c.in-Some.bounds in
    let count : c.len.result ≡ length c.args.palette.items = c.len.ensures ∙ c.args.palette.ok.0 in
    let kept : c.explicit-cells.result.items
    ≡ filter (is_explicit (length c.args.palette.items)) c.args.cells.items =
    c.explicit-cells.ensures ∙ ap (λ n. filter (is_explicit n) c.args.cells.items) count in
    let bounds : covering_area c.explicit-cells.result.items ≡ Some area =
    sym (c.covering_area.ensures.value ∙ ap covering_area c.deref.ensures.value) ∙ c.in-Some.is in
    let filled : c.in_ok-ids-in-Some.ids
    ≡ filled_to (cell_count area) (fold (put_in area) [] c.in_ok-cells-in-Some.cells.items) =
    c.in_ok-ids-in-Some.ensures
    ∙ ap (λ xs. filled_to (cell_count area) (fold (put_in area) [] xs))
    c.deref-in-Some.ensures.value in
    let sorted = c.in_ok-cells-in-Some.ensures in
    let made = map_of (length c.args.palette.items) c.args.cells.items c.explicit-cells.result.items
    c.in_ok-cells-in-Some.cells.items area c.in_ok-ids-in-Some.ids kept bounds
    c.in-Some.ensures.area
    sorted.stable sorted.permutation sorted.sorted filled in
    map_is_sound (length c.args.palette.items) c.args.cells.items area c.in_ok-ids-in-Some.ids
    c.in-Some.ensures.area made

pub returns-in_ok-ids-in-Some : goal.returns-in_ok-ids-in-Some
returns-in_ok-ids-in-Some c =
    let area = c.in-Some.bounds in
    let count : c.len.result ≡ length c.args.palette.items = c.len.ensures ∙ c.args.palette.ok.0 in
    let kept : c.explicit-cells.result.items
    ≡ filter (is_explicit (length c.args.palette.items)) c.args.cells.items =
    c.explicit-cells.ensures ∙ ap (λ n. filter (is_explicit n) c.args.cells.items) count in
    let bounds : covering_area c.explicit-cells.result.items ≡ Some area =
    sym (c.covering_area.ensures.value ∙ ap covering_area c.deref.ensures.value) ∙ c.in-Some.is in
    let filled : c.in_ok-ids-in-Some.ids
    ≡ filled_to (cell_count area) (fold (put_in area) [] c.in_ok-cells-in-Some.cells.items) =
    c.in_ok-ids-in-Some.ensures
    ∙ ap (λ xs. filled_to (cell_count area) (fold (put_in area) [] xs))
    c.deref-in-Some.ensures.value in
    let sorted = c.in_ok-cells-in-Some.ensures in
    let made = map_of (length c.args.palette.items) c.args.cells.items c.explicit-cells.result.items
    c.in_ok-cells-in-Some.cells.items area c.in_ok-ids-in-Some.ids kept bounds
    c.in-Some.ensures.area
    sorted.stable sorted.permutation sorted.sorted filled in
    sym (map_is_styles c.args.palette.items c.args.cells.items area c.in_ok-ids-in-Some.ids made)
