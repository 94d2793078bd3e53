use Rattle.std.proofs.Common.{◌≡◌, ◌∙◌, ◌<◌, ◌≤◌, [], length, get_or, slice_range, sym, arith}
use Rattle.std.proofs.lemmas.List.{get_or_past}
use Rattle.calculation_order.specs.KeptLinks.{cut_at}
use Rattle.calculation_order.proofs.CutLinks.{cut_bounds, cut_index, length-cut_at}
use Rattle.calculation_order.proofs.links.list_of.Goals as goal

-- where the list ends that is asked for
ends_at : (c : goal.After-row_known-1) → (c.args.number < length c.args.ends.now)
    × (c.in-Some.end.now ≡ get_or c.args.ends.now c.args.number 0)
ends_at c = let found = c.in-Some.ensures.lookup.3 in (found.0, found.1 0)

pub between-requires-clause-order : goal.between-requires-clause-order
between-requires-clause-order c =
    let end = ends_at c in
    let bounds = cut_bounds (length c.args.targets.now) 0 c.args.ends.now c.args.number end.0
    c.requires in
    omega (arith, c.begin_of.ensures, end.1, bounds.0)

pub between-requires-clause-within : goal.between-requires-clause-within
between-requires-clause-within c =
    let end = ends_at c in
    let bounds = cut_bounds (length c.args.targets.now) 0 c.args.ends.now c.args.number end.0
    c.requires in
    omega (arith, end.1, bounds.1)

pub returns-in-Some : goal.returns-in-Some
returns-in-Some c =
    let found = c.in-Some.ensures.lookup.3 in
    let targets = c.args.targets.now in
    let ends = c.args.ends.now in
    c.between.ensures
    ∙ (λ i. slice_range targets (c.begin_of.ensures i) (found.1 0 i))
    ∙ sym (cut_index targets 0 ends c.args.number found.0)

pub returns-in-None : goal.returns-in-None
returns-in-None c =
    let targets = c.args.targets.now in
    let ends = c.args.ends.now in
    let past : length ends ≤ c.args.number = c.in-None.ensures.lookup.3 in
    sym (get_or_past (cut_at targets 0 ends) c.args.number []
    (omega (arith, length-cut_at targets 0 ends)))
