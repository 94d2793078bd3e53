use Rattle.std.proofs.Common.{rules, ◌≡◌, ◌∷◌, ◌++◌, ◌∙◌, ap, sym}
use Rattle.cell_refs.specs.Words.{position_cmp, is_rising}
use Rattle.sorted_cells.specs.Words.{kept_cells}
use Rattle.sorted_cells.proofs.Orders.{after_sorted}
use Rattle.cell_data.proofs.gathered.sorted_of.Goals as goal

pub push-requires : goal.push-requires
push-requires g c =
    let first : c.loop-pos.left ≡ (c.in-Some.pos, c.in-Some.val) ∷ c.next.new.self =
    search rules in
    after_sorted position_cmp (kept_cells c.loop-pos.kept) (c.in-Some.pos, c.in-Some.val)
    c.next.new.self
    (ap (λ cells. is_rising (kept_cells c.loop-pos.kept ++ cells)) (sym first)
    ∙ (ap is_rising c.loop-pos.invariant ∙ c.requires))
