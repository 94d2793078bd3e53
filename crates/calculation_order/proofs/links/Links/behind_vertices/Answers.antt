use Rattle.std.proofs.Common.{◌≡◌, ◌∙◌, ℕ, List, ◌++◌, ◌-◌, length, map, take, drop, replicate, sym}
use Rattle.std.proofs.Common.{ap, subst, arith}
use Rattle.std.specs.Vec.{vec_len}
use Rattle.std.proofs.lemmas.List.{take_at}
use Rattle.calculation_order.specs.Edges.{numbers_below}
use Rattle.calculation_order.specs.Turns.{AreJoined, behind_at, turn_at}
use Rattle.calculation_order.proofs.Passing.{joins_same, later-append, later-map, later-replicate}
use Rattle.calculation_order.proofs.Passing.{later-take, no_later, told_first}
use Rattle.calculation_order.proofs.links.Links.behind_vertices.Goals as goal

-- what is told of formulas stands first
told : (turns now behind first : List ℕ) (most len count formulas again : ℕ) → now ≡ behind
    → behind ≡ take len first ++ replicate count again
    → first ≡ map (behind_at formulas turns) (numbers_below formulas)
    → formulas ≡ most → again ≡ most
    → now ≡ take len (map (behind_at most turns) (numbers_below most)) ++ replicate count most
told turns now behind first most len count formulas again same is by one other =
    same ∙ is ∙ ap (λ (l : List ℕ). take len l ++ replicate count again) by
    ∙ (λ i. take len (map (behind_at (one i) turns) (numbers_below (one i)))
    ++ replicate count (other i))

pub join_groups-requires-clause-below : goal.join_groups-requires-clause-below
join_groups-requires-clause-below c =
    let most = c.args.self.now.formulas in
    let count = c.len.result - vec_len c.in_ok-behind.behind in
    subst (no_later most) (sym (told c.args.turns.now c.deref_mut.result.now c.resize.new.self.items
    c.in_ok-behind.behind.items most c.len.result count c.formulas.result c.formulas-2.result
    c.deref_mut.ensures.value c.in_ok-resize.ensures.items c.in_ok-behind.ensures
    c.formulas.ensures c.formulas-2.ensures))
    (later-append most
    (take c.len.result (map (behind_at most c.args.turns.now) (numbers_below most)))
    (replicate count most)
    (later-take most c.len.result (map (behind_at most c.args.turns.now) (numbers_below most))
    (later-map most (behind_at most c.args.turns.now) (numbers_below most) (λ n. omega arith)))
    (later-replicate most count))

pub returns : goal.returns
returns c =
    let most = c.args.self.now.formulas in
    let linked = c.args.self.now in
    let count = c.len.result - vec_len c.in_ok-behind.behind in
    let new = c.join_groups.new.behind in
    let back : take c.resize.new.self.len (new ++ drop (length new) c.resize.new.self.items) ≡ new =
    take_at new (drop (length new) c.resize.new.self.items) c.resize.new.self.len
    (c.join_groups.ensures.size ∙ sym c.len.ensures ∙ sym c.in_ok-resize.ensures.len) in
    subst (λ (behind : List ℕ). AreJoined c.args.waiting linked (behind_at most c.args.turns.now)
    behind most) (sym back)
    (joins_same c.args.waiting linked (turn_at most c.deref_mut.result.now)
    (behind_at most c.args.turns.now) new most
    (λ n below. ap (λ (l : List ℕ). turn_at most l n) (told c.args.turns.now c.deref_mut.result.now
    c.resize.new.self.items c.in_ok-behind.behind.items most c.len.result count c.formulas.result
    c.formulas-2.result c.deref_mut.ensures.value c.in_ok-resize.ensures.items
    c.in_ok-behind.ensures c.formulas.ensures c.formulas-2.ensures)
    ∙ told_first (behind_at most c.args.turns.now) most c.len.result (replicate count most) n below
    (omega (arith, c.len.ensures, c.requires.formulas)))
    c.join_groups.ensures)
