use Rattle.std.proofs.Common.{inl, inr, ◌∙◌, ◌-◌, length, arith}
use Rattle.calculation_order.specs.Turns.{joined_of, turn_at}
use Rattle.calculation_order.proofs.Passing.{joins_next, joins_none}
use Rattle.calculation_order.proofs.links.Links.join_groups.Goals as goal

pub loop-vertex-init : goal.loop-vertex-init
loop-vertex-init c = record {
  joined = joins_none c.args.waiting c.args.self.now c.args.behind.now (length c.args.behind.now)
      c.requires.size (omega (arith, c.requires.size)) c.requires.below;
  within = omega (arith, c.requires.size);
}

pub loop-vertex-preserved : goal.loop-vertex-preserved
loop-vertex-preserved c =
    let linked = c.args.self.now in
    let turn = turn_at linked.formulas c.args.behind.now in
    let v = c.loop-vertex.vertex - 1 in
    record {
      joined = joins_next c.args.waiting linked c.requires.grouped turn c.loop-vertex.behind
          c.loop-vertex.vertex v c.joined_of-turn.result c.loop-vertex.invariant.joined
          (omega arith) (omega (arith, c.formulas.ensures))
          (omega (arith, c.loop-vertex.invariant.within))
          (c.joined_of-turn.ensures
          ∙ (λ i. joined_of c.args.waiting (c.formulas-in-loop-vertex.ensures i)
          (turn_at (c.formulas-in-loop-vertex.ensures i) c.loop-vertex.behind) (c.of.ensures i)));
      within = omega (arith, c.loop-vertex.invariant.within);
    }

pub returns : goal.returns
returns c =
    let so = c.loop-vertex.invariant.joined in record {
      size = so.size;
      joined_at = λ v within place. so.joined_at v within (elim place [
        | inl e ↦ inl e
        | inr e ↦ inr (omega (arith, c.formulas.ensures))
      ]);
    }
