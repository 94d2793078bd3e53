use Rattle.std.proofs.Common.{map, ◌∙◌, arith}
use Rattle.std.proofs.lemmas.List.{length-map}
use Rattle.attr_text.proofs.ValuesLemmas.{noted-is}
use Rattle.attr_text.proofs.values.note_value.Goals as goal

pub returns : goal.returns
returns c =
    noted-is c.args.key.now c.args.value.now
    (map (λ k. k.now) c.args.keys.now) c.args.values.now c.loop-i.values
    (length-map c.args.keys.now (λ k. k.now) ∙ c.requires)
    c.loop-i.auto.values
    (λ k l. c.loop-i.invariant.done k (omega arith))
