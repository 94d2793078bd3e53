use Rattle.std.proofs.Common.{◌≡◌, true, false, drop, sym, ap, ◌∙◌}
use Rattle.std.proofs.lemmas.List.{take_rest, drop_all}
use Rattle.markup.specs.Marks.{begins_with, first_place_of}
use Rattle.markup.proofs.Places.{shifted, place_here, place_later, place_nowhere}
use Rattle.markup.proofs.marks.place_of.Goals as goal

pub returns-then-starts_with-clause-value : goal.returns-then-starts_with-clause-value
returns-then-starts_with-clause-value c =
    let needle = c.args.needle.now in
    let bytes = c.args.bytes.now in
    let i = c.loop-at.at in
    let is : begins_with needle (drop i bytes) ≡ true =
    ap (begins_with needle) (sym (take_rest bytes i)) ∙ sym c.starts_with.ensures.value
    ∙ c.if-starts_with.true in
    sym (c.loop-at.invariant ∙ place_here needle bytes i c.loop-at-test.true is)

pub loop-at-preserved : goal.loop-at-preserved
loop-at-preserved c =
    let needle = c.args.needle.now in
    let bytes = c.args.bytes.now in
    let i = c.loop-at.at in
    let is : begins_with needle (drop i bytes) ≡ false =
    ap (begins_with needle) (sym (take_rest bytes i)) ∙ sym c.starts_with.ensures.value
    ∙ c.if-starts_with.false in
    c.loop-at.invariant ∙ place_later needle bytes i c.loop-at-test.true is

pub returns-clause-value : goal.returns-clause-value
returns-clause-value c =
    let needle = c.args.needle.now in
    let i = c.loop-at.at in
    sym (c.loop-at.invariant
    ∙ ap (λ rest. shifted i (first_place_of needle rest))
    (drop_all i c.args.bytes.now c.loop-at-test.false)
    ∙ place_nowhere needle i)
