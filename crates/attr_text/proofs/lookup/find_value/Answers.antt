use Rattle.std.proofs.Common.{◌≡◌, ◌∷◌, Ok, Err, true, sym, ap, ◌∙◌}
use Rattle.std.proofs.lemmas.Result.{err_from_is_err_and}
use Rattle.attr_text.specs.Attributes.{first_value, ending_fault}
use Rattle.attr_text.specs.AttrIter.{attrs_left, item_of}
use Rattle.attr_text.specs.Wanted.{accepts}
use Rattle.attr_text.proofs.WantedLemmas.{answer_of-found, answer_of-refused, answer_of-none}
use Rattle.attr_text.proofs.lookup.find_value.Goals as goal

pub returns-in_err-key : goal.returns-in_err-key
returns-in_err-key c =
    let fault = c.in_err-key.field-0.0 in
    let left : attrs_left c.loop-item.item-iterator ≡ Err fault ∷ attrs_left c.next.new.self =
    c.in-Some.ensures.steps
    ∙ ap (λ i. item_of i ∷ attrs_left c.next.new.self) c.in_err-key.was in
    let value = sym c.loop-item.invariant.value ∙ ap (first_value (accepts c.args.wanted)) left in
    let ends = sym c.loop-item.invariant.fault ∙ ap ending_fault left in
    let p = err_from_is_err_and c.from_residual.result c.from_residual.ensures.1 in
    rw (p.1, p.2) (answer_of-refused c.args.wanted c.args.raw.now fault value ends)

pub returns-then-accepts : goal.returns-then-accepts
returns-then-accepts c =
    let key = c.in_ok-key.key.now in
    let value = c.in_ok-key.value.now in
    let left : attrs_left c.loop-item.item-iterator ≡ Ok (key, value) ∷ attrs_left c.next.new.self =
    c.in-Some.ensures.steps
    ∙ ap (λ i. item_of i ∷ attrs_left c.next.new.self) c.in_ok-key.was in
    let yes : accepts c.args.wanted key ≡ true = sym c.if-accepts.ensures in
    answer_of-found c.args.wanted c.args.raw.now value
    (sym c.loop-item.invariant.value ∙ ap (first_value (accepts c.args.wanted)) left ∙ rw yes)

pub returns : goal.returns
returns c =
    answer_of-none c.args.wanted c.args.raw.now
    (sym c.loop-item.invariant.value
    ∙ ap (first_value (accepts c.args.wanted)) c.in-None.ensures.steps.0)
    (sym c.loop-item.invariant.fault ∙ ap ending_fault c.in-None.ensures.steps.0)
