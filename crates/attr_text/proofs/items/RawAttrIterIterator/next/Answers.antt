use Rattle.std.proofs.Common.{List, ◌∷◌, length, Err, sym, ap, subst, ◌∙◌, arith, rules}
use Rattle.attr_text.specs.Attributes.{Front, Item}
use Rattle.attr_text.proofs.ItemsLemmas.{RestIsBelow, front_of-below, items_left-nil}
use Rattle.attr_text.proofs.ItemsLemmas.{items_left-nothing, items_left-broken}
use Rattle.attr_text.proofs.ItemsLemmas.{items_left-attribute}
use Rattle.attr_text.proofs.items.RawAttrIterIterator.next.Goals as goal

pub invariant_of-self-in-Attribute : goal.invariant_of-self-in-Attribute
invariant_of-self-in-Attribute c =
    let self = c.args.self.now in
    let below = subst (λ (f : Front). RestIsBelow f (length self.rest.now))
    (sym c.in-Attribute.ensures) (front_of-below self.size self.rest.now) in
    record { within = omega (arith, below, self.within) }

pub returns-in-Nothing-clause-steps : goal.returns-in-Nothing-clause-steps
returns-in-Nothing-clause-steps c =
    (items_left-nothing _ _ c.in-Nothing.ensures, items_left-nil c.args.self.now.size)

pub returns-in-Broken-clause-steps : goal.returns-in-Broken-clause-steps
returns-in-Broken-clause-steps c =
    items_left-broken _ _ _ c.in-Broken.ensures
    ∙ ap (λ (is : List Item). Err c.in-Broken.fault ∷ is)
    (sym (items_left-nil c.args.self.now.size))

pub returns-in-Broken-clause-goes : goal.returns-in-Broken-clause-goes
returns-in-Broken-clause-goes c =
    let self = c.args.self.now in
    let one = ap length (items_left-broken self.size self.rest.now _ c.in-Broken.ensures) in
    let none = ap length (items_left-nil self.size) in
    search rules

pub returns-in-Attribute-clause-steps : goal.returns-in-Attribute-clause-steps
returns-in-Attribute-clause-steps c = items_left-attribute _ _ _ _ _ c.in-Attribute.ensures

pub returns-in-Attribute-clause-goes : goal.returns-in-Attribute-clause-goes
returns-in-Attribute-clause-goes c =
    let self = c.args.self.now in
    let shorter = ap length
    (items_left-attribute self.size self.rest.now _ _ _ c.in-Attribute.ensures) in
    search rules
