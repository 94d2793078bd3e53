use Rattle.std.proofs.Common.{◌≡◌, length, map, Ok, Err, Some, sym, ap, ◌∙◌, arith}
use Rattle.std.proofs.lemmas.List.{map_push}
use Rattle.attr_text.specs.Words.{attribute, broken, front_of, item_of, front_of_parts}
use Rattle.attr_text.specs.Attributes.{items}
use Rattle.tests_parts.proofs.SlowLemmas.{read-attribute, read-broken, read-nothing, rest-below}
use Rattle.tests_parts.proofs.slow_attributes.slow_items.Goals as goal

pub loop-first-init : goal.loop-first-init
unfolding items
loop-first-init c = record {
  read = rw c.new-list.ensures.items;
  within = omega arith;
}

pub loop-first-smaller : goal.loop-first-smaller
loop-first-smaller c =
    let first : attribute c.in-Ok.key.now c.in-Ok.value.now c.in-Ok.rest.now
    ≡ front_of (length c.args.text.now) c.loop-first.left.now =
    sym (ap (λ f. front_of_parts (Some f)) c.in-Ok.is) ∙ c.in-Some.ensures in
    rest-below (length c.args.text.now) c.loop-first.left.now _ _ c.in-Ok.rest.now first

pub loop-first-preserved : goal.loop-first-preserved
loop-first-preserved c =
    let size = length c.args.text.now in
    let left = c.loop-first.left.now in
    let key = c.in-Ok.key.now in
    let value = c.in-Ok.value.now in
    let rest = c.in-Ok.rest.now in
    let list = c.loop-first.list.items in
    let first : attribute key value rest ≡ front_of size left =
    sym (ap (λ f. front_of_parts (Some f)) c.in-Ok.is) ∙ c.in-Some.ensures in
    let below = rest-below size left key value rest first in
    record {
      read = rw (
        c.in_ok-push-in-Ok.ensures.items,
        map_push item_of list (Ok (c.in-Ok.key, c.in-Ok.value)),
      )
          (read-attribute size left key value rest (items c.args.text.now)
          (map item_of list) c.loop-first.invariant.read first);
      within = omega (arith, below, c.loop-first.invariant.within);
    }

pub returns-in-Err : goal.returns-in-Err
returns-in-Err c =
    let size = length c.args.text.now in
    let left = c.loop-first.left.now in
    let fault = c.in-Err.fault in
    let list = c.loop-first.list.items in
    let first : broken fault ≡ front_of size left =
    sym (ap (λ f. front_of_parts (Some f)) c.in-Err.is) ∙ c.in-Some.ensures in
    rw (c.in_ok-push-in-Err.ensures.items, map_push item_of list (Err fault))
    (read-broken size left fault (items c.args.text.now)
    (map item_of list) c.loop-first.invariant.read first)

pub returns : goal.returns
returns c =
    read-nothing (length c.args.text.now) c.loop-first.left.now (items c.args.text.now)
    (map item_of c.loop-first.list.items) c.loop-first.invariant.read c.in_default.ensures
