use Rattle.std.proofs.Common.{◌≡◌, ◌<◌, ◌∷◌, length, map, Ok, Err, Option, List, ℕ, Bor, sym, ap}
use Rattle.std.proofs.Common.{◌∙◌, arith, rules}
use Rattle.std.specs.Option.{option_copied}
use Rattle.std.proofs.lemmas.Result.{err_from_is_err_and}
use Rattle.std.proofs.lemmas.List.{length-map}
use Rattle.attr_text.specs.Attributes.{Item, items, first_values, ending_fault}
use Rattle.attr_text.specs.AttrIter.{attrs_left, item_of}
use Rattle.attr_text.proofs.ValuesLemmas.{found_later, found_later-start, found_later-noted}
use Rattle.attr_text.proofs.ValuesLemmas.{list_all-none, list_all-copied, lookup-end}
use Rattle.attr_text.proofs.ValuesLemmas.{lookup-refused, lookup-all_found, lookup-no_keys}
use Rattle.attr_text.proofs.values.find_values.Goals as goal
use Rattle.attr_text.proofs.values.find_values.Goals.{After-note_value}

-- as many keys as values
same_lengths : (keys : List (Bor (List ℕ))) (values : List (Option (Bor (List ℕ)))) →
    length keys ≡ length values → length (map (λ k. k.now) keys) ≡ length (map option_copied values)
same_lengths keys values e = length-map keys (λ k. k.now) ∙ e
    ∙ sym (length-map values option_copied)

pub returns-then-is_empty : goal.returns-then-is_empty
returns-then-is_empty c =
    let none : length c.args.keys.now ≡ 0 = search rules in
    lookup-no_keys (map (λ k. k.now) c.args.keys.now) c.args.raw.now
    (map option_copied c.args.values.now)
    (length-map c.args.keys.now (λ k. k.now) ∙ none)
    (length-map c.args.values.now option_copied ∙ sym c.requires.length ∙ none)

pub loop-item-init : goal.loop-item-init
loop-item-init c =
    let some : 0 < length c.args.keys.now = search rules in
    let all_left : attrs_left c.into_iter-item-iterator.result ≡ items c.args.raw.now =
    ap attrs_left c.into_iter-item-iterator.ensures.into_iter_gives
    ∙ c.new-item-items.ensures.gives in
    record {
      found = rw (all_left, c.requires.empty)
          (found_later-start (items c.args.raw.now) (λ k. k.now) c.args.keys.now);
      fault = ap ending_fault all_left;
      missing = list_all-none c.args.keys.now c.args.values.now some c.requires.empty;
    }

pub returns-in_err-key : goal.returns-in_err-key
returns-in_err-key c =
    let fault = c.in_err-key.field-0.0 in
    let keys = map (λ k. k.now) c.args.keys.now in
    let values = map option_copied c.loop-item.values in
    let rest = attrs_left c.next.new.self in
    let left : attrs_left c.loop-item.item-iterator ≡ Err fault ∷ rest = c.in-Some.ensures.steps
    ∙ ap (λ i. item_of i ∷ rest) c.in_err-key.was in
    let found = c.loop-item.invariant.found
    ∙ ap (λ (is : List Item). found_later is keys values) left in
    let ends = sym c.loop-item.invariant.fault ∙ ap ending_fault left in
    let p = err_from_is_err_and c.from_residual.result c.from_residual.ensures.1 in
    rw (p.1, p.2) (lookup-refused keys c.args.raw.now values fault rest
    (same_lengths c.args.keys.now c.loop-item.values (omega arith)) found
    (list_all-copied c.loop-item.values ∙ c.loop-item.invariant.missing) ends)

-- what stands first, and what was found once it was read
turn : (c : After-note_value) →
    let rest = attrs_left c.next.new.self in
    let keys = map (λ k. k.now) c.args.keys.now in
    let first = attrs_left c.loop-item.item-iterator
    ≡ Ok (c.in_ok-key.key.now, c.in_ok-key.value.now) ∷ rest in
    first × (first_values keys (items c.args.raw.now)
    ≡ found_later rest keys (map option_copied c.note_value.new.values))
turn c =
    let keys = map (λ k. k.now) c.args.keys.now in
    let old = map option_copied c.loop-item.values in
    let new = map option_copied c.note_value.new.values in
    let rest = attrs_left c.next.new.self in
    let first = c.in-Some.ensures.steps ∙ ap (λ i. item_of i ∷ rest) c.in_ok-key.was in (
      first,
      found_later-noted c.in_ok-key.key.now c.in_ok-key.value.now (items c.args.raw.now)
          (attrs_left c.loop-item.item-iterator)
          rest keys old new c.loop-item.invariant.found first c.note_value.ensures,
    )

pub returns-then-are_all_found : goal.returns-then-are_all_found
returns-then-are_all_found c =
    lookup-all_found (map (λ k. k.now) c.args.keys.now) c.args.raw.now
    (map option_copied c.note_value.new.values) (attrs_left c.next.new.self)
    (same_lengths c.args.keys.now c.note_value.new.values (omega arith))
    (turn (goal.at.returns-then-are_all_found c).After-note_value).1
    (list_all-copied c.note_value.new.values ∙ sym c.if-are_all_found.ensures)

pub loop-item-preserved : goal.loop-item-preserved
loop-item-preserved c =
    let now = turn (goal.at.loop-item-preserved c).After-note_value in
    record {
      found = now.1;
      fault = sym (ap ending_fault now.0) ∙ c.loop-item.invariant.fault;
      missing = sym c.if-are_all_found.ensures;
    }

pub returns : goal.returns
returns c =
    let keys = map (λ k. k.now) c.args.keys.now in
    let values = map option_copied c.loop-item.values in
    lookup-end keys c.args.raw.now values
    (same_lengths c.args.keys.now c.loop-item.values (omega arith))
    (c.loop-item.invariant.found
    ∙ ap (λ (is : List Item). found_later is keys values) c.in-None.ensures.steps.0)
    (sym c.loop-item.invariant.fault ∙ ap ending_fault c.in-None.ensures.steps.0)
