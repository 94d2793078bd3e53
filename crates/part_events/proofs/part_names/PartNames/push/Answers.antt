use Rattle.std.proofs.Common.{◌≤◌, ℕ, List, [], length, refl, subst, arith, rules}
use Rattle.part_events.specs.PartNames.{place_by}
use Rattle.part_events.proofs.NamesFound.{finds_new, finds_again, none_kept, some_kept}
use Rattle.part_events.proofs.part_names.PartNames.push.Goals as goal

pub returns-in_ok-insert-clause-ok : goal.returns-in_ok-insert-clause-ok
returns-in_ok-insert-clause-ok c = λ parts been is.
    let old = c.make_room.new.self in
    let key = c.in_ok-key.key in
    finds_new old _ parts (record { name = c.args.name.now; events = [] }) key
    (c.in_ok-make_room.ensures.keeps parts been) c.in_ok-key.ensures
    (none_kept (place_by old.places key.items) (search rules))
    (rw is at c.in_ok-insert.ensures.updates) (omega arith)
    (subst (λ (own : List ℕ). length own ≤ length old.buffer.items) c.in_ok-key.ensures
    c.in_ok-make_room.ensures.room)

pub returns-else-is_none-clause-ok : goal.returns-else-is_none-clause-ok
returns-else-is_none-clause-ok c = λ parts been is.
    let old = c.make_room.new.self in
    let key = c.in_ok-key.key in
    finds_again old _ parts (record { name = c.args.name.now; events = [] }) key
    (c.in_ok-make_room.ensures.keeps parts been) c.in_ok-key.ensures
    (some_kept (place_by old.places key.items) (search rules))
    refl (omega arith)
    (subst (λ (own : List ℕ). length own ≤ length old.buffer.items) c.in_ok-key.ensures
    c.in_ok-make_room.ensures.room)
