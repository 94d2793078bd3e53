use Rattle.std.proofs.Common.{◌≡◌, List, [], ◌∷◌, ◌++◌, drop}
use Rattle.std.specs.Option.{option_map}
use Rattle.serde_json.specs.View.{items_view}
use Rattle.part_events.specs.Words.{Event, closed}
use Rattle.package_text.specs.PackageText.{events_of_items}
use Rattle.package_text.proofs.spelled.push_part_of.Given as goal

abbrev pub invariant-loop-value : goal.invariant-loop-value
invariant-loop-value l =
    (done : List Event)
    × (let old = l.fn.«package» in
    l.«package» ≡ closed (old.parts ++ record { name = l.name; events = done } ∷ []) old.taken)
    × (let left = events_of_items l.is_second (items_view (drop l.value-index l.events)) in
    option_map (λ rest. done ++ rest) left ≡ events_of_items l.is_second (items_view l.events))
