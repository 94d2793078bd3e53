use Rattle.std.proofs.Common.{◌≡◌, ◌++◌, drop}
use Rattle.std.specs.Option.{option_map}
use Rattle.serde_json.specs.View.{items_view}
use Rattle.part_events.specs.Words.{closed}
use Rattle.package_text.specs.PackageText.{parts_beside}
use Rattle.package_text.proofs.spelled.package_beside.Given as goal

abbrev pub invariant-loop-part : goal.invariant-loop-part
invariant-loop-part l =
    (l.«package» ≡ closed l.«package».parts 0)
    × (let left = parts_beside l.is_second (items_view (drop l.part-index l.part-items)) in
    option_map (λ rest. l.«package».parts ++ rest) left
    ≡ parts_beside l.is_second (items_view l.part-items))
