use Rattle.std.proofs.Common.{◌≡◌, ◌++◌, ◌∷◌, drop, map}
use Rattle.json.specs.Token.{begin_array}
use Rattle.json.specs.Tree.{items_tokens}
use Rattle.list_lines.specs.Fields.{string_items, area_field}
use Rattle.list_lines.proofs.value.write_areas.Given as goal

abbrev pub invariant-loop-area : goal.invariant-loop-area
invariant-loop-area l =
    (l.writer.before ≡ l.fn.writer.before)
    × (l.writer.tokens ++ items_tokens (string_items (map area_field (drop l.area-index l.areas)))
    ≡ l.fn.writer.tokens ++ begin_array ∷ items_tokens (string_items (map area_field l.areas)))
