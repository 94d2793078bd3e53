use Rattle.std.proofs.Common.{◌≡◌, ◌++◌, drop, string_bytes}
use Rattle.std.specs.List.{flat_map}
use Rattle.escaped_text.specs.Escaped.{AddsBehind}
use Rattle.list_lines.specs.Fields.{next_field, area_field}
use Rattle.list_lines.proofs.text.push_areas.Given as goal

abbrev pub invariant-loop-area : goal.invariant-loop-area
invariant-loop-area l =
    AddsBehind (string_bytes l.fn.out) (string_bytes l.out)
    × (string_bytes l.out
    ++ flat_map (λ one. next_field (area_field one)) (drop l.area-index l.areas)
    ≡ string_bytes l.fn.out ++ flat_map (λ one. next_field (area_field one)) l.areas)
