use Rattle.std.proofs.Common.{◌≡◌, ◌++◌, drop, map, string_bytes}
use Rattle.escaped_text.specs.Escaped.{AddsBehind}
use Rattle.list_lines.specs.Fields.{further_texts, field_meant}
use Rattle.list_lines.proofs.text.push_further.Given as goal

abbrev pub invariant-loop-field : goal.invariant-loop-field
invariant-loop-field l =
    AddsBehind (string_bytes l.fn.out) (string_bytes l.out)
    × (string_bytes l.out ++ further_texts (map field_meant (drop l.field-index l.fields))
    ≡ string_bytes l.fn.out ++ further_texts (map field_meant l.fields))
