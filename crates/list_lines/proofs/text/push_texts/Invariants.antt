use Rattle.std.proofs.Common.{◌≡◌, ◌++◌, drop, map, string_bytes, List, ℕ}
use Rattle.std.specs.List.{flat_map}
use Rattle.escaped_text.specs.Escaped.{AddsBehind, escaped}
use Rattle.list_lines.specs.Fields.{next_field}
use Rattle.list_lines.proofs.text.push_texts.Given as goal

abbrev texts_behind : List (List ℕ) → List ℕ
texts_behind texts = flat_map (λ one. next_field (escaped one)) texts

abbrev pub invariant-loop-text : goal.invariant-loop-text
invariant-loop-text l =
    AddsBehind (string_bytes l.fn.out) (string_bytes l.out)
    × (string_bytes l.out ++ texts_behind (map string_bytes (drop l.text-index l.texts))
    ≡ string_bytes l.fn.out ++ texts_behind (map string_bytes l.texts))
