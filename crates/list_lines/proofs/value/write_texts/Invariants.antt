use Rattle.std.proofs.Common.{◌≡◌, ◌++◌, ◌∷◌, drop, map, string_bytes}
use Rattle.json.specs.Token.{begin_array}
use Rattle.json.specs.Tree.{items_tokens}
use Rattle.list_lines.specs.Fields.{string_items}
use Rattle.list_lines.proofs.value.write_texts.Given as goal

abbrev pub invariant-loop-text : goal.invariant-loop-text
invariant-loop-text l =
    (l.writer.before ≡ l.fn.writer.before)
    × (l.writer.tokens ++ items_tokens (string_items (map string_bytes (drop l.text-index l.texts)))
    ≡ l.fn.writer.tokens
    ++ begin_array ∷ items_tokens (string_items (map string_bytes l.texts)))
