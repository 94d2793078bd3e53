use Rattle.std.proofs.Common.{◌≡◌, ◌++◌, drop, map}
use Rattle.json.specs.Json.{Members}
use Rattle.json.specs.Tree.{members_tokens}
use Rattle.list_lines.specs.Fields.{field_members, field_meant}
use Rattle.list_lines.proofs.value.write_fields.Given as goal

abbrev pub invariant-loop-field : goal.invariant-loop-field
invariant-loop-field l =
    (l.writer.before ≡ l.fn.writer.before)
    × ((members : Members) → l.writer.tokens
    ++ members_tokens (field_members (map field_meant (drop l.field-index l.fields)) members)
    ≡ l.fn.writer.tokens ++ members_tokens (field_members (map field_meant l.fields) members))
