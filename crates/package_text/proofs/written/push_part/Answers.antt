use Rattle.std.proofs.Common.{◌∙◌, ap, ◌++◌, List, ℕ, string_bytes}
use Rattle.serde_json.specs.Written.{compact_text}
use Rattle.serde_json.specs.Data.{string}
use Rattle.part_events.specs.Words.{part_at}
use Rattle.package_text.specs.WrittenPackage.{event_texts, events_data}
use Rattle.package_text.proofs.WrittenTexts.{part_joined}
use Rattle.package_text.proofs.written.push_part.Goals as goal

pub returns : goal.returns
returns c =
    let part = part_at c.args.«package».now.parts c.args.part in
    part_joined (string_bytes c.args.out.now) (string_bytes c.push_str.new.self)
    (string_bytes c.push_events.new.out) (string_bytes c.push_str-2.new.self)
    (string_bytes c.push_text.new.out) (string_bytes c.push_str-3.new.self) part.name
    (events_data (event_texts part.events)) c.in_ok-push_str.ensures.bytes
    c.in_ok-push_events.ensures c.in_ok-push_str-2.ensures.bytes
    (c.in_ok-push_text.ensures ∙ ap (λ (own : List ℕ).
    string_bytes c.push_str-2.new.self ++ compact_text (string own)) c.part_name.ensures)
    c.in_ok-push_str-3.ensures.bytes
