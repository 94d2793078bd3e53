use Rattle.std.proofs.Common.{string_bytes}
use Rattle.package_text.proofs.WrittenTexts.{whole_joined}
use Rattle.package_text.proofs.written.package_text.Goals as goal

pub returns : goal.returns
returns c =
    whole_joined (string_bytes c.in_ok-text.text) (string_bytes c.push_parts.new.out)
    (string_bytes c.push_str.new.self) c.args.«package».now.parts c.in_ok-text.ensures.ok
    c.in_ok-push_parts.ensures c.in_ok-push_str.ensures.bytes
