use Rattle.std.proofs.Common.{◌≡◌, ◌++◌, drop, false, string_bytes}
use Rattle.serde_json.specs.Written.{items_text}
use Rattle.package_text.specs.WrittenPackage.{parts_data}
use Rattle.package_text.proofs.written.push_parts.Given as goal

abbrev pub invariant-loop-part : goal.invariant-loop-part
invariant-loop-part l =
    string_bytes l.out ++ items_text l.is_later (parts_data (drop l.part l.«package».parts))
    ≡ string_bytes l.fn.out ++ items_text false (parts_data l.«package».parts)
