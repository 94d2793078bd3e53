use Rattle.std.proofs.Common.{◌≡◌, if◌then◌else◌}
use Rattle.serde_json.specs.View.{members_view}
use Rattle.serde_json.specs.Written.{members_have_float}
use Rattle.package_text.specs.PackageText.{members_have_float_beside}
use Rattle.package_text.proofs.spelled.members_have_float_beside.Given as goal

abbrev pub invariant-loop-own : goal.invariant-loop-own
invariant-loop-own l =
    (if l.is_passed then members_have_float (members_view l.own-iterator)
    else members_have_float_beside l.key (members_view l.own-iterator))
    ≡ members_have_float_beside l.key (members_view l.members.entries)
