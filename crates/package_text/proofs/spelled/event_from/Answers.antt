use Rattle.std.proofs.Common.{◌≤◌, sym, map, length}
use Rattle.std.proofs.lemmas.List.{length-map}
use Rattle.serde_json.specs.View.{view}
use Rattle.package_text.proofs.PackageTextLemmas.{long_is_no_event}
use Rattle.package_text.proofs.spelled.event_from.Goals as goal

pub returns-in-len4-up : goal.returns-in-len4-up
returns-in-len4-up c =
    let values = c.in_ok-as_array.field-0.now.items in
    let same = c.as_slice.ensures.value in
    let long : 4 ≤ length (map view values) =
    rw length-map (rw same at c.in-len4-up.len_at_least) in
    rw (← c.in_ok-as_array.ensures) (sym (long_is_no_event c.args.is_second (map view values) long))
