use Rattle.std.proofs.Common.{◌≡◌, ◌-◌, ◌<◌, length, slice_get, Some, sym, arith}
use Rattle.std.proofs.lemmas.Option.{slice_get_within}
use Rattle.cell_styles.proofs.RunLists.{last_by_place}
use Rattle.cell_styles.proofs.style_runs.is_last.Goals as goal

pub returns-in-Some : goal.returns-in-Some
returns-in-Some c =
    let runs = c.args.runs.now in
    let found : slice_get runs (length runs - 1) ≡ Some c.in-Some.run'.now =
    sym c.in-Some.ensures.value in
    let within : length runs - 1 < length runs = slice_get_within _ _ _ found in
    sym (last_by_place c.args.id (length runs - 1) runs _ (omega arith) found)
