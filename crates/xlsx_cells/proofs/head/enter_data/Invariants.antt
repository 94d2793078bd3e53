use Rattle.std.proofs.Common.{◌≡◌, true}
use Rattle.part_events.specs.Words.{ReadsOn, ahead}
use Rattle.xlsx_cells.proofs.HeadRead.{KeepsHead}
use Rattle.xlsx_cells.proofs.head.enter_data.Given as goal

abbrev pub invariant-events : goal.invariant-events
invariant-events g l =
    let old = l.fn.xml in
    let now = l.xml in
    record {
      reads : ReadsOn old now;
      keeps : old.source.is_visible ≡ true → KeepsHead (ahead old) l.head (ahead now);
    }

abbrev pub decreases-events : goal.decreases-events
decreases-events g l = l.xml.source.left
