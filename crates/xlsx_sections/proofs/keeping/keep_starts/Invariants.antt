use Rattle.std.proofs.Common.{◌≡◌, map}
use Rattle.part_events.specs.Words.{is_named}
use Rattle.xlsx_sections.specs.Elements.{KeepsStarts}
use Rattle.xlsx_sections.specs.Keeping.{changed_in}
use Rattle.xlsx_sections.proofs.StartsSaid.{KeepsSaid, changes_behind}
use Rattle.xlsx_sections.proofs.keeping.keep_starts.Given as goal

abbrev pub invariant-starts : goal.invariant-starts
invariant-starts g l =
    let old = l.fn.xml in
    let now = l.xml in
    let wanted = is_named (map (λ name. name.now) l.names) in
    let k = g.K.Keeps in
    let change = k.change l.fn.keeper in
    record {
      keeps : KeepsStarts l.base old now;
      same : k.change l.keeper ≡ change;
      said :
          (i : k.Index) →
          KeepsSaid wanted (changes_behind (change i))
          (changed_in wanted (change i) (k.held l.fn.keeper i)) l.base (k.held l.keeper i) old now;
    }

abbrev pub decreases-starts : goal.decreases-starts
decreases-starts g l = l.xml.source.left
