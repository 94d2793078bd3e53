use Rattle.std.proofs.Common.{◌≡◌}
use Rattle.xlsx_properties.proofs.EventsSaid.{KeepsEvents}
use Rattle.xlsx_properties.proofs.keeping_texts.keep_texts.Given as goal

abbrev pub invariant-events : goal.invariant-events
invariant-events g l =
    let old = l.fn.xml in
    let now = l.xml in
    let k = g.K.KeepsTexts in
    record {
      keeps : KeepsEvents (k.held l.fn.keeper) (k.held l.keeper) (k.following l.fn.keeper)
          (k.following l.keeper) old now;
      beside : (other : k.Other) → k.beside l.keeper other ≡ k.beside l.fn.keeper other;
    }

abbrev pub decreases-events : goal.decreases-events
decreases-events g l = l.xml.source.left
