use Rattle.std.proofs.Common.{◌∙◌, ap, sym}
use Rattle.std.proofs.lemmas.List.{append-nil}
use Rattle.cell_refs.specs.Words.{last_of_each}
use Rattle.cell_data.proofs.Placing.{one_placed}
use Rattle.cell_data.proofs.gathered.with_others.Goals as goal

pub loop-cell-init : goal.loop-cell-init
loop-cell-init g c = λ front known. known ∙ ap last_of_each (sym (append-nil front))

pub loop-cell-preserved-in_ok-insert : goal.loop-cell-preserved-in_ok-insert
loop-cell-preserved-in_ok-insert g c = λ front known.
    one_placed front c.loop-cell.yielded c.in-Some.cell _ _ (c.loop-cell.invariant front known)
    c.in_ok-insert.ensures.entries

pub loop-cell-preserved : goal.loop-cell-preserved
loop-cell-preserved g c = λ front known.
    one_placed front c.loop-cell.yielded c.in-Some.cell _ _ (c.loop-cell.invariant front known)
    c.in_ok-insert.ensures.entries
