use Rattle.std.proofs.Common.{◌≡◌, ◌∙◌, List, [], Ok, ap, map, subst, sym}
use Rattle.std.proofs.lemmas.Result.{IfOk-weaker}
use Rattle.std.specs.Prelude.{IfOk, IfErr}
use Rattle.cell_refs.specs.declared.dimensions.Dimensions.{Dimensions}
use Rattle.part_events.specs.Words.{Event, Reading, ahead, content}
use Rattle.xlsx_sections.specs.Words.{ElementReadFails, always}
use Rattle.xlsx_sections.proofs.ElementsRead.{own_inside}
use Rattle.xlsx_sections.proofs.StartsKept.{own_items}
use Rattle.xlsx_areas.specs.MergedCells.{merges_in}
use Rattle.xlsx_areas.proofs.merged_cells.read_merge_cells.Goals as goal

pub returns-then-is_err-clause-err : goal.returns-then-is_err-clause-err
returns-then-is_err-clause-err g c =
    subst (λ (new : Reading). IfErr c.keep_all-read.result
    (ElementReadFails (always []) merges_in c.args.xml.now new))
    (sym c.give_up.ensures) (rw c.depth-base.ensures at c.keep_all-read.ensures.err)

pub returns-else-is_err-clause-merges : goal.returns-else-is_err-clause-merges
returns-else-is_err-clause-merges g c = λ told.
    let kept : IfOk c.keep_all-read.result (λ areas. merges_in (content 0 (ahead c.args.xml.now))
    ≡ Ok (map (λ (area : Dimensions). area) areas.items)) =
    subst (λ (inside : List Event). IfOk c.keep_all-read.result (λ areas. merges_in inside
    ≡ Ok (map (λ (area : Dimensions). area) areas.items))) (own_inside c.args.xml.now)
    (rw c.depth-base.ensures at (c.keep_all-read.ensures.kept told)) in
    IfOk-weaker c.keep_all-read.result (λ areas. merges_in (content 0 (ahead c.args.xml.now))
    ≡ Ok (map (λ (area : Dimensions). area) areas.items))
    (λ areas. merges_in (content 0 (ahead c.args.xml.now)) ≡ Ok areas.items)
    (λ areas is. is ∙ ap (λ (items : List Dimensions). Ok items) (own_items areas.items)) kept
