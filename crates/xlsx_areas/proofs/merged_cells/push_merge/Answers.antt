use Rattle.std.proofs.Common.{[], List, Ok, Option, Result, ap, ◌∙◌, append-nil}
use Rattle.cell_refs.specs.declared.dimensions.Dimensions.{Dimensions}
use Rattle.xlsx_sections.specs.Words.{prepended, and_others_if, Refusal}
use Rattle.xlsx_areas.proofs.merged_cells.push_merge.Goals as goal

pub returns-in_ok-push-in-Some-clause-ok : goal.returns-in_ok-push-in-Some-clause-ok
returns-in_ok-push-in-Some-clause-ok c = λ behind.
    let kept = c.args.areas.now.items in
    rw c.in_ok-push-in-Some.ensures.items
    (ap (λ (own : Result (Option Dimensions) Refusal). prepended kept (and_others_if own (Ok [])))
    (rw c.in-Some.is at (c.in_ok-area.ensures.ok behind)))

pub returns-in-None-clause-ok : goal.returns-in-None-clause-ok
returns-in-None-clause-ok c = λ behind.
    let kept = c.args.areas.now.items in
    ap (λ (own : Result (Option Dimensions) Refusal). prepended kept (and_others_if own (Ok [])))
    (rw c.in-None.is at (c.in_ok-area.ensures.ok behind))
    ∙ ap (λ (all : List Dimensions). let own : Result (List Dimensions) Refusal = Ok all in own)
    (append-nil kept)
