use Rattle.std.proofs.Common.{◌≡◌, ◌∙◌, [], List, Ok, Option, Result, refl, sym, subst, ap}
use Rattle.cell_refs.specs.declared.dimensions.Dimensions.{Dimensions}
use Rattle.part_events.specs.Words.{Event, tag_of, section_ahead}
use Rattle.xlsx_sections.specs.Words.{prepended, and_others_if, changed_in, put_behind, Refusal}
use Rattle.xlsx_sections.specs.Words.{placed_at}
use Rattle.xlsx_sections.proofs.Failing.{given_back}
use Rattle.xlsx_sections.proofs.Refused.{handed_on}
use Rattle.xlsx_sections.proofs.StartsKept.{put_in, refused_same}
use Rattle.xlsx_sections.proofs.StartsSaid.{at_start, changes_behind, changed_further}
use Rattle.xlsx_sections.proofs.StartsSaid.{changed_refused}
use Rattle.xlsx_parts.specs.Words.{IsMeaningRefused}
use Rattle.xlsx_parts.proofs.SaidRead.{whole_there}
use Rattle.xlsx_parts.proofs.WholeRead.{begins_part, whole_refused, whole_step_refused}
use Rattle.xlsx_areas.specs.MergedCells.{is_merge, merge_of, merges_in}
use Rattle.xlsx_areas.proofs.merged_cells.regions_in.Goals as goal

pub starts-preserved : goal.starts-preserved
starts-preserved g c =
    let old = c.args.xml.now in
    let found = at_start _ c.start_tag.ensures
    (rw c.in-Some.is at (c.in_ok-_at.ensures.step old c.starts.invariant.keeps)) in
    changed_further (put_behind merge_of) c.starts.invariant found c.in_ok-push_merge.ensures.ok

pub returns-in_err-_at-clause-err : goal.returns-in_err-_at-clause-err
returns-in_err-_at-clause-err g c =
    let old = c.args.xml.now in
    let new = c.next_start_of_part.new.xml in
    given_back _ c.from_residual.result c.from_residual.ensures.1
    (whole_step_refused (IsMeaningRefused merges_in) old new c.in_err-_at.field-0.0
    (c.in_err-_at.ensures.refused old c.starts.invariant.keeps))

pub returns-in_err-push_merge-clause-err : goal.returns-in_err-push_merge-clause-err
returns-in_err-push_merge-clause-err g c =
    let old = c.args.xml.now in
    let new = c.next_start_of_part.new.xml in
    let error = c.in_err-push_merge.field-0.0 in
    let kept = c.starts.areas.items in
    let found = at_start _ c.start_tag.ensures
    (rw c.in-Some.is at (c.in_ok-_at.ensures.step old c.starts.invariant.keeps)) in
    given_back _ c.from_residual-in_err-push_merge.result
    c.from_residual-in_err-push_merge.ensures.1
    (whole_refused merges_in old new.source error
    (λ told. begins_part old c.requires.reading c.requires.first told)
    (λ ending. refused_same (changed_in is_merge (put_behind merge_of) []) merges_in 0 old ending
    new error (λ events refusal is. sym (put_in is_merge merge_of [] events refl) ∙ is)
    (changed_refused ending (put_behind merge_of) new.source error c.starts.invariant found
    (λ behind. handed_on c.in-Some._at behind
    (λ (own : Result (Option Dimensions) Refusal). prepended kept (and_others_if own (Ok [])))
    (merge_of (placed_at (tag_of c.start_tag.result) behind)) error (λ refusal. refl)
    (c.in_err-push_merge.ensures.err c.in-Some._at behind)))))

pub returns-clause-ends : goal.returns-clause-ends
returns-clause-ends g c = λ told.
    let old = c.args.xml.now in
    let ends = (rw c.in_default.is at
    (c.in_ok-_at.ensures.step old c.starts.invariant.keeps)) told in
    ends.0.1

pub returns-clause-regions : goal.returns-clause-regions
returns-clause-regions g c = λ told.
    let old = c.args.xml.now in
    let ends = (rw c.in_default.is at
    (c.in_ok-_at.ensures.step old c.starts.invariant.keeps)) told in
    let begins = begins_part old c.requires.reading c.requires.first told in
    let said : merges_in (section_ahead 0 old) ≡ Ok c.starts.areas.items =
    sym (put_in is_merge merge_of [] (section_ahead 0 old) refl)
    ∙ sym (c.starts.invariant.same told)
    ∙ ap (changes_behind (put_behind merge_of) c.starts.areas.items) ends.1 in
    whole_there merges_in ends.0.0
    (subst (λ (events : List Event). merges_in events ≡ Ok c.starts.areas.items) begins.ahead said)
