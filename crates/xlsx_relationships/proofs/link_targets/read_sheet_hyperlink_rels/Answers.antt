use Rattle.std.proofs.Common.{◌≡◌, None, List, [], ℕ, codes, ◌∙◌, rules}
use Rattle.part_events.specs.Words.{Event, section_ahead}
use Rattle.xlsx_sections.specs.Words.{IsInsideRefused, changed_in, always, SectionFails}
use Rattle.xlsx_sections.proofs.Failing.{given_back}
use Rattle.xlsx_sections.proofs.StartsKept.{refused_same}
use Rattle.xlsx_relationships.specs.LinkTargets.{link_targets_in, put_later, target_held}
use Rattle.xlsx_relationships.proofs.TargetsKept.{is_relationship, targets_held, targets_refused}
use Rattle.xlsx_relationships.proofs.link_targets.read_sheet_hyperlink_rels.Goals as goal

pub returns-clause-targets : goal.returns-clause-targets
returns-clause-targets g c = λ told.
    let mid = c.enter_part.new.xml in
    let enters = c.in_ok-enter_part.ensures.enters c.if-not-branch.false in
    let none : (id : List ℕ) → target_held c.new-targets.result id ≡ None = λ id. search rules in
    let held = targets_held (section_ahead c.depth-base.result mid) c.new-targets.result
    c.keep_starts.new.keeper.targets none
    (c.in_ok-keep_starts.ensures.kept (enters.parts.is_visible ∙ told)) in
    search rules

pub returns-in_err-keep_starts-clause-err : goal.returns-in_err-keep_starts-clause-err
returns-in_err-keep_starts-clause-err g c =
    let ending = always (codes "Relationships") in
    let mid = c.enter_part.new.xml in
    let new = c.keep_starts.new.xml in
    let base = c.depth-base.result in
    let e = c.in_err-keep_starts.field-0.0 in
    let first = target_held c.new-targets.result [] in
    let none : first ≡ None = search rules in
    let here : SectionFails ending (IsInsideRefused link_targets_in) base mid new e =
    refused_same (λ (events : List Event). changed_in is_relationship (put_later []) first events)
    link_targets_in base mid ending new e
    (λ events refusal is. targets_refused [] first events refusal none is)
    (c.in_err-keep_starts.ensures.err []) in
    given_back _ c.from_residual-in_err-keep_starts.result
    c.from_residual-in_err-keep_starts.ensures.1 (search rules)
