use Rattle.std.proofs.Common.{◌≡◌, ℕ, List, [], ◌∷◌, Ok, Result, subst, true, ◌∙◌}
use Rattle.part_events.specs.Words.{Event, events_of, is_closed_ahead, is_named, section_ahead}
use Rattle.xlsx_sections.specs.Words.{IsInsideRefused, Refusal, SectionFails, always, changed_in}
use Rattle.xlsx_sections.proofs.Failing.{given_back}
use Rattle.xlsx_parts.proofs.SaidRead.{said_or_there, section_lacking_refused}
use Rattle.xlsx_widths.proofs.widths.keep_in.Goals as goal

pub returns-in_err-keep_starts-clause-err : goal.returns-in_err-keep_starts-clause-err
returns-in_err-keep_starts-clause-err g c =
    let old = c.args.xml.now in
    let mid = c.find_section.new.xml in
    let new = c.keep_starts.new.xml in
    let name = c.args.section.now in
    let error = c.in_err-keep_starts.field-0.0 in
    let meaning : g.K.Keeps.Index → List Event → Result g.K.Keeps.Held Refusal = λ i.
    changed_in (is_named (c.args.name.now ∷ [])) (g.K.Keeps.change c.args.keeper.now i)
    (g.K.Keeps.held c.args.keeper.now i) in
    given_back _ c.from_residual-in_err-keep_starts.result
    c.from_residual-in_err-keep_starts.ensures.1
    (λ i. section_lacking_refused name old mid (always name) (IsInsideRefused (meaning i))
    new.source error c.in_ok-find_section.ensures.reads.moves.parts
    (λ told. rw c.if-not-branch.false at (c.in_ok-find_section.ensures.found told))
    (subst (λ (n : ℕ). SectionFails (always name) (IsInsideRefused (meaning i)) n mid new error)
    c.depth-base.ensures (c.in_err-keep_starts.ensures.err i)))

pub returns-clause-kept : goal.returns-clause-kept
returns-clause-kept g c = λ told i.
    let old = c.args.xml.now in
    let mid = c.find_section.new.xml in
    let first = g.K.Keeps.held c.args.keeper.now i in
    let last = g.K.Keeps.held c.keep_starts.new.keeper i in
    let meaning : List Event → Result g.K.Keeps.Held Refusal =
    changed_in (is_named (c.args.name.now ∷ [])) (g.K.Keeps.change c.args.keeper.now i) first in
    let still = c.in_ok-find_section.ensures.reads.moves.parts.is_visible ∙ told in
    let there = rw c.if-not-branch.false at (c.in_ok-find_section.ensures.found told) in
    said_or_there first c.args.section.now (events_of old) meaning there
    (subst (λ (n : ℕ). is_closed_ahead n mid ≡ true) c.depth-base.ensures
    (c.in_ok-keep_starts.ensures.reaches still).closed)
    (subst (λ (n : ℕ). meaning (section_ahead n mid) ≡ Ok last) c.depth-base.ensures
    (c.in_ok-keep_starts.ensures.kept still i))
