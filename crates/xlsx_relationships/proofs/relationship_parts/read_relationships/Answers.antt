use Rattle.std.proofs.Common.{◌≡◌, ◌∷◌, [], None, Ok, List, ℕ, codes, subst, sym, ◌∙◌, rules}
use Rattle.part_events.specs.Words.{Event, is_named, section_ahead}
use Rattle.xlsx_sections.specs.Words.{IsInsideRefused, changed_in, or_before, always, SectionFails}
use Rattle.xlsx_sections.specs.Words.{inside_of, section_left}
use Rattle.xlsx_sections.proofs.Failing.{given_back, part_refused, required_part_refused}
use Rattle.xlsx_sections.proofs.Refused.{refused_as}
use Rattle.xlsx_sections.proofs.StartsKept.{or_in, refused_each}
use Rattle.xlsx_relationships.specs.KeptRelationships.{related_by_id}
use Rattle.xlsx_relationships.specs.Relationships.{related_of, related_in, AreRelationshipsRefused}
use Rattle.xlsx_relationships.proofs.relationship_parts.read_relationships.Goals as goal

pub returns-in_err-keep_starts-clause-err : goal.returns-in_err-keep_starts-clause-err
unfolding AreRelationshipsRefused
returns-in_err-keep_starts-clause-err g c =
    let name = codes "Relationships" in
    let ending = always name in
    let wanted = is_named (codes "Relationship" ∷ []) in
    let old = c.args.xml.now.source in
    let mid = c.enter_part.new.xml in
    let new = c.keep_starts.new.xml in
    let part = c.args.part.now in
    let base = c.depth-base.result in
    let enters = c.in_ok-enter_part.ensures.enters c.if-not-branch.false in
    let e = c.in_err-keep_starts.field-0.0 in
    let meaning = λ (id : List ℕ) (events : List Event).
    changed_in wanted (or_before (related_of id)) (related_by_id c.new-map.result id) events in
    let here : SectionFails ending AreRelationshipsRefused base mid new e =
    refused_as base mid ending
    (λ s refusal. (id : List ℕ) → IsInsideRefused (meaning id) s refusal)
    AreRelationshipsRefused new e
    (λ refusal all id.
    let none : related_by_id c.new-map.result id ≡ None = search rules in
    sym (or_in wanted (related_of id) (related_by_id c.new-map.result id)
    (inside_of (section_left base mid)) none) ∙ all id)
    (refused_each ending (λ id. IsInsideRefused (meaning id)) base mid new e []
    c.in_err-keep_starts.ensures.err) in
    given_back _ c.from_residual-in_err-keep_starts.result
    c.from_residual-in_err-keep_starts.ensures.1
    (required_part_refused name part old new.source ending AreRelationshipsRefused e
    (part_refused ending AreRelationshipsRefused new e enters
    (subst (λ (n : ℕ). SectionFails ending AreRelationshipsRefused n mid new e)
    c.depth-base.ensures here)))

pub returns-clause-related : goal.returns-clause-related
returns-clause-related g c = λ told.
    let wanted = is_named (codes "Relationship" ∷ []) in
    let mid = c.enter_part.new.xml in
    let enters = c.in_ok-enter_part.ensures.enters c.if-not-branch.false in
    let inside = section_ahead c.depth-base.result mid in
    let held : (id : List ℕ) → related_in inside id
    ≡ Ok (related_by_id c.keep_starts.new.keeper.map id) = λ id.
    let none : related_by_id c.new-map.result id ≡ None = search rules in
    sym (or_in wanted (related_of id) (related_by_id c.new-map.result id) inside none)
    ∙ c.in_ok-keep_starts.ensures.kept (enters.parts.is_visible ∙ told) id in
    search rules
