use Rattle.std.proofs.Common.{◌≡◌, None, Ok, refl, true, ℕ, inl, inr, subst, codes, length}
use Rattle.std.proofs.lemmas.Result.{err_from_is_err_and}
use Rattle.part_events.specs.Words.{section_ahead, is_closed_ahead}
use Rattle.xlsx_error.specs.declared.error.XlsxError.TheVariants.{RelationshipNotFound}
use Rattle.xlsx_sections.specs.Words.{always, SectionFails}
use Rattle.xlsx_sections.proofs.Failing.{part_refused, required_part_refused}
use Rattle.xlsx_sections.proofs.Refused.{refused_as}
use Rattle.xlsx_relationships.specs.Relationships.{path_in, IsTargetRefused, IsPathRefused}
use Rattle.xlsx_relationships.proofs.relationship_parts.read_path.Goals as goal

pub returns-in_err-path-clause-err : goal.returns-in_err-path-clause-err
unfolding IsPathRefused IsTargetRefused
returns-in_err-path-clause-err g c =
    let name = codes "Relationships" in
    let old = c.args.xml.now.source in
    let mid = c.enter_part.new.xml in
    let new = c.keep_last.new.xml in
    let e = c.in_err-path.field-0.0 in
    let enters = c.in_ok-enter_part.ensures.enters c.if-not-branch.false in
    let here : SectionFails (always name) IsTargetRefused (length mid.names) mid new e =
    subst (λ (n : ℕ). SectionFails (always name) IsTargetRefused n mid new e) c.depth-base.ensures
    c.in_err-path.ensures.err in
    let p = err_from_is_err_and c.from_residual-in_err-path.result
    c.from_residual-in_err-path.ensures.1 in
    rw (p.1, p.2)
    (required_part_refused name c.args.part.now old new.source (always name) IsPathRefused e
    (part_refused (always name) IsPathRefused new e enters
    (refused_as (length mid.names) mid (always name) IsTargetRefused IsPathRefused new e
    (λ refusal refuses. inl refuses) here)))

pub returns-in-None-clause-err : goal.returns-in-None-clause-err
unfolding IsPathRefused
returns-in-None-clause-err g c =
    let name = codes "Relationships" in
    let old = c.args.xml.now.source in
    let mid = c.enter_part.new.xml in
    let new = c.keep_last.new.xml in
    let enters = c.in_ok-enter_part.ensures.enters c.if-not-branch.false in
    let here : SectionFails (always name) IsPathRefused (length mid.names) mid new
    RelationshipNotFound = λ told.
    inr (
      refl,
      subst (λ (n : ℕ). is_closed_ahead n mid
          ≡ true) c.depth-base.ensures ((c.in_ok-path.ensures.reaches told).closed),
      subst (λ (n : ℕ). path_in (section_ahead n mid)
          ≡ Ok None) c.depth-base.ensures (rw c.in-None.is at (c.in_ok-path.ensures.kept told)),
    )
    in
    required_part_refused name c.args.part.now old new.source (always name) IsPathRefused
    RelationshipNotFound
    (part_refused (always name) IsPathRefused new RelationshipNotFound enters here)
