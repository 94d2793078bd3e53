use Rattle.std.proofs.Common.{◌≡◌, ℕ, suc, Some, Err, codes, length, ap, ◌∙◌, subst, sym, arith}
use Rattle.std.proofs.Common.{Result}
use Rattle.part_events.specs.Words.{Tag, tag_of, events_of, section_end}
use Rattle.xlsx_sections.specs.Words.{always, section_left, inside_of, SectionFails}
use Rattle.xlsx_sections.specs.Words.{IsInsideRefused, Refusal, placed_at}
use Rattle.xlsx_sections.proofs.Failing.{given_back}
use Rattle.xlsx_sections.proofs.Refused.{event_refused, refused_as}
use Rattle.xlsx_sections.proofs.StartsSaid.{at_start}
use Rattle.xlsx_parts.specs.Words.{element_in, element_with, IsElementRefused}
use Rattle.xlsx_parts.proofs.ElementsFound.{find_element_refused, element_refused, element_events}
use Rattle.xlsx_tables.specs.TableParts.{table_said, start_said, columns_in, and_columns}
use Rattle.xlsx_tables.specs.TableParts.{with_columns, start_kept}
use Rattle.xlsx_tables.proofs.table_part.table_of.Goals as goal

pub returns-in_err-at-clause-err : goal.returns-in_err-at-clause-err
returns-in_err-at-clause-err g c =
    let old = c.args.xml.now in
    let new = c.find_element.new.xml in
    given_back _ c.from_residual.result c.from_residual.ensures.1
    (find_element_refused (codes "table") (codes "Table") table_said old new
    c.in_err-at.field-0.0 c.in_err-at.ensures.err)

pub returns-in_err-begun-clause-err : goal.returns-in_err-begun-clause-err
returns-in_err-begun-clause-err g c =
    let old = c.args.xml.now in
    let mid = c.find_element.new.xml in
    let tag = tag_of c.start_tag.result in
    let s = section_left (length mid.names) mid in
    let at = c.in-Some.at in
    let error = c.in_err-begun.field-0.0 in
    let stands = rw c.in-Some.is at c.in_ok-at.ensures.stands in
    given_back _ c.from_residual-in_err-begun.result c.from_residual-in_err-begun.ensures.1
    (element_refused {tag = tag} {s = s} (codes "table") (codes "Table") table_said old mid.source
    mid.source error c.in_ok-at.ensures.reads.moves.parts
    (λ told. at_start (λ (own : Tag). element_in (codes "table") (events_of old)
    ≡ Some (element_with own s)) c.start_tag.ensures
    (rw c.in-Some.is at (c.in_ok-at.ensures.found told)))
    (event_refused (length mid.names) at (length (inside_of s)) mid (always (codes "Table"))
    (λ (refusal : Refusal). start_said (placed_at tag (length (inside_of s))) ≡ Err refusal)
    (IsElementRefused table_said tag) mid error
    (λ told. omega (arith, stands.3))
    (λ told refusal is. ap (λ (own : Result _ Refusal). and_columns own
    (columns_in (inside_of s))) is)
    (c.in_err-begun.ensures.err (length (inside_of s)))))

pub returns-in_err-columns-clause-err : goal.returns-in_err-columns-clause-err
returns-in_err-columns-clause-err g c =
    let old = c.args.xml.now in
    let mid = c.find_element.new.xml in
    let new = c.columns_in.new.xml in
    let tag = tag_of c.start_tag.result in
    let s = section_left (length mid.names) mid in
    let error = c.in_err-columns.field-0.0 in
    let here : SectionFails (always (codes "Table")) (IsInsideRefused columns_in)
    (length mid.names) mid new error =
    subst (λ (n : ℕ). SectionFails (always (codes "Table")) (IsInsideRefused columns_in) n mid new
    error) c.depth-base.ensures c.in_err-columns.ensures.err in
    given_back _ c.from_residual-in_err-columns.result c.from_residual-in_err-columns.ensures.1
    (element_refused {tag = tag} {s = s} (codes "table") (codes "Table") table_said old mid.source
    new.source error c.in_ok-at.ensures.reads.moves.parts
    (λ told. at_start (λ (own : Tag). element_in (codes "table") (events_of old)
    ≡ Some (element_with own s)) c.start_tag.ensures
    (rw c.in-Some.is at (c.in_ok-at.ensures.found told)))
    (refused_as (length mid.names) mid (always (codes "Table")) (IsInsideRefused columns_in)
    (IsElementRefused table_said tag) new error
    (λ refusal is. ap (λ own. and_columns own (columns_in (inside_of s)))
    (c.in_ok-begun.ensures.ok (length (inside_of s)))
    ∙ ap (with_columns (start_kept c.in_ok-begun.begun)) is) here))

pub returns-clause-ends : goal.returns-clause-ends
returns-clause-ends g c = λ told.
    let old = c.args.xml.now in
    let mid = c.find_element.new.xml in
    let tag = tag_of c.start_tag.result in
    let s = section_left (length mid.names) mid in
    let still = c.in_ok-at.ensures.reads.moves.parts.is_visible ∙ told in
    let new = c.columns_in.new.xml in
    let ends : new.at ≡ suc (section_end (length mid.names) mid) =
    subst (λ (n : ℕ). new.at ≡ suc (section_end n mid)) c.depth-base.ensures
    (c.in_ok-columns.ensures.reaches still).ends in
    let there = at_start (λ (own : Tag). element_in (codes "table") (events_of old)
    ≡ Some (element_with own s)) c.start_tag.ensures
    (rw c.in-Some.is at (c.in_ok-at.ensures.found told)) in
    ends ∙ sym (element_events (codes "table") (events_of old) (element_with tag s) there)
