use Rattle.std.proofs.Common.{◌≡◌, ℕ, suc, Some, None, Err, codes, length, ap, sym, ◌∙◌, Ok, true}
use Rattle.std.proofs.Common.{rules, subst, arith, option_map, string_bytes}
use Rattle.part_events.specs.Words.{section_ahead, section_end, Tag, tag_of, events_of}
use Rattle.xlsx_sections.specs.Words.{changed_by, IsInsideRefused, always, section_left, inside_of}
use Rattle.xlsx_sections.specs.Words.{SectionFails, Refusal, placed_at}
use Rattle.xlsx_sections.proofs.Failing.{given_back}
use Rattle.xlsx_sections.proofs.Refused.{event_refused, refused_as}
use Rattle.xlsx_sections.proofs.StartsSaid.{at_start}
use Rattle.xlsx_parts.specs.Words.{element_in, element_with, IsElementRefused}
use Rattle.xlsx_parts.proofs.ElementsFound.{find_element_refused, element_refused, element_events}
use Rattle.looks.specs.Words.{in_first_element}
use Rattle.xlsx_pivots.specs.PivotParts.{name_kept, name_behind, name_said}
use Rattle.xlsx_pivots.specs.Singles.{TellsLack}
use Rattle.xlsx_pivots.specs.declared.single.Single.TheVariants as single
use Rattle.xlsx_pivots.proofs.PivotsRead.{needing_refused}
use Rattle.xlsx_pivots.proofs.pivot_parts.name_in_part.Goals as goal

pub returns-in_err-at-clause-err : goal.returns-in_err-at-clause-err
returns-in_err-at-clause-err g c =
    let name = codes "pivotTableDefinition" in
    let old = c.args.xml.now in
    let new = c.find_element.new.xml in
    given_back _ c.from_residual.result c.from_residual.ensures.1
    (needing_refused (TellsLack single.Name) (in_first_element name name name_said) (events_of old)
    old.source new.source c.in_err-at.field-0.0
    (find_element_refused name name name_said old new c.in_err-at.field-0.0
    c.in_err-at.ensures.err))

pub returns-in_err-keep_name-clause-err : goal.returns-in_err-keep_name-clause-err
returns-in_err-keep_name-clause-err g c =
    let name = codes "pivotTableDefinition" in
    let old = c.args.xml.now in
    let mid = c.find_element.new.xml in
    let tag = tag_of c.start_tag.result in
    let s = section_left (length mid.names) mid in
    let error = c.in_err-keep_name.field-0.0 in
    let stands = rw c.in-Some.is at c.in_ok-at.ensures.stands in
    given_back _ c.from_residual-in_err-keep_name.result
    c.from_residual-in_err-keep_name.ensures.1
    (needing_refused (TellsLack single.Name) (in_first_element name name name_said) (events_of old)
    old.source mid.source error
    (element_refused {tag = tag} {s = s} name name name_said old mid.source mid.source error
    c.in_ok-at.ensures.reads.moves.parts
    (λ told. at_start (λ (own : Tag). element_in name (events_of old)
    ≡ Some (element_with own s)) c.start_tag.ensures
    (rw c.in-Some.is at (c.in_ok-at.ensures.found told)))
    (event_refused (length mid.names) c.in-Some.at (length (inside_of s)) mid (always name)
    (λ (refusal : Refusal). name_kept (placed_at tag (length (inside_of s))) None ≡ Err refusal)
    (IsElementRefused name_said tag) mid error
    (λ told. omega (arith, stands.3))
    (λ told refusal is. ap (changed_by (λ kept. name_behind kept (inside_of s))) is)
    (c.in_err-keep_name.ensures.err (length (inside_of s))))))

pub returns-in_err-keep_starts-clause-err : goal.returns-in_err-keep_starts-clause-err
returns-in_err-keep_starts-clause-err g c =
    let name = codes "pivotTableDefinition" in
    let old = c.args.xml.now in
    let mid = c.find_element.new.xml in
    let new = c.keep_starts.new.xml in
    let tag = tag_of c.start_tag.result in
    let s = section_left (length mid.names) mid in
    let error = c.in_err-keep_starts.field-0.0 in
    let kept = option_map string_bytes c.keep_name.new.kept in
    let here : SectionFails (always name) (IsInsideRefused (name_behind kept)) (length mid.names)
    mid new error =
    subst (λ (n : ℕ). SectionFails (always name) (IsInsideRefused (name_behind kept)) n mid new
    error) c.depth-base.ensures (c.in_err-keep_starts.ensures.err tt) in
    given_back _ c.from_residual-in_err-keep_starts.result
    c.from_residual-in_err-keep_starts.ensures.1
    (needing_refused (TellsLack single.Name) (in_first_element name name name_said) (events_of old)
    old.source new.source error
    (element_refused {tag = tag} {s = s} name name name_said old mid.source new.source error
    c.in_ok-at.ensures.reads.moves.parts
    (λ told. at_start (λ (own : Tag). element_in name (events_of old)
    ≡ Some (element_with own s)) c.start_tag.ensures
    (rw c.in-Some.is at (c.in_ok-at.ensures.found told)))
    (refused_as (length mid.names) mid (always name) (IsInsideRefused (name_behind kept))
    (IsElementRefused name_said tag) new error
    (λ refusal is. ap (changed_by (λ own. name_behind own (inside_of s)))
    (c.in_ok-keep_name.ensures.ok (length (inside_of s))) ∙ is) here)))

pub returns-in-Some-kept-clause-ends : goal.returns-in-Some-kept-clause-ends
returns-in-Some-kept-clause-ends g c = λ told.
    let name = codes "pivotTableDefinition" in
    let old = c.args.xml.now in
    let mid = c.find_element.new.xml in
    let new = c.keep_starts.new.xml in
    let tag = tag_of c.start_tag.result in
    let s = section_left (length mid.names) mid in
    let still = c.in_ok-at.ensures.reads.moves.parts.is_visible ∙ told in
    let ends : new.at ≡ suc (section_end (length mid.names) mid) =
    subst (λ (n : ℕ). new.at ≡ suc (section_end n mid)) c.depth-base.ensures
    (c.in_ok-keep_starts.ensures.reaches still).ends in
    let there = at_start (λ (own : Tag). element_in name (events_of old)
    ≡ Some (element_with own s)) c.start_tag.ensures
    (rw c.in-Some.is at (c.in_ok-at.ensures.found told)) in
    ends ∙ sym (element_events name (events_of old) (element_with tag s) there)

pub returns-in-Some-kept-clause-name : goal.returns-in-Some-kept-clause-name
returns-in-Some-kept-clause-name g c =
    let mid = c.find_element.new.xml in
    let held : mid.source.is_visible ≡ true
    → name_behind (option_map string_bytes c.keep_name.new.kept)
    (section_ahead c.depth-base.result mid)
    ≡ Ok (option_map string_bytes c.keep_starts.new.keeper.kept) =
    λ told. c.in_ok-keep_starts.ensures.kept told tt in
    search rules

pub returns-in-None-clause-err : goal.returns-in-None-clause-err
returns-in-None-clause-err g c =
    let mid = c.find_element.new.xml in
    let held : mid.source.is_visible ≡ true
    → name_behind (option_map string_bytes c.keep_name.new.kept)
    (section_ahead c.depth-base.result mid)
    ≡ Ok (option_map string_bytes c.keep_starts.new.keeper.kept) =
    λ told. c.in_ok-keep_starts.ensures.kept told tt in
    search rules
