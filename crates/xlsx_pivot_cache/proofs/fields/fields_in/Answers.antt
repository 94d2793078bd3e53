use Rattle.std.proofs.Common.{List, option_map, sym, subst}
use Rattle.part_events.specs.Words.{Tag}
use Rattle.xlsx_sections.proofs.ElementsRead.{IsElementFound}
use Rattle.xlsx_sections.proofs.Failing.{given_back}
use Rattle.xlsx_sections.proofs.SectionsRead.{start_there}
use Rattle.xlsx_parts.proofs.WholeRead.{begins_part}
use Rattle.xlsx_pivot_cache.specs.CacheFields.{FieldSaid, is_field, field_kept}
use Rattle.xlsx_pivot_cache.proofs.FieldsRead.{KeepsFields, fields_further, fields_refused}
use Rattle.xlsx_pivot_cache.proofs.FieldsRead.{fields_stopped, fields_ended}
use Rattle.xlsx_pivot_cache.proofs.fields.fields_in.Goals as goal

pub returns-in_err-at-clause-err : goal.returns-in_err-at-clause-err
returns-in_err-at-clause-err g c =
    let old = c.args.xml.now in
    let new = c.next_element_of_part.new.xml in
    given_back _ c.from_residual.result c.from_residual.ensures.1
    (fields_stopped old new c.in_err-at.field-0.0
    (c.in_err-at.ensures.refused old c.fields.invariant.keeps))

pub returns-in_err-field-clause-err : goal.returns-in_err-field-clause-err
returns-in_err-field-clause-err g c =
    let old = c.args.xml.now in
    let mid = c.fields.xml in
    let new = c.next_element_of_part.new.xml in
    let found = start_there new.source.current
    (λ (tag : Tag). IsElementFound is_field 0 tag c.in-Some.at old mid new)
    (rw c.in-Some.is at (c.in_ok-at.ensures.step old c.fields.invariant.keeps)) in
    given_back _ c.from_residual-in_err-field.result c.from_residual-in_err-field.ensures.1
    (fields_refused c.read_field.new.xml.source c.in_err-field.field-0.0
    (λ told. begins_part old c.requires.reading c.requires.first told) c.fields.invariant found.2
    (c.in_err-field.ensures.err found.0 found.1))

pub fields-preserved : goal.fields-preserved
fields-preserved g c =
    let old = c.args.xml.now in
    let mid = c.fields.xml in
    let new = c.next_element_of_part.new.xml in
    let after = c.read_field.new.xml in
    let found = start_there new.source.current
    (λ (tag : Tag). IsElementFound is_field 0 tag c.in-Some.at old mid new)
    (rw c.in-Some.is at (c.in_ok-at.ensures.step old c.fields.invariant.keeps)) in
    subst (λ (kept : List FieldSaid). KeepsFields kept old after) (sym c.in_ok-push_field.ensures)
    (fields_further (option_map field_kept c.in_ok-field.field) c.fields.invariant found.2
    c.in_ok-field.ensures.reads (λ told. c.in_ok-field.ensures.field told found.0 found.1))

pub returns-clause-ends : goal.returns-clause-ends
returns-clause-ends g c = λ told.
    let old = c.args.xml.now in
    let ends = (rw c.in_default.is at (c.in_ok-at.ensures.step old c.fields.invariant.keeps)) told
    in
    ends.0.1

pub returns-clause-fields : goal.returns-clause-fields
returns-clause-fields g c = λ told.
    let old = c.args.xml.now in
    let new = c.next_element_of_part.new.xml in
    let ends = (rw c.in_default.is at (c.in_ok-at.ensures.step old c.fields.invariant.keeps)) told
    in
    fields_ended new (λ told. begins_part old c.requires.reading c.requires.first told)
    c.fields.invariant told ends.0 ends.1 ends.2
