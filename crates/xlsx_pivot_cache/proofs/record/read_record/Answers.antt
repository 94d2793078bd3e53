use Rattle.std.proofs.Common.{◌≡◌, ◌∙◌, List, length, Ok, Option, Some, option_map, sym, ap, subst}
use Rattle.std.specs.Prelude.{slice_get}
use Rattle.part_events.specs.Words.{tag_of, Element, is_any, section_ahead}
use Rattle.cell_data.specs.Words.{CellValue, value_of_data}
use Rattle.cell_data.specs.declared.value.Data.{Data}
use Rattle.xlsx_sections.specs.Words.{IsInsideRefused, always, ElementFails}
use Rattle.xlsx_sections.proofs.Failing.{given_back}
use Rattle.xlsx_sections.proofs.StartsSaid.{at_start, own_refused}
use Rattle.xlsx_pivot_cache.specs.CacheFields.{FieldSaid, fields_kept}
use Rattle.xlsx_pivot_cache.specs.CacheRecords.{records_name, row_in, row_kept, value_said}
use Rattle.xlsx_pivot_cache.proofs.RowsRead.{KeepsValues, step_refused, values_further}
use Rattle.xlsx_pivot_cache.proofs.RowsRead.{value_refused, value_unended}
use Rattle.xlsx_pivot_cache.proofs.record.read_record.Goals as goal

pub returns-in_err-_at-clause-err : goal.returns-in_err-_at-clause-err
returns-in_err-_at-clause-err g c =
    let old = c.args.xml.now in
    let new = c.next_child_in.new.xml in
    let refused = IsInsideRefused (row_in (fields_kept c.args.fields.now)) in
    let base = c.depth-base.result in
    let error = c.in_err-_at.field-0.0 in
    given_back _ c.from_residual.result c.from_residual.ensures.1
    (own_refused old (always records_name) refused new.source error c.depth-base.ensures
    (step_refused is_any base old refused new error
    (c.in_err-_at.ensures.refused old (λ (element : Element). Some records_name)
    c.values.invariant.keeps)))

pub returns-in_err-value-clause-err : goal.returns-in_err-value-clause-err
returns-in_err-value-clause-err g c =
    let old = c.args.xml.now in
    let new = c.next_child_in.new.xml in
    let fields = fields_kept c.args.fields.now in
    let base = c.depth-base.result in
    let tag = tag_of c.start_tag.result in
    let error = c.in_err-value.field-0.0 in
    let behind = length (section_ahead base new) in
    let place = c.field_at.ensures ∙ ap (λ (row : List Data). slice_get fields
    (length (row_kept row))) c.deref.ensures.value in
    let found = at_start _ c.start_tag.ensures
    (rw c.in-Some.is at (c.in_ok-_at.ensures.step old c.values.invariant.keeps)) in
    given_back _ c.from_residual-in_err-value.result c.from_residual-in_err-value.ensures.1
    (own_refused old (always records_name) (IsInsideRefused (row_in fields)) new.source error
    c.depth-base.ensures
    (value_refused fields new error c.values.invariant found
    (subst (λ (field : Option FieldSaid). ElementFails (value_said field tag) c.in-Some._at behind
    error) place (c.in_err-value.ensures.err c.in-Some._at behind))))

pub values-preserved : goal.values-preserved
values-preserved g c =
    let old = c.args.xml.now in
    let after = c.skip_element_in.new.xml in
    let fields = fields_kept c.args.fields.now in
    let tag = tag_of c.start_tag.result in
    let own = option_map value_of_data c.in_ok-value.value in
    let place = c.field_at.ensures ∙ ap (λ (row : List Data). slice_get fields
    (length (row_kept row))) c.deref.ensures.value in
    let found = at_start _ c.start_tag.ensures
    (rw c.in-Some.is at (c.in_ok-_at.ensures.step old c.values.invariant.keeps)) in
    subst (λ (kept : List CellValue). KeepsValues fields c.depth-base.result kept old after)
    (sym c.in_ok-push_value.ensures)
    (values_further fields own c.values.invariant found c.in_ok-skip_element_in.ensures.reads
    (subst (λ (field : Option FieldSaid). value_said field tag ≡ Ok own) place
    c.in_ok-value.ensures.ok))

pub returns-in_err-skip_element_in-clause-err : goal.returns-in_err-skip_element_in-clause-err
returns-in_err-skip_element_in-clause-err g c =
    let old = c.args.xml.now in
    let new = c.skip_element_in.new.xml in
    let fields = fields_kept c.args.fields.now in
    let error = c.in_err-skip_element_in.field-0.0 in
    let found = at_start _ c.start_tag.ensures
    (rw c.in-Some.is at (c.in_ok-_at.ensures.step old c.values.invariant.keeps)) in
    given_back _ c.from_residual-in_err-skip_element_in.result
    c.from_residual-in_err-skip_element_in.ensures.1
    (own_refused old (always records_name) (IsInsideRefused (row_in fields)) new.source error
    c.depth-base.ensures
    (value_unended fields new error found c.in_err-skip_element_in.ensures.err))
