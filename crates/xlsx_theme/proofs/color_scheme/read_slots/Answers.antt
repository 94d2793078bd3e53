use Rattle.std.proofs.Common.{[], None}
use Rattle.xlsx_sections.specs.Words.{end_in_list, IsInsideRefused, named_end}
use Rattle.xlsx_sections.proofs.Failing.{given_back}
use Rattle.xlsx_sections.proofs.ListsRead.{list_refused, list_added}
use Rattle.xlsx_sections.proofs.StartsSaid.{section_stopped}
use Rattle.xlsx_theme.specs.ColorScheme.{is_slot, slot_colors}
use Rattle.xlsx_theme.proofs.SchemeRead.{told_by_number}
use Rattle.xlsx_theme.proofs.color_scheme.read_slots.Goals as goal

pub returns-in_err-_at-clause-err : goal.returns-in_err-_at-clause-err
returns-in_err-_at-clause-err g c =
    let old = c.args.xml.now in
    given_back _ c.from_residual.result c.from_residual.ensures.1
    (section_stopped c.args.base old (named_end None) (IsInsideRefused slot_colors)
    c.next_slot.new.xml.source _
    (c.in_err-_at.ensures.refused old c.slots.invariant.keeps))

pub slots-preserved : goal.slots-preserved
slots-preserved g c =
    rw c.in_ok-push.ensures.items
    (list_added c.in_ok-read_slot.field-0 c.in-Some.is c.slots.invariant c.in_ok-_at.ensures.step
    c.in_ok-read_slot.ensures.reads
    (λ told tag current. c.in_ok-read_slot.ensures.says told))

pub returns-in_err-read_slot-clause-err : goal.returns-in_err-read_slot-clause-err
returns-in_err-read_slot-clause-err g c =
    let old = c.args.xml.now in
    let last = c.read_slot.new.xml in
    let error = c.in_err-read_slot.field-0.0 in
    given_back _ c.from_residual-in_err-read_slot.result c.from_residual-in_err-read_slot.ensures.1
    (told_by_number c.args.base (end_in_list is_slot [] (named_end None))
    (IsInsideRefused slot_colors) old last error c.in_err-read_slot.ensures.kind
    (list_refused [] (λ tag. named_end None) _ last.source error c.in-Some.is c.slots.invariant
    c.in_ok-_at.ensures.step (λ tag current. c.in_err-read_slot.ensures.err)))
