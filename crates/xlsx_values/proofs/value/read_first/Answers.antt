use Rattle.std.proofs.Common.{◌≡◌, ◌∙◌, ◌∷◌, sym, ap, subst, arith, ℕ, [], Err, length, true, false}
use Rattle.std.proofs.lemmas.Result.{err_from_is_err_and}
use Rattle.part_events.specs.Words.{event_of, section_ahead, is_closed_ahead}
use Rattle.part_events.proofs.Onward.{whole_at_end}
use Rattle.xlsx_sections.specs.Words.{IsInsideRefused, inside_of, section_left, Refusal}
use Rattle.xlsx_sections.proofs.ElementsRead.{own_inside}
use Rattle.xlsx_sections.proofs.Refused.{event_refused}
use Rattle.xlsx_values.specs.ValueContext.{kind_of, context_of}
use Rattle.xlsx_values.specs.Value.{first_event_value, end_in_first}
use Rattle.xlsx_values.proofs.ValuesRead.{first_event}
use Rattle.xlsx_values.proofs.value.read_first.Goals as goal

pub returns-in-Ended-clause-err : goal.returns-in-Ended-clause-err
returns-in-Ended-clause-err g c = λ told.
    let old = c.args.xml.now in
    let ends = rw c.in-Ended.is at (c.in_ok-next_inside.ensures.inside told) in (
      (
        whole_at_end c.in_ok-next_inside.ensures.reads ends.steps.1 told,
        subst (λ (n : ℕ). is_closed_ahead n old ≡ false) c.depth-depth.ensures ends.closed,
      ),
      ap end_in_first
          (subst (λ (n : ℕ). section_ahead n old ≡ []) c.depth-depth.ensures ends.events),
    )

pub returns-in_err-value-clause-err : goal.returns-in_err-value-clause-err
returns-in_err-value-clause-err g c =
    let old = c.args.xml.now in
    let new = c.next_inside.new.self in
    let kind = kind_of c.args.typ.now in
    let answer = first_event_value (context_of c.args.book) c.args.format kind in
    let left = section_ahead c.depth-depth.result new in
    let events : old.source.is_visible ≡ true → inside_of (section_left (length old.names) old)
    ≡ event_of c.event.result ∷ left = λ told.
    first_event {old = old} {new = new} c.depth-depth.ensures c.event.ensures
    (rw c.in-Found.is at (c.in_ok-next_inside.ensures.inside told)) in
    let p = err_from_is_err_and c.from_residual-in_err-value.result
    c.from_residual-in_err-value.ensures.1 in
    rw (p.1, p.2)
    (event_refused (length old.names) old.at (length left) old end_in_first
    (λ (refusal : Refusal). answer (event_of c.event.result ∷ left) ≡ Err refusal)
    (IsInsideRefused answer) new c.in_err-value.field-0.0
    (λ told. omega (arith, ap length (events told)))
    (λ told refusal refuses. ap answer (events told) ∙ refuses)
    (c.in_err-value.ensures.err old.at (length left) left))

pub returns-clause-value : goal.returns-clause-value
returns-clause-value g c = λ told.
    let old = c.args.xml.now in
    let new = c.next_inside.new.self in
    let kind = kind_of c.args.typ.now in
    let answer = first_event_value (context_of c.args.book) c.args.format kind in
    ap answer (sym (own_inside old)
    ∙ first_event {old = old} {new = new} c.depth-depth.ensures c.event.ensures
    (rw c.in-Found.is at (c.in_ok-next_inside.ensures.inside told)))
    ∙ c.in_ok-value.ensures.ok (section_ahead c.depth-depth.result new)
