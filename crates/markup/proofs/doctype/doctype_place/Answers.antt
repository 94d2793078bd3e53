use Rattle.std.proofs.Common.{◌+◌, drop, get_or, sym, ap, ◌∙◌, arith, rules}
use Rattle.std.proofs.lemmas.List.{take_rest}
use Rattle.markup.specs.Front.{begins_span, passed_over, doctype_place}
use Rattle.markup.proofs.Places.{shifted}
use Rattle.markup.proofs.Doctypes.{doctype_span, doctype_open, doctype_closed, doctype_next}
use Rattle.markup.proofs.Doctypes.{doctype_end}
use Rattle.markup.proofs.doctype.doctype_place.Goals as goal

pub returns-in-None-clause-value : goal.returns-in-None-clause-value
returns-in-None-clause-value c =
    let bytes = c.args.bytes.now in
    let i = c.bytes.at in
    let b = get_or bytes i 0 in
    let rest = sym (take_rest bytes (i + 1)) in
    sym (c.bytes.invariant.found
    ∙ doctype_open bytes i c.bytes.inner c.bytes-test.true
    (ap (begins_span b) rest ∙ sym c.begins_span.ensures ∙ c.if-begins_span.true)
    (ap (passed_over b) rest ∙ sym c.passed_over.ensures.value ∙ c.in-None.is))

pub bytes-preserved-then-begins_span : goal.bytes-preserved-then-begins_span
bytes-preserved-then-begins_span c =
    let bytes = c.args.bytes.now in
    let i = c.bytes.at in
    let b = get_or bytes i 0 in
    let rest = sym (take_rest bytes (i + 1)) in
    record {
      within = search rules;
      few = omega arith;
      found = c.bytes.invariant.found
          ∙ doctype_span bytes i c.bytes.inner c.in-Some.over c.bytes-test.true
          (ap (begins_span b) rest ∙ sym c.begins_span.ensures ∙ c.if-begins_span.true)
          (ap (passed_over b) rest ∙ sym c.passed_over.ensures.value ∙ c.in-Some.is);
    }

pub returns-then-closes-clause-value : goal.returns-then-closes-clause-value
returns-then-closes-clause-value c =
    let bytes = c.args.bytes.now in
    let i = c.bytes.at in
    let b = get_or bytes i 0 in
    sym (c.bytes.invariant.found
    ∙ doctype_closed bytes i c.bytes.inner c.bytes-test.true
    (ap (begins_span b) (sym (take_rest bytes (i + 1))) ∙ sym c.begins_span.ensures
    ∙ c.if-begins_span.false)
    (sym c.closes.ensures ∙ c.if-closes.true))

pub bytes-preserved : goal.bytes-preserved
bytes-preserved c =
    let bytes = c.args.bytes.now in
    let i = c.bytes.at in
    let b = get_or bytes i 0 in
    record {
      within = omega arith;
      few = search rules;
      found = c.bytes.invariant.found
          ∙ doctype_next bytes i c.bytes.inner c.bytes-test.true
          (ap (begins_span b) (sym (take_rest bytes (i + 1))) ∙ sym c.begins_span.ensures
          ∙ c.if-begins_span.false)
          (sym c.closes.ensures ∙ c.if-closes.false)
          ∙ ap (λ inner. shifted (i + 1) (doctype_place (drop (i + 1) bytes) 0 inner))
          (sym c.inner_behind-inner.ensures);
    }

pub returns-clause-value : goal.returns-clause-value
returns-clause-value c =
    sym (c.bytes.invariant.found
    ∙ doctype_end c.args.bytes.now c.bytes.at c.bytes.inner c.bytes-test.false)
