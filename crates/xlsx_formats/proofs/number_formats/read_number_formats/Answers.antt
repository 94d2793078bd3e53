use Rattle.std.proofs.Common.{◌≡◌, codes, length, Err, arith}
use Rattle.part_events.specs.Words.{tag_of, starts_by, section_ahead}
use Rattle.xlsx_sections.specs.Words.{IsInsideRefused, always, Refusal, placed_at}
use Rattle.xlsx_sections.proofs.Failing.{given_back}
use Rattle.xlsx_sections.proofs.Refused.{event_refused}
use Rattle.xlsx_sections.proofs.StartsRead.{starts_none}
use Rattle.xlsx_sections.proofs.StartsSaid.{at_start, own_refused}
use Rattle.xlsx_formats.specs.FormatCodes.{written_format, formats_written, is_number_format}
use Rattle.xlsx_formats.proofs.CodesRead.{keeps_no_code, codes_further, codes_refused, codes_left}
use Rattle.xlsx_formats.proofs.number_formats.read_number_formats.Goals as goal

pub starts-init : goal.starts-init
starts-init g c =
    let old = c.args.xml.now in
    let base = c.depth-base.result in
    record {
      keeps = starts_none base old c.requires.element.reading (omega (arith, c.depth-base.ensures));
      codes_kept = λ _. keeps_no_code (starts_by is_number_format (section_ahead base old))
          c.args.kept.now;
    }

pub returns-in_err-at-clause-front : goal.returns-in_err-at-clause-front
returns-in_err-at-clause-front g c = λ told.
    let old = c.args.xml.now in
    given_back _ c.from_residual.result c.from_residual.ensures.1
    (codes_left {now = c.starts.kept} old c.depth-base.ensures
    (c.starts.invariant.codes_kept told) (λ earlier are. are))

pub returns-in_err-keep_format-clause-front : goal.returns-in_err-keep_format-clause-front
returns-in_err-keep_format-clause-front g c = λ told.
    let old = c.args.xml.now in
    given_back _ c.from_residual-in_err-keep_format.result
    c.from_residual-in_err-keep_format.ensures.1
    (codes_left {now = c.keep_format.new.kept} old c.depth-base.ensures
    (c.starts.invariant.codes_kept told) c.in_err-keep_format.ensures.unchanged)

pub starts-preserved : goal.starts-preserved
starts-preserved g c =
    let old = c.args.xml.now in
    let found = at_start _ c.start_tag.ensures
    (rw c.in-Some.is at (c.in_ok-at.ensures.step old c.starts.invariant.keeps)) in
    record {
      keeps = found.keeps;
      codes_kept = λ told. codes_further (c.starts.invariant.codes_kept told) (found.starts told)
          (c.in_ok-keep_format.ensures.ok _);
    }

pub returns-in_err-keep_format-clause-err : goal.returns-in_err-keep_format-clause-err
returns-in_err-keep_format-clause-err g c =
    let old = c.args.xml.now in
    let new = c.next_start_in.new.xml in
    let base = c.depth-base.result in
    let found = at_start _ c.start_tag.ensures
    (rw c.in-Some.is at (c.in_ok-at.ensures.step old c.starts.invariant.keeps)) in
    let behind = length (section_ahead base new) in
    let start = placed_at (tag_of c.start_tag.result) behind in
    let error = c.in_err-keep_format.field-0.0 in
    given_back _ c.from_residual-in_err-keep_format.result
    c.from_residual-in_err-keep_format.ensures.1
    (own_refused old (always (codes "numFmts")) (IsInsideRefused formats_written) new.source error
    c.depth-base.ensures
    (event_refused base c.in-Some.at behind old (always (codes "numFmts"))
    (λ (refusal : Refusal). written_format start ≡ Err refusal) (IsInsideRefused formats_written)
    new error found.there
    (λ told refusal refuses. codes_refused (c.starts.invariant.codes_kept told)
    (found.starts told) refuses)
    (c.in_err-keep_format.ensures.err behind)))
