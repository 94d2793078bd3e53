use Rattle.std.proofs.Common.{[], ap, string_bytes}
use Rattle.part_events.specs.Words.{element_at}
use Rattle.part_events.proofs.Texts.{front_further}
use Rattle.xlsx_sections.specs.Words.{IsInsideRefused, inside_of, section_left, in_element}
use Rattle.xlsx_sections.proofs.ElementsSaid.{found_there, elements_further, elements_refused}
use Rattle.xlsx_sections.proofs.Failing.{given_back}
use Rattle.xlsx_sections.proofs.Refused.{refused_as}
use Rattle.xlsx_sections.proofs.StartsSaid.{own_refused, own_step_refused}
use Rattle.xlsx_strings.specs.Strings.{piece_of, string_of, end_in_piece, end_in_piece_element}
use Rattle.xlsx_strings.specs.Strings.{end_in_string}
use Rattle.xlsx_strings.proofs.StringsRead.{onto, onto_refused, pieces_behind, piece_further}
use Rattle.xlsx_strings.proofs.StringsRead.{piece_refused}
use Rattle.xlsx_strings.proofs.string_element.read_string.Goals as goal

pub returns-in_err-_at-clause-err : goal.returns-in_err-_at-clause-err
returns-in_err-_at-clause-err g c =
    let old = c.args.xml.now in
    given_back _ c.from_residual.result c.from_residual.ensures.1
    (own_step_refused old end_in_string (IsInsideRefused string_of)
    c.next_element_in.new.xml.source _ c.depth-base.ensures
    (c.in_err-_at.ensures.refused old end_in_piece_element c.pieces.invariant.text.keeps))

pub pieces-preserved : goal.pieces-preserved
pieces-preserved g c =
    let next = found_there c.in-Some.is c.pieces.invariant.text.keeps c.in_ok-_at.ensures.step in
    let new = c.next_element_in.new.xml in
    let here = element_at c.depth-base.result next.0 new in
    record {
      front = front_further (string_bytes c.args.out.now) (string_bytes c.pieces.out)
          (string_bytes c.read_piece.new.out) c.pieces.invariant.front c.read_piece.ensures.front;
      text = elements_further pieces_behind c.pieces.invariant.text next.2
          c.in_ok-read_piece.ensures.reads
          (λ told rest.
          let text = c.in_ok-read_piece.ensures.text told next.0 next.1 in
          rw text.2 (piece_further here (string_bytes c.pieces.out) text.0 rest
          (ap (in_element here) text.1)));
    }

pub returns-in_err-read_piece-clause-err : goal.returns-in_err-read_piece-clause-err
returns-in_err-read_piece-clause-err g c =
    let old = c.args.xml.now in
    let new = c.next_element_in.new.xml in
    let last = c.read_piece.new.xml in
    let next = found_there c.in-Some.is c.pieces.invariant.text.keeps c.in_ok-_at.ensures.step in
    let base = c.depth-base.result in
    let out = string_bytes c.args.out.now in
    let error = c.in_err-read_piece.field-0.0 in
    given_back _ c.from_residual-in_err-read_piece.result
    c.from_residual-in_err-read_piece.ensures.1
    (own_refused old end_in_string (IsInsideRefused string_of) last.source error
    c.depth-base.ensures
    (refused_as base old end_in_string (IsInsideRefused (λ inside. onto out (string_of inside)))
    (IsInsideRefused string_of) last error
    (λ refusal refuses. onto_refused out (string_of (inside_of (section_left base old))) refusal
    refuses)
    (elements_refused [] end_in_piece (piece_of next.0) pieces_behind last.source error
    c.pieces.invariant.text next.2
    (piece_refused (element_at base next.0 new) (string_bytes c.pieces.out))
    (c.in_err-read_piece.ensures.err next.0 next.1))))

pub returns-in_err-read_piece-clause-front : goal.returns-in_err-read_piece-clause-front
returns-in_err-read_piece-clause-front g c =
    front_further (string_bytes c.args.out.now) (string_bytes c.pieces.out)
    (string_bytes c.read_piece.new.out) c.pieces.invariant.front c.read_piece.ensures.front
