use Rattle.std.proofs.Common.{length, refl, rules}
use Rattle.std.proofs.lemmas.Result.{err_from_is_err_and}
use Rattle.xlsx_tool.proofs.InputLemmas.{limits, past_the_limit, reads_on, reads_all, piece_fails}
use Rattle.xlsx_tool.proofs.InputLemmas.{goes_on, ends, piece_keeps}
use Rattle.xlsx_tool.proofs.input.read_input.Goals as goal

pub pieces-init : goal.pieces-init
pieces-init g c = (
  record {
    fits = search rules;
    is_visible = refl;
    faults = refl;
    most = (limits c.new-bytes.result.items).1;
    whole = λ told. search rules;
  },
  search rules,
  search rules,
)

pub returns-in_err-read_piece-clause-err : goal.returns-in_err-read_piece-clause-err
returns-in_err-read_piece-clause-err g c =
    let residual = c.from_residual-in_err-read_piece in
    let handed = err_from_is_err_and residual.result residual.ensures.1 in
    let first = g.S.Source.state c.args.source.now in
    let now = g.S.Source.state c.pieces.source in
    let next = g.S.Source.state c.read_piece.new.source in
    let error = c.in_err-read_piece.field-0.0 in
    let same = c.pieces.invariant.0.faults in
    rw (handed.1, handed.2) (piece_fails first now next error same c.in_err-read_piece.ensures.err)

pub returns-then-not-branch-clause-ok : goal.returns-then-not-branch-clause-ok
returns-then-not-branch-clause-ok g c =
    let room = length c.read_piece.new.piece in
    let read = c.in_ok-read_piece in
    reads_all room _ _ _ _ _ (search rules) c.pieces.invariant.0
    (ends room _ _ _ _ read.field-0 c.if-not-branch.true read.ensures.ok)

pub pieces-preserved : goal.pieces-preserved
pieces-preserved g c =
    let room = length c.read_piece.new.piece in
    let read = c.in_ok-read_piece in
    let piece = c.pieces.piece in (
      reads_on room _ _ _ _ _ (search rules) (search rules) c.pieces.invariant.0
          (goes_on room _ _ _ _ read.field-0 c.if-not-branch.false read.ensures.ok),
      piece_keeps _ piece.items piece.len piece.ok.0 c.pieces.invariant.1,
      search rules,
    )

pub returns-clause-err : goal.returns-clause-err
returns-clause-err g c =
    past_the_limit c.pieces.bytes.items _ _ c.past_limit.result (search rules) (search rules)
    c.pieces.invariant.0
