use Rattle.std.proofs.Common.{ap, ◌∙◌}
use Rattle.format_codes.specs.Sections.{run_behind}
use Rattle.format_codes.proofs.Boundaries.{run_ends}
use Rattle.format_codes.proofs.cutting.split_run.Goals as goal

pub behind_ascii-requires-clause-ascii : goal.behind_ascii-requires-clause-ascii
behind_ascii-requires-clause-ascii c =
    run_ends c.args.letter c.run_behind-run.result c.args.behind.now c.requires
    (c.run_behind-run.ensures.value
    ∙ ap (λ bytes. run_behind c.args.letter bytes) c.as_bytes.ensures.value)
    c.if-run-eq0.false
