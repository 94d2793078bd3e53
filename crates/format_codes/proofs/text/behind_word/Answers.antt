use Rattle.std.proofs.Common.{sym, ap, ◌∙◌}
use Rattle.format_codes.specs.Groups.{begins}
use Rattle.format_codes.proofs.Words.{word_ends}
use Rattle.format_codes.proofs.text.behind_word.Goals as goal

pub behind_ascii-requires-clause-ascii : goal.behind_ascii-requires-clause-ascii
behind_ascii-requires-clause-ascii c =
    (word_ends c.args.word.now c.args.text.now c.requires.ascii c.requires.some
    (sym (c.if-not-begins.ensures
    ∙ ap (λ bytes. begins c.args.word.now bytes) c.as_bytes.ensures.value))).1
