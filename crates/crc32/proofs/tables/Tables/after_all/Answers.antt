use Rattle.std.proofs.Common.{◌+◌, ap, ◌∙◌, drop, arith}
use Rattle.crc32.specs.Crc.{after_bytes}
use Rattle.crc32.proofs.Eights.{words_step}
use Rattle.crc32.proofs.tables.Tables.after_all.Goals as goal

pub words-preserved : goal.words-preserved
words-preserved c = record {
  within = omega arith;
  taken =
      ap (λ x. after_bytes x (drop (c.words.place + 8) c.args.bytes.now))
      c.after_word-register.ensures
      ∙ words_step c.words.register c.words.place c.args.bytes.now ∙ c.words.invariant.taken;
}
