use Rattle.std.proofs.Common.{length}
use Rattle.text_package.specs.PartText.{text_in}
use Rattle.text_package.proofs.Stepping.{after_text, after_flaw}
use Rattle.text_package.proofs.reading.Reading.advance.Goals as goal
use Rattle.text_package.proofs.reading.Reading.advance.Goals.{in-Some, in-None}

pub returns-then-more-clause-stands : goal.returns-then-more-clause-stands
returns-then-more-clause-stands c =
    let bytes = c.args.part.now.1 in
    elim c.match-text.branch [
      | in-Some w ↦ after_text (text_in bytes) w.in-Some.text.now (length bytes) c.args.self.now
          c.match-text.self w.advance-more.new.self c.match-text.more w.advance-more.result
          w.in-Some.ensures c.requires w.advance-more.ensures.stays w.advance-more.ensures.takes
          w.advance-more.ensures.has w.more-is c.if-more.true w.self-is
      | in-None w ↦ after_flaw (text_in bytes) (length bytes) w.size.result c.args.self.now
          c.match-text.self c.match-text.more w.in-None.ensures c.requires w.size.ensures w.more-is
          c.if-more.true w.self-is
    ]
