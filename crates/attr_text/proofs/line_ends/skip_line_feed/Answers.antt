use Rattle.std.proofs.Common.{None, arith}
use Rattle.std.proofs.lemmas.Str.Pattern.{strip_prefix_char}
use Rattle.attr_text.proofs.LinesLemmas.{without_line_feed-none}
use Rattle.attr_text.proofs.line_ends.skip_line_feed.Goals as goal

pub returns-in-None : goal.returns-in-None
returns-in-None c =
    without_line_feed-none c.args.text.now
    (strip_prefix_char 10 c.args.text.now None c.in-None.ensures.cases (omega arith))
