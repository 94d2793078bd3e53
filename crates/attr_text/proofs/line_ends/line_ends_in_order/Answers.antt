use Rattle.attr_text.proofs.LinesLemmas.{line_ends-nil, line_ends-return_and_feed}
use Rattle.attr_text.proofs.LinesLemmas.{line_ends-lone_return, line_ends-last_return}
use Rattle.attr_text.proofs.LinesLemmas.{line_ends-other}
use Rattle.attr_text.proofs.line_ends.line_ends_in_order.Goals as goal

pub returns : goal.returns
returns c = record {
  none = line_ends-nil;
  return_and_feed = line_ends-return_and_feed;
  lone_return = line_ends-lone_return;
  last_return = line_ends-last_return;
  other = line_ends-other;
}
