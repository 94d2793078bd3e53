use Rattle.attr_text.proofs.DecodedLemmas.{decoded-nil, decoded-character, decoded-refused}
use Rattle.attr_text.proofs.DecodedLemmas.{decoded-other}
use Rattle.attr_text.proofs.entity.decoded_in_order.Goals as goal

pub returns : goal.returns
returns c = record {
  none = decoded-nil;
  character = decoded-character;
  refused = decoded-refused;
  other = decoded-other;
}
