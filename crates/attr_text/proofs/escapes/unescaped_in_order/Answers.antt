use Rattle.attr_text.proofs.EscapesLemmas.{unescaped-nil, unescaped-seven, unescaped-byte}
use Rattle.attr_text.proofs.escapes.unescaped_in_order.Goals as goal

pub returns : goal.returns
returns c = record { none = unescaped-nil; escape = unescaped-seven; byte = unescaped-byte }
