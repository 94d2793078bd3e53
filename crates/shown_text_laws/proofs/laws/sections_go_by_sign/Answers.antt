use Rattle.shown_text_laws.proofs.Choosing.{by_first, by_second, size_alike}
use Rattle.shown_text_laws.proofs.laws.sections_go_by_sign.Goals as goal

pub returns : goal.returns
returns c = record { first = by_first; second = by_second; size = size_alike }
