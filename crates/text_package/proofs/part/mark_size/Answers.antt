use Rattle.std.proofs.Common.{sym}
use Rattle.text_package.proofs.Texts.{mark_is}
use Rattle.text_package.proofs.part.mark_size.Goals as goal

pub returns : goal.returns
returns c = mark_is c.args.bytes.now c.in_ok-text.text.now (sym c.in_ok-text.ensures)
