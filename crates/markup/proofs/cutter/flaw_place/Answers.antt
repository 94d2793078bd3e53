use Rattle.std.proofs.Common.{ap, sym}
use Rattle.markup.specs.Markup.{flaw_behind}
use Rattle.markup.proofs.cutter.flaw_place.Goals as goal

pub events-init : goal.events-init
events-init c = record {
  cutting = c.new-cutter.ensures.stands c.args.text.now c.utf8.text;
  ahead = ap (flaw_behind c.args.text.now) (sym c.new-cutter.ensures.start);
}
