use Rattle.std.proofs.Common.{◌≡◌, length}
use Rattle.xlsx_graph.proofs.Opening.{alone_between}
use Rattle.xlsx_graph.proofs.findings.ask_place_behind.Given as goal

abbrev pub invariant-loop-n : goal.invariant-loop-n
invariant-loop-n l = record {
  areas : l.areas.items ≡ alone_between l.count l.n l.initial.areas.items;
  size : length l.areas.items ≡ length l.initial.areas.items;
}
