use Rattle.std.proofs.Common.{rules, ◌≡◌, ◌≤◌, ◌<◌, ◌∙◌, ap, set, get_or, length, add-one, sym}
use Rattle.std.proofs.Common.{refl}
use Rattle.std.proofs.Math.ListN.{length-set}
use Rattle.xlsx_graph.specs.Naming.{unvalued}
use Rattle.xlsx_graph.proofs.Opening.{alone_between, alone_start, alone_step, alone_end}
use Rattle.xlsx_graph.proofs.findings.ask_place_behind.Goals as goal

pub loop-n-init : goal.loop-n-init
loop-n-init c = record {
  areas = sym (alone_start c.args.count c.args.areas.now.items);
  size = refl;
}

pub loop-n-preserved : goal.loop-n-preserved
loop-n-preserved c =
    let n = c.loop-n.n in
    let xs = c.args.areas.now.items in
    let d = c.index_mut.result.now in
    let is : d ≡ get_or c.loop-n.areas.items n d = search rules in
    let within : n < length xs = search rules in
    let behind : c.args.count ≤ n = search rules in
    record {
      areas =
          ap (λ y. set c.loop-n.areas.items n (unvalued y)) is
          ∙ ap (λ ys. set ys n (unvalued (get_or ys n d))) c.loop-n.invariant.areas
          ∙ alone_step c.args.count n xs d behind within
          ∙ ap (λ k. alone_between c.args.count k xs) (sym (add-one n));
      size = simp length-set c.loop-n.invariant.size;
    }

pub returns : goal.returns
returns c le =
    let past : length c.args.areas.now.items ≤ c.loop-n.n = search rules in
    c.loop-n.invariant.areas
    ∙ alone_end c.args.count c.loop-n.n c.args.areas.now.items (search rules) past
