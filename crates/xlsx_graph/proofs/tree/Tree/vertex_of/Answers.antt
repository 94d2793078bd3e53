use Rattle.std.proofs.Common.{◌≡◌, ◌∙◌, ◌-◌, ◌≤◌, ap, arith, get_or, length, rules, sym}
use Rattle.std.specs.Prelude.{unwrap_or, nat_lt}
use Rattle.std.specs.List.{slice_get}
use Rattle.std.proofs.lemmas.Bool.{cond-false, le-ltb}
use Rattle.std.proofs.lemmas.Option.{unwrap_or-slice_get}
use Rattle.xlsx_graph.specs.Tree.{fork_count}
use Rattle.xlsx_graph.proofs.tree.Tree.vertex_of.Goals as goal

pub returns : goal.returns
returns c =
    let order = c.args.self.now.order.items in
    let i = c.args.node - length c.args.self.now.hulls.items in
    let leaf : fork_count order ≤ c.args.node = omega arith in
    let place : i ≡ c.args.node - fork_count order = omega arith in
    let told : c.unwrap_or.result ≡ unwrap_or (slice_get order i) 0 = search rules in
    told ∙ unwrap_or-slice_get order i 0 ∙ ap (λ k. get_or order k 0) place
    ∙ sym (cond-false (nat_lt c.args.node (fork_count order)) _ _
    (le-ltb c.args.node (fork_count order) leaf))
