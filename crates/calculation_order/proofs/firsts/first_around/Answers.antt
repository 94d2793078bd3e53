use Rattle.std.proofs.Common.{◌≡◌, ◌∙◌, ◌-◌, ap, arith, Bool, cond, None, sym, ℕ}
use Rattle.calculation_order.specs.Components.{head_from, rank_of}
use Rattle.std.specs.List.{slice_index_or}
use Rattle.calculation_order.proofs.Certain.{root_at}
use Rattle.calculation_order.proofs.SameNeeds.{leads_within}
use Rattle.calculation_order.proofs.firsts.first_around.Goals as goal

pub returns-then-leads_around : goal.returns-then-leads_around
returns-then-leads_around c =
    let links = c.args.links.now in
    let found = c.args.found.now in
    let all : links.formulas - 0 ≡ links.formulas = omega arith in
    let within = c.requires.grouped.formulas in
    let root = root_at links.links (leads_within links c.requires.grouped) found
    c.requires.certain c.args.vertex (let below = c.requires.below in omega arith) in
    c.head_of.ensures
    ∙ ap (λ (r : ℕ). slice_index_or c.args.heads.now r None) c.rank.ensures
    ∙ c.requires.heads.head (rank_of found c.args.vertex) root
    ∙ ap (λ (n : ℕ). head_from links.links found 0 n (rank_of found c.args.vertex)) all
    ∙ sym (ap (λ (b : Bool). cond b (head_from links.links found 0 links.formulas
    (rank_of found c.args.vertex)) None) (sym c.leads_around.ensures ∙ c.if-leads_around.true))
