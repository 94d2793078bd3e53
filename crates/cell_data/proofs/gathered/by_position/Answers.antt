use Rattle.std.proofs.Common.{rules, ◌≡◌, [], ◌++◌, ◌∙◌, ap, sym}
use Rattle.std.proofs.lemmas.List.{append-nil}
use Rattle.cell_refs.specs.Words.{last_of_each}
use Rattle.cell_data.proofs.Placing.{nothing_last, one_more, one_further}
use Rattle.sorted_cells.specs.Words.{kept_cells, owned_left}
use Rattle.cell_data.proofs.gathered.by_position.Goals as goal

pub loop-pos-init : goal.loop-pos-init
loop-pos-init g c =
    let whole : owned_left c.into_iter-pos-iterator.result ≡ kept_cells c.args.sorted =
    search rules in
    record { map = c.new-map.ensures.empty ∙ sym nothing_last; whole = whole }

pub loop-pos-preserved-in_ok-insert : goal.loop-pos-preserved-in_ok-insert
loop-pos-preserved-in_ok-insert g c = record {
  map = one_more c.loop-pos.yielded c.in-Some.pos c.in-Some.val _ _ c.loop-pos.invariant.map
      c.in_ok-insert.ensures.entries;
  whole = one_further c.loop-pos.yielded (c.in-Some.pos, c.in-Some.val) _ _ _
      c.in-Some.ensures.steps c.loop-pos.invariant.whole;
}

pub loop-pos-preserved : goal.loop-pos-preserved
loop-pos-preserved g c = record {
  map = one_more c.loop-pos.yielded c.in-Some.pos c.in-Some.val _ _ c.loop-pos.invariant.map
      c.in_ok-insert.ensures.entries;
  whole = one_further c.loop-pos.yielded (c.in-Some.pos, c.in-Some.val) _ _ _
      c.in-Some.ensures.steps c.loop-pos.invariant.whole;
}

pub returns : goal.returns
returns g c =
    let none : owned_left c.loop-pos.pos-iterator ≡ [] =
    search (rules, c.in-None.ensures.steps.0) in
    let all : c.loop-pos.yielded ≡ kept_cells c.args.sorted =
    sym (append-nil c.loop-pos.yielded)
    ∙ (ap (λ es. c.loop-pos.yielded ++ es) (sym none) ∙ c.loop-pos.invariant.whole) in
    c.loop-pos.invariant.map ∙ ap last_of_each all
