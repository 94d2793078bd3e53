use Rattle.std.proofs.Common.{◌≡◌, ◌∙◌, ℕ, ◌+◌, List, [], ◌∷◌, ◌++◌, map, sym, ap, arith}
use Rattle.std.proofs.lemmas.List.FromFn.{map-range_with_len_more}
use Rattle.calculation_order.specs.Edges.{numbers_below}
use Rattle.calculation_order.specs.Turns.{behind_at, turn_behind}
use Rattle.calculation_order.proofs.turns.behind_formulas.Goals as goal

one_more : (f : ℕ → ℕ) (n last : ℕ) (old new : List ℕ) → new ≡ old ++ last ∷ [] → last ≡ f n
    → old ≡ map f (numbers_below n) → new ≡ map f (numbers_below (n + 1))
one_more f n last old new more is before =
    more ∙ (λ i. before i ++ is i ∷ []) ∙ sym (map-range_with_len_more f 0 n n (omega arith))

pub loop-number-preserved : goal.loop-number-preserved
loop-number-preserved c =
    one_more (behind_at c.args.most c.args.turns.now) c.loop-number.number c.turn_behind.result
    c.loop-number.behind.items c.push.new.self.items c.in_ok-push.ensures.items
    (c.turn_behind.ensures ∙ ap (turn_behind c.args.most) c.number_or.ensures)
    c.loop-number.invariant
