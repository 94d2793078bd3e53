use Rattle.std.proofs.Common.{◌∙◌, ℕ, List, [], ◌∷◌, ◌++◌, cond, length, sym, ap}
use Rattle.std.specs.Prelude.{nat_lt}
use Rattle.calculation_order.specs.Turns.{turn_at}
use Rattle.calculation_order.proofs.Chaining.{passed_more}
use Rattle.calculation_order.proofs.dependents.found_numbers.Goals as goal

pub loop-number-preserved : goal.loop-number-preserved
loop-number-preserved c =
    let turns = c.args.turns.now in
    let most = length turns in
    let passes = λ (n : ℕ). nat_lt (turn_at most turns n) most in
    let n = c.loop-number.number in
    c.in_ok-push_found.ensures
    ∙ ap (λ (l : List ℕ). l ++ cond (passes n) (n ∷ []) []) c.loop-number.invariant
    ∙ sym (passed_more passes n)
