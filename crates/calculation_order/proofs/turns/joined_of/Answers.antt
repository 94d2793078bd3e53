use Rattle.std.proofs.Common.{◌≡◌, ◌∙◌, ◌+◌, ℕ, List, [], drop, get_or, sym, ap, subst, arith}
use Rattle.std.proofs.lemmas.List.{drop_more, drop_all}
use Rattle.calculation_order.specs.Turns.{joined, joined_of, turn_at, turn_of_none}
use Rattle.calculation_order.proofs.Joining.{joined_assoc, none_joined, none_kept}
use Rattle.calculation_order.proofs.turns.joined_of.Goals as goal

pub loop-number-init : goal.loop-number-init
loop-number-init c =
    let most = c.args.most in
    let none = c.turn_of_none-turn.ensures in
    subst (λ (turn : ℕ). record {
      all : joined c.args.waiting turn (joined_of c.args.waiting most
          (turn_at most c.args.turns.now) c.args.numbers.now)
          ≡ joined_of c.args.waiting most (turn_at most c.args.turns.now) c.args.numbers.now;
      kept : joined c.args.waiting turn (turn_of_none c.args.waiting most) ≡ turn;
    }) (sym none) (record {
      all = none_joined c.args.waiting most (turn_at most c.args.turns.now) c.args.numbers.now;
      kept = none_joined c.args.waiting most (turn_at most c.args.turns.now) [];
    })

pub loop-number-preserved : goal.loop-number-preserved
loop-number-preserved c =
    let most = c.args.most in
    let w = c.args.waiting in
    let turn = turn_at most c.args.turns.now in
    let index = c.loop-number.number-index in
    let numbers = c.args.numbers.now in
    let n = get_or numbers index 0 in
    let next : c.joined-turn.result ≡ joined w c.loop-number.turn (turn n) =
    c.joined-turn.ensures ∙ ap (joined w c.loop-number.turn) c.number_or.ensures in
    subst (λ (now : ℕ). record {
      all : joined w now (joined_of w most turn (drop (index + 1) numbers))
          ≡ joined_of w most turn numbers;
      kept : joined w now (turn_of_none w most) ≡ now;
    }) (sym next) (record {
      all = joined_assoc w c.loop-number.turn (turn n)
          (joined_of w most turn (drop (index + 1) numbers))
          ∙ ap (λ (ns : List ℕ). joined w c.loop-number.turn (joined_of w most turn ns))
          (sym (drop_more numbers index 0 c.loop-number-test.true))
          ∙ c.loop-number.invariant.all;
      kept = none_kept w most c.loop-number.turn (turn n) c.loop-number.invariant.kept;
    })

pub returns : goal.returns
returns c =
    let most = c.args.most in
    let turn = turn_at most c.args.turns.now in
    sym c.loop-number.invariant.kept
    ∙ ap (λ (ns : List ℕ). joined c.args.waiting c.loop-number.turn
    (joined_of c.args.waiting most turn ns))
    (sym (drop_all c.loop-number.number-index c.args.numbers.now (omega arith)))
    ∙ c.loop-number.invariant.all
