use Rattle.std.proofs.Common.{rules, ◌≡◌, ◌++◌, sym, ap, string_bytes}
use Rattle.std.specs.Prelude.{OnOk}
use Rattle.std.proofs.lemmas.Result.{on_err_weaker}
use Rattle.decimals.proofs.Printed.{pushed_on}
use Rattle.escaped_text.proofs.Extending.{Extends-trans, Extends-push}
use Rattle.shown_text.specs.NumberTexts.{power_front, power_behind, power_parts}
use Rattle.shown_text.proofs.numbers.push_power_parts.Goals as goal

pub returns-clause-ok : goal.returns-clause-ok
returns-clause-ok c =
    let n = c.args.size.number in
    let power = c.args.size.power in
    let is = c.power_in-power.ensures.value in
    let first : string_bytes c.push_power_front.new.out ≡ string_bytes c.args.out.now
    ++ power_front c.args.front.now n power c.power_in-power.result = search rules in
    let whole : power_parts c.args.front.now c.args.behind.now n power
    ≡ power_front c.args.front.now n power c.power_in-power.result
    ++ power_behind c.args.behind.now c.power_in-power.result =
    ap (λ p. power_front c.args.front.now n power p ++ power_behind c.args.behind.now p) (sym is) in
    let second : OnOk c.push_power_behind.result (string_bytes c.push_power_behind.new.out
    ≡ string_bytes c.push_power_front.new.out
    ++ power_behind c.args.behind.now c.power_in-power.result) = search rules in
    pushed_on c.push_power_behind.result _ _ _ _ _ _ second first whole

pub returns-clause-err : goal.returns-clause-err
returns-clause-err c =
    let first : string_bytes c.push_power_front.new.out ≡ string_bytes c.args.out.now
    ++ power_front c.args.front.now c.args.size.number c.args.size.power c.power_in-power.result =
    search rules in
    on_err_weaker c.push_power_behind.result (Extends-trans _ _ _ (Extends-push _ _ _ first))
    c.push_power_behind.ensures.err
