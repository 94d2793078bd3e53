use Rattle.std.proofs.Common.{rules, ◌≡◌, ◌++◌, ◌∷◌, ◌-◌, List, ℕ, subst, sym, append-nil, arith}
use Rattle.std.proofs.Common.{length, replicate}
use Rattle.std.specs.Prelude.{string_bytes, OnOk}
use Rattle.std.specs.Fmt.{decimal}
use Rattle.std.proofs.lemmas.Grind.{common_steps}
use Rattle.decimals.specs.Words.{without_trailing_zeros}
use Rattle.shown_text.proofs.Zeros.{cut_some, zero_cut}
use Rattle.shown_text.proofs.general.push_places.Goals as goal

pub returns-then-rest-eq0-clause-ok : goal.returns-then-rest-eq0-clause-ok
returns-then-rest-eq0-clause-ok c =
    rw (zero_cut c.args.places c.args.rest c.if-rest-eq0.true)
    (sym (append-nil (string_bytes c.args.out.now)))

pub returns-clause-ok : goal.returns-clause-ok
returns-clause-ok c =
    let cut = cut_some c.args.places c.args.rest (search rules)
    (omega (arith, c.if-rest-eq0.false)) in
    let zeros = replicate (c.args.places - length (decimal c.args.rest)) 48 in
    let known : OnOk c.push_str-2.result (string_bytes c.push_str-2.new.self
    ≡ string_bytes c.args.out.now ++ 46 ∷ (zeros ++ without_trailing_zeros (decimal c.args.rest))) =
    grind (arith, common_steps) in
    subst (λ (t : List ℕ). OnOk c.push_str-2.result
    (string_bytes c.push_str-2.new.self ≡ string_bytes c.args.out.now ++ t)) (sym cut) known
