use Rattle.std.proofs.Common.{rules, arith, ◌≡◌, ◌++◌, ◌^◌, List, ℕ, subst}
use Rattle.std.specs.Prelude.{string_bytes, OnOk}
use Rattle.std.proofs.lemmas.Int.{ints}
use Rattle.shown_text.specs.GivenParts.{part_pieces}
use Rattle.shown_text.proofs.FractionSteps.{parted_size}
use Rattle.shown_text.proofs.fraction_texts.push_parts.Goals as goal

pub returns-clause-ok : goal.returns-clause-ok
returns-clause-ok c =
    let unit : c.pow.result ≡ 10 ^ c.unsigned_abs-places.result = search rules in
    let same = parted_size (part_pieces c.args.parts.now) c.args.size.number c.pow.result
    c.unsigned_abs-places.result c.args.size.power (omega (arith, ints)) (search rules)
    c.if-places-gt30.false unit in
    subst (λ (t : List ℕ). OnOk c.push_parted.result
    (string_bytes c.push_parted.new.out ≡ string_bytes c.args.out.now ++ t)) same
    c.push_parted.ensures.ok
