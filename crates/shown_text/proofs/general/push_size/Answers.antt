use Rattle.std.proofs.Common.{rules, ◌≡◌, ◌++◌, ◌^◌, ◌<◌, ◌+ℤ◌, List, ℕ, Some, pos, subst}
use Rattle.std.specs.Prelude.{string_bytes, OnOk}
use Rattle.excel_dates.specs.Words.{nearest_at}
use Rattle.shown_text.specs.GeneralText.{general_places, first_power}
use Rattle.shown_text.proofs.SizeSteps.{past_limit}
use Rattle.shown_text.proofs.general.push_size.Goals as goal

pub returns-in_default-nearest_at-clause-ok : goal.returns-in_default-nearest_at-clause-ok
returns-in_default-nearest_at-clause-ok c =
    let n = c.args.size.number in
    let power = c.args.size.power in
    let places = c.in-Some.places in
    let is : general_places n power (first_power n power) ≡ Some places = search rules in
    let over : nearest_at n (power +ℤ pos places) < 2 ^ 128 → ⊥ = search rules in
    let same = past_limit n power places (c.if-size-eq0.false) c.in-Some.ensures.few is over in
    subst (λ (t : List ℕ). OnOk c.push_scientific-in_default-nearest_at.result
    (string_bytes c.push_scientific-in_default-nearest_at.new.out
    ≡ string_bytes c.args.out.now ++ t)) same
    c.push_scientific-in_default-nearest_at.ensures.ok
