use Rattle.std.proofs.lemmas.Result.{on_ok_weaker}
use Rattle.std.specs.Prelude.{codes}
use Rattle.std.proofs.Common.{◌≡◌, ◌∙◌, ℕ, ◌*◌, ◌++◌, ap}
use Rattle.std.specs.Fmt.{decimal}
use Rattle.written_markup.specs.Words.{attribute, with_events}
use Rattle.xlsx_sample.specs.Sample.{sample_value, formula_element}
use Rattle.written_markup.proofs.Drafted.{element_written, joined_step}
use Rattle.xlsx_sample.proofs.rows.push_doubled.Goals as goal

pub returns : goal.returns
returns c =
    let formula = formula_element c.args.rows c.args.row in
    let value = sample_value (2 * c.args.row) in
    let begun = c.open.new.self in
    let named = c.push_formula.new.builder in
    let filled = c.push_value.new.builder in
    let valued : filled ≡ with_events named value =
    c.in_ok-push_value.ensures
    ∙ ap (λ (number : ℕ). with_events named (sample_value number)) c.doubled.ensures in
    on_ok_weaker c.close.result
    (element_written c.args.builder.now begun filled c.close.new.self (codes "c")
    c.as_str.result.now (attribute (codes "r") (codes "B" ++ decimal c.args.row))
    (formula ++ value) c.in_ok-open.ensures
    (c.as_str.ensures.value ∙ c.in_ok-attributes.ensures.ok)
    (joined_step begun named filled formula value c.in_ok-push_formula.ensures valued))
    c.close.ensures
