use Rattle.std.proofs.Common.{◌≡◌, ℕ, Err, Option, Result, false, refl, rules}
use Rattle.std.specs.Option.{option_copied}
use Rattle.part_events.specs.Words.{tag_of}
use Rattle.xlsx_sections.specs.Words.{Refusal}
use Rattle.xlsx_sections.proofs.Failing.{given_back}
use Rattle.xlsx_sections.proofs.Refused.{handed_on}
use Rattle.xlsx_styles.specs.Words.{truth_or}
use Rattle.xlsx_widths.specs.Widths.{BandSaid, column_named, columns_between, columns_of}
use Rattle.xlsx_widths.proofs.starts.columns_of.Goals as goal

pub returns-in_err-first-2-clause-err : goal.returns-in_err-first-2-clause-err
returns-in_err-first-2-clause-err c =
    let first = column_named c.in-Some-Some.first.now in
    let whole : Result ℕ Refusal → Result (Option BandSaid) Refusal =
    λ own. columns_between own (column_named c.in-Some-Some.last.now)
    (option_copied c.in_ok-first.width) (truth_or false (option_copied c.in_ok-first.hidden)) in
    let same : columns_of (tag_of c.args.tag) ≡ whole first = search rules in
    given_back _ c.from_residual-in_err-first-2.result c.from_residual-in_err-first-2.ensures.1
    (λ at behind. rw same (handed_on at behind whole first c.in_err-first-2.field-0.0
    (λ refusal. refl) (c.in_err-first-2.ensures.err at behind)))

pub returns-in_err-last-clause-err : goal.returns-in_err-last-clause-err
returns-in_err-last-clause-err c =
    let first = column_named c.in-Some-Some.first.now in
    let last = column_named c.in-Some-Some.last.now in
    let whole : Result ℕ Refusal → Result (Option BandSaid) Refusal =
    λ own. columns_between first own (option_copied c.in_ok-first.width)
    (truth_or false (option_copied c.in_ok-first.hidden)) in
    let same : columns_of (tag_of c.args.tag) ≡ whole last = search rules in
    let before = c.in_ok-first-2.ensures.ok in
    let passes : (refusal : Refusal) → whole (Err refusal) ≡ Err refusal = λ refusal.
    rw before (search rules) in
    given_back _ c.from_residual-in_err-last.result c.from_residual-in_err-last.ensures.1
    (λ at behind. rw same (handed_on at behind whole last c.in_err-last.field-0.0 passes
    (c.in_err-last.ensures.err at behind)))
