use Rattle.std.proofs.Common.{◌≡◌, ℕ, List, Option, Result, Err, option_map, string_bytes, rules}
use Rattle.std.specs.Option.{option_copied}
use Rattle.std.proofs.lemmas.Result.{err_from_is_err_and}
use Rattle.cell_refs.specs.Words.{area}
use Rattle.xlsx_sections.specs.Words.{placed, Refusal}
use Rattle.xlsx_areas.specs.Hyperlinks.{Link, optional_text, linked}
use Rattle.xlsx_sections.proofs.Refused.{handed_on}
use Rattle.xlsx_areas.proofs.hyperlinks.linked.Goals as goal

abbrev Said : Type 0
Said = Result (Option (List ℕ)) Refusal

pub returns-in_err-location-clause-err : goal.returns-in_err-location-clause-err
returns-in_err-location-clause-err c =
    let p = err_from_is_err_and c.from_residual-in_err-location.result
    c.from_residual-in_err-location.ensures.1 in
    let to = option_map string_bytes c.args.target in
    let range = placed (area c.args.range.now) in
    rw (p.1, p.2) (λ behind.
    let location = optional_text behind (option_copied c.args.location) in
    let shown = optional_text behind (option_copied c.args.shown) in
    let tip = optional_text behind (option_copied c.args.tip) in
    let whole : Said → Result Link Refusal = λ own. linked to range own shown tip in
    let passes : (refusal : Refusal) → whole (Err refusal) ≡ Err refusal = λ refusal.
    search rules in
    handed_on c.args.at behind whole location c.in_err-location.field-0.0 passes
    (c.in_err-location.ensures.err behind))

pub returns-in_err-displayed_text-clause-err : goal.returns-in_err-displayed_text-clause-err
returns-in_err-displayed_text-clause-err c =
    let p = err_from_is_err_and c.from_residual-in_err-displayed_text.result
    c.from_residual-in_err-displayed_text.ensures.1 in
    let to = option_map string_bytes c.args.target in
    let range = placed (area c.args.range.now) in
    rw (p.1, p.2) (λ behind.
    let location = optional_text behind (option_copied c.args.location) in
    let shown = optional_text behind (option_copied c.args.shown) in
    let tip = optional_text behind (option_copied c.args.tip) in
    let whole : Said → Result Link Refusal = λ own. linked to range location own tip in
    let before = c.in_ok-location.ensures.ok behind in
    let passes : (refusal : Refusal) → whole (Err refusal) ≡ Err refusal = λ refusal.
    rw before (search rules) in
    handed_on c.args.at behind whole shown c.in_err-displayed_text.field-0.0 passes
    (c.in_err-displayed_text.ensures.err behind))

pub returns-in_err-tooltip-clause-err : goal.returns-in_err-tooltip-clause-err
returns-in_err-tooltip-clause-err c =
    let p = err_from_is_err_and c.from_residual-in_err-tooltip.result
    c.from_residual-in_err-tooltip.ensures.1 in
    let to = option_map string_bytes c.args.target in
    let range = placed (area c.args.range.now) in
    rw (p.1, p.2) (λ behind.
    let location = optional_text behind (option_copied c.args.location) in
    let shown = optional_text behind (option_copied c.args.shown) in
    let tip = optional_text behind (option_copied c.args.tip) in
    let whole : Said → Result Link Refusal = λ own. linked to range location shown own in
    let before = c.in_ok-location.ensures.ok behind in
    let between = c.in_ok-displayed_text.ensures.ok behind in
    let passes : (refusal : Refusal) → whole (Err refusal) ≡ Err refusal = λ refusal.
    rw (before, between) (search rules) in
    handed_on c.args.at behind whole tip c.in_err-tooltip.field-0.0 passes
    (c.in_err-tooltip.ensures.err behind))
