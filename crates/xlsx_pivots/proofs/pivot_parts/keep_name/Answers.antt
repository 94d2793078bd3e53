use Rattle.std.proofs.Common.{◌≡◌, ℕ, ap, option_map, string_bytes}
use Rattle.std.proofs.lemmas.Result.{IfErr-weaker}
use Rattle.part_events.specs.Words.{tag_of}
use Rattle.xlsx_sections.specs.Words.{name_by, ElementFails, placed_at}
use Rattle.xlsx_sections.proofs.Failing.{given_back}
use Rattle.xlsx_pivots.specs.PivotParts.{name_kept}
use Rattle.xlsx_pivots.specs.Singles.{single_kept_by, kept_with}
use Rattle.xlsx_pivots.specs.declared.single.Single.TheVariants as single
use Rattle.xlsx_pivots.proofs.PivotsRead.{kept_fails}
use Rattle.xlsx_pivots.proofs.pivot_parts.keep_name.Goals as goal

pub returns-in_err-name-clause-err : goal.returns-in_err-name-clause-err
returns-in_err-name-clause-err c =
    given_back _ c.from_residual.result c.from_residual.ensures.1
    (λ behind. kept_fails single.Name c.args.at behind (option_map string_bytes c.args.kept.now)
    (name_by (placed_at (tag_of c.args.tag) behind)) c.in_err-name.field-0.0
    (c.in_err-name.ensures.err behind))

pub returns-clause-err : goal.returns-clause-err
returns-clause-err c =
    let kept = option_map string_bytes c.args.kept.now in
    let name = option_map string_bytes c.in_ok-name.name in
    IfErr-weaker c.keep.result
    (λ error. (at behind : ℕ) → ElementFails (kept_with single.Name kept name) at behind error)
    (λ error. (behind : ℕ) → ElementFails
    (name_kept (placed_at (tag_of c.args.tag) behind) kept) c.args.at behind error)
    (λ error fails behind.
    let same : name_kept (placed_at (tag_of c.args.tag) behind) kept
    ≡ kept_with single.Name kept name =
    ap (single_kept_by single.Name kept) (c.in_ok-name.ensures.ok behind) in
    rw same (fails c.args.at behind)) c.keep.ensures.err
