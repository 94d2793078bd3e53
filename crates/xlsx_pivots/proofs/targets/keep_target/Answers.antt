use Rattle.std.proofs.Common.{◌≡◌, ℕ, ap, sym, ◌∙◌, option_map, string_bytes}
use Rattle.std.proofs.lemmas.Result.{IfErr-weaker}
use Rattle.part_events.specs.Words.{tag_of}
use Rattle.xlsx_sections.specs.Words.{ElementFails, placed_at}
use Rattle.xlsx_sections.proofs.Failing.{given_back}
use Rattle.xlsx_relationships.specs.Words.{typed_target}
use Rattle.xlsx_pivots.specs.Singles.{single_kept_by, kept_with}
use Rattle.xlsx_pivots.specs.Targets.{counted_target, target_kept}
use Rattle.xlsx_pivots.proofs.PivotsRead.{target_fails}
use Rattle.xlsx_pivots.proofs.targets.keep_target.Goals as goal

pub returns-in_err-target-clause-err : goal.returns-in_err-target-clause-err
returns-in_err-target-clause-err c =
    given_back _ c.from_residual.result c.from_residual.ensures.1
    (λ behind. target_fails c.args.single c.args.at behind
    (option_map string_bytes c.args.kept.now)
    (typed_target c.args.wanted.now (placed_at (tag_of c.args.tag) behind))
    c.in_err-target.field-0.0 (c.in_err-target.ensures.err behind))

pub returns-clause-err : goal.returns-clause-err
returns-clause-err c =
    let kept = option_map string_bytes c.args.kept.now in
    let target = option_map string_bytes c.counted-target.result in
    IfErr-weaker c.keep.result
    (λ error. (at behind : ℕ) → ElementFails (kept_with c.args.single kept target) at behind error)
    (λ error. (behind : ℕ) → ElementFails
    (target_kept c.args.wanted.now c.args.single (placed_at (tag_of c.args.tag) behind) kept)
    c.args.at behind error)
    (λ error fails behind.
    let same : target_kept c.args.wanted.now c.args.single
    (placed_at (tag_of c.args.tag) behind) kept ≡ kept_with c.args.single kept target
    = ap (λ own. single_kept_by c.args.single kept (counted_target kept own))
    (c.in_ok-target.ensures.ok behind)
    ∙ ap (kept_with c.args.single kept) (sym c.counted-target.ensures) in
    rw same (fails c.args.at behind)) c.keep.ensures.err
