use Rattle.std.proofs.Common.{◌≡◌, rules}
use Rattle.std.proofs.lemmas.Result.{err_from_is_err_and}
use Rattle.part_events.specs.Words.{tag_of}
use Rattle.xlsx_sections.specs.Words.{placed_at}
use Rattle.xlsx_relationships.specs.LinkTargets.{link_target_of, link_text, leading_to}
use Rattle.xlsx_relationships.proofs.TargetsKept.{leading_fails}
use Rattle.xlsx_relationships.proofs.link_targets.link_target_of.Goals as goal

pub returns-in_err-target-in-Some-Some-clause-err
    : goal.returns-in_err-target-in-Some-Some-clause-err
returns-in_err-target-in-Some-Some-clause-err c =
    let p = err_from_is_err_and c.from_residual-in_err-target-in-Some-Some.result
    c.from_residual-in_err-target-in-Some-Some.ensures.1 in
    rw (p.1, p.2) (λ behind.
    let said = link_text behind c.text_or.result.now in
    let same : link_target_of (placed_at (tag_of c.args.tag) behind)
    ≡ leading_to c.in-Some-Some.id.now said = search rules in
    rw same (leading_fails c.args.at behind c.in-Some-Some.id.now said
    c.in_err-target-in-Some-Some.field-0.0
    (c.in_err-target-in-Some-Some.ensures.err behind)))
