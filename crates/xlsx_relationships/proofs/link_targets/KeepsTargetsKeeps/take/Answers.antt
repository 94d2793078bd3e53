use Rattle.std.proofs.Common.{ℕ, List, refl}
use Rattle.std.proofs.lemmas.Result.{IfErr-weaker}
use Rattle.part_events.specs.Words.{tag_of}
use Rattle.xlsx_sections.specs.Words.{ElementFails, placed_at}
use Rattle.xlsx_sections.proofs.Refused.{handed_on}
use Rattle.xlsx_relationships.specs.LinkTargets.{link_target_of, later_of, target_held}
use Rattle.xlsx_relationships.proofs.link_targets.KeepsTargetsKeeps.take.Goals as goal

pub returns-clause-err : goal.returns-clause-err
returns-clause-err c =
    let at = c.args.at in
    let start = λ (behind : ℕ). placed_at (tag_of c.args.tag) behind in
    let held = target_held c.args.self.now.targets in
    IfErr-weaker c.keep_link_target.result
    (λ error. (behind : ℕ) → ElementFails (link_target_of (start behind)) at behind error)
    (λ error. (id : List ℕ) (behind : ℕ) →
    ElementFails (later_of id (held id) (link_target_of (start behind))) at behind error)
    (λ error fails id behind. handed_on at behind (later_of id (held id))
    (link_target_of (start behind)) error (λ refusal. refl) (fails behind))
    c.keep_link_target.ensures.err
