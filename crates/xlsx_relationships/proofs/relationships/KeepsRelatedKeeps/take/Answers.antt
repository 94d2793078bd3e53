use Rattle.std.proofs.Common.{ℕ, List, refl}
use Rattle.std.proofs.lemmas.Result.{IfErr-weaker}
use Rattle.part_events.specs.Words.{tag_of}
use Rattle.xlsx_sections.specs.Words.{or_earlier, ElementFails, placed_at}
use Rattle.xlsx_sections.proofs.Refused.{handed_on}
use Rattle.xlsx_relationships.specs.KeptRelationships.{related_by_id}
use Rattle.xlsx_relationships.specs.Relationships.{related_of}
use Rattle.xlsx_relationships.proofs.relationships.KeepsRelatedKeeps.take.Goals as goal

pub returns-clause-err : goal.returns-clause-err
returns-clause-err c =
    let start = λ (behind : ℕ). placed_at (tag_of c.args.tag) behind in
    let kept = related_by_id c.args.self.now.map in
    IfErr-weaker c.keep_relationship.result
    (λ error. (id : List ℕ) (at behind : ℕ) →
    ElementFails (related_of id (start behind)) at behind error)
    (λ error. (id : List ℕ) (behind : ℕ) →
    ElementFails (or_earlier (kept id) (related_of id (start behind))) c.args._at behind error)
    (λ error fails id behind. handed_on c.args._at behind (or_earlier (kept id))
    (related_of id (start behind)) error (λ refusal. refl) (fails id c.args._at behind))
    c.keep_relationship.ensures.err
