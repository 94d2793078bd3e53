use Rattle.std.proofs.Common.{◌-◌, ◌∷◌, ℕ, List, arith}
use Rattle.std.proofs.lemmas.Result.{IfErr-weaker}
use Rattle.part_events.specs.Words.{Event, start, tag_of}
use Rattle.xlsx_sections.specs.Words.{ElementFails}
use Rattle.xlsx_pivot_cache.specs.CacheFields.{item_said}
use Rattle.xlsx_pivot_cache.specs.FieldEvents.{items_from_place}
use Rattle.xlsx_pivot_cache.proofs.ItemsRead.{child_fails}
use Rattle.xlsx_pivot_cache.proofs.contents.FieldContents.take_start.Goals as goal

pub returns-in-Within-clause-err : goal.returns-in-Within-clause-err
returns-in-Within-clause-err c =
    let tag = tag_of c.args.tag in
    IfErr-weaker c.push_item.result
    (λ e. (at behind : ℕ) → ElementFails (item_said tag) at behind e)
    (λ e. (at behind : ℕ) (events : List Event)
    → ElementFails (items_from_place c.args.self.now.place (c.args.depth - 1) (start tag ∷ events))
    at behind e)
    (λ e fails at behind events.
    rw c.in-Within.is (child_fails c.in-Within.base (c.args.depth - 1) at behind tag events e
    (omega arith) (fails at behind)))
    c.push_item.ensures.err
