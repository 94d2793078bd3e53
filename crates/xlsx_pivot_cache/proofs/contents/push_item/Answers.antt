use Rattle.std.proofs.Common.{◌≡◌, ◌∙◌, sym, ap}
use Rattle.part_events.specs.Words.{tag_of}
use Rattle.xlsx_sections.proofs.Failing.{given_back}
use Rattle.xlsx_pivot_cache.specs.CacheFields.{item_said, item_if, some_item}
use Rattle.xlsx_pivot_cache.specs.CacheItems.{item_of_start}
use Rattle.xlsx_pivot_cache.proofs.ItemsRead.{value_fails}
use Rattle.xlsx_pivot_cache.proofs.contents.push_item.Goals as goal

pub returns-in_err-item_of-clause-err : goal.returns-in_err-item_of-clause-err
returns-in_err-item_of-clause-err c =
    given_back _ c.from_residual.result c.from_residual.ensures.1
    (λ at behind.
    let tag = tag_of c.args.tag in
    let same : item_said tag ≡ some_item (item_of_start c.in-Some.kind tag) =
    ap (λ kind. item_if kind tag) (sym c.item_kind.ensures ∙ c.in-Some.is) in
    rw same (value_fails at behind (item_of_start c.in-Some.kind tag) c.in_err-item_of.field-0.0
    (c.in_err-item_of.ensures.err at behind)))
