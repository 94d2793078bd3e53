use Rattle.std.proofs.Common.{◌≡◌, ◌∙◌, sym, ap, Bool, option_map}
use Rattle.std.specs.Prelude.{if◌then◌else◌}
use Rattle.std.specs.Option.{option_copied}
use Rattle.part_events.specs.Words.{tag_of}
use Rattle.xlsx_sections.proofs.Failing.{given_back}
use Rattle.xlsx_pivot_cache.specs.CacheFields.{field_kept, item_said, item_if, some_item}
use Rattle.xlsx_pivot_cache.specs.CacheItems.{item_of_start}
use Rattle.xlsx_pivot_cache.specs.CacheRecords.{referred_item, value_said}
use Rattle.xlsx_pivot_cache.proofs.ItemsRead.{value_fails}
use Rattle.xlsx_pivot_cache.proofs.record.value_said.Goals as goal

pub returns-in_err-referred_item-clause-err : goal.returns-in_err-referred_item-clause-err
returns-in_err-referred_item-clause-err c =
    given_back _ c.from_residual.result c.from_residual.ensures.1
    (λ at behind.
    let tag = tag_of c.args.tag in
    let own = referred_item (option_map field_kept (option_copied c.args.field)) tag in
    let same : value_said (option_map field_kept (option_copied c.args.field)) tag
    ≡ some_item own =
    ap (λ (b : Bool). if b then some_item own else item_said tag)
    (sym c.is_reference.ensures ∙ c.if-is_reference.true) in
    rw same (value_fails at behind own c.in_err-referred_item.field-0.0
    (c.in_err-referred_item.ensures.err at behind)))

pub returns-in_err-item_of-in-Some-clause-err : goal.returns-in_err-item_of-in-Some-clause-err
returns-in_err-item_of-in-Some-clause-err c =
    given_back _ c.from_residual-in_err-item_of-in-Some.result
    c.from_residual-in_err-item_of-in-Some.ensures.1
    (λ at behind.
    let tag = tag_of c.args.tag in
    let own = referred_item (option_map field_kept (option_copied c.args.field)) tag in
    let same : value_said (option_map field_kept (option_copied c.args.field)) tag
    ≡ some_item (item_of_start c.in-Some.kind tag) =
    ap (λ (b : Bool). if b then some_item own else item_said tag)
    (sym c.is_reference.ensures ∙ c.if-is_reference.false)
    ∙ ap (λ kind. item_if kind tag) (sym c.item_kind.ensures ∙ c.in-Some.is) in
    rw same (value_fails at behind (item_of_start c.in-Some.kind tag)
    c.in_err-item_of-in-Some.field-0.0 (c.in_err-item_of-in-Some.ensures.err at behind)))
