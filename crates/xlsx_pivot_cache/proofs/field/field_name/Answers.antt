use Rattle.std.proofs.Common.{◌≡◌, length, rules}
use Rattle.std.specs.Option.{option_copied}
use Rattle.part_events.specs.Words.{tag_of}
use Rattle.xlsx_sections.specs.Words.{decoded_at}
use Rattle.xlsx_sections.proofs.Failing.{given_back}
use Rattle.xlsx_pivot_cache.specs.CacheFields.{field_said, field_named}
use Rattle.xlsx_pivot_cache.proofs.ItemsRead.{name_fails}
use Rattle.xlsx_pivot_cache.proofs.field.field_name.Goals as goal

pub returns-in_err-name-2-clause-err : goal.returns-in_err-name-2-clause-err
returns-in_err-name-2-clause-err c =
    given_back _ c.from_residual-in_err-name-2.result c.from_residual-in_err-name-2.ensures.1
    (λ inside.
    let decoded = decoded_at (length inside) c.in-Some.name.now in
    let formula = option_copied c.in_ok-name.formula in
    let same : field_said (tag_of c.args.tag) inside ≡ field_named formula inside decoded =
    search rules in
    rw same (name_fails c.args.at (length inside) formula inside decoded
    c.in_err-name-2.field-0.0 (c.in_err-name-2.ensures.err (length inside))))
