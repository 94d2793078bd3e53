use Rattle.std.proofs.Common.{◌≡◌, ℕ, rules}
use Rattle.std.specs.Option.{option_copied}
use Rattle.std.proofs.lemmas.Result.{IfErr-weaker}
use Rattle.cell_refs.specs.Words.{area}
use Rattle.part_events.specs.Words.{tag_of}
use Rattle.xlsx_sections.specs.Words.{placed, ElementFails, placed_at, decoded_at}
use Rattle.xlsx_tables.specs.TableParts.{start_said, with_table_name, rows_counted}
use Rattle.xlsx_tables.proofs.table_start.start_said.Goals as goal

pub returns-clause-err : goal.returns-clause-err
returns-clause-err c =
    let at = c.args.at in
    IfErr-weaker c.start_from.result
    (λ error. (behind : ℕ) → ElementFails (with_table_name (decoded_at behind c.text_or.result.now)
    (placed (area c.text_or-2.result.now)) (rows_counted 1 (option_copied c.in_ok-name.headers))
    (rows_counted 0 (option_copied c.in_ok-name.totals))) at behind error)
    (λ error. (behind : ℕ) → ElementFails (start_said (placed_at (tag_of c.args.tag) behind)) at
    behind error)
    (λ error fails behind.
    let same : start_said (placed_at (tag_of c.args.tag) behind)
    ≡ with_table_name (decoded_at behind c.text_or.result.now)
    (placed (area c.text_or-2.result.now))
    (rows_counted 1 (option_copied c.in_ok-name.headers))
    (rows_counted 0 (option_copied c.in_ok-name.totals)) = search rules in
    rw same (fails behind)) c.start_from.ensures.err
