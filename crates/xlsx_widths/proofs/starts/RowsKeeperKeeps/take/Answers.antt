use Rattle.std.proofs.Common.{◌≡◌, [], ◌∷◌, Ok, codes, ap, refl, rules}
use Rattle.std.specs.Option.{option_copied}
use Rattle.attr_text.specs.Words.{lookup}
use Rattle.part_events.specs.Words.{tag_of}
use Rattle.xlsx_sections.specs.Words.{placed_at}
use Rattle.xlsx_sections.proofs.Failing.{given_back}
use Rattle.xlsx_sections.proofs.Refused.{handed_on}
use Rattle.xlsx_widths.specs.Widths.{row_counted, row_counted_by, row_start_kept, row_placed}
use Rattle.xlsx_widths.specs.Widths.{rows_held}
use Rattle.xlsx_widths.proofs.starts.RowsKeeperKeeps.take.Goals as goal

pub returns-in_err-row-clause-err : goal.returns-in_err-row-clause-err
returns-in_err-row-clause-err c =
    let tag = tag_of c.args.tag in
    let rows = rows_held c.args.self.now in
    let number = option_copied c.in_ok-number.number in
    let hidden = option_copied c.in_ok-number.hidden in
    let found : lookup (codes "r" ∷ codes "hidden" ∷ []) tag.attributes
    ≡ Ok (number ∷ hidden ∷ []) = search rules in
    given_back _ c.from_residual-in_err-row.result c.from_residual-in_err-row.ensures.1
    (λ i behind.
    let same : row_start_kept (placed_at tag behind) rows
    ≡ row_counted rows hidden (row_placed rows.next number) = ap (row_counted_by rows) found in
    rw same (handed_on c.args._at behind (row_counted rows hidden) (row_placed rows.next number)
    c.in_err-row.field-0.0 (λ refusal. refl) (c.in_err-row.ensures.err c.args._at behind)))
