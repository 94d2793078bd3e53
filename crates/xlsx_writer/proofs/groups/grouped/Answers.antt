use Rattle.std.proofs.Common.{◌∙◌, ap, sym, subst, string_bytes}
use Rattle.std.specs.Prelude.{map}
use Rattle.cell_refs.specs.Words.{is_rising}
use Rattle.cell_data.specs.Words.{AreInOrder}
use Rattle.sorted_cells.specs.Words.{placed_left}
use Rattle.xlsx_writer.specs.Grouping.{member_entry}
use Rattle.xlsx_writer.specs.Groups.{PlacedFormulas}
use Rattle.xlsx_writer.proofs.Heads.{meant_rises, meant_in_order}
use Rattle.xlsx_writer.proofs.groups.grouped.Goals as goal

pub last_rows_of-requires-clause-rising : goal.last_rows_of-requires-clause-rising
last_rows_of-requires-clause-rising c =
    ap (λ (placed : PlacedFormulas). is_rising placed)
    (ap (map member_entry) c.deref.ensures.value ∙ c.in_ok-members.ensures.entries)
    ∙ meant_rises string_bytes (placed_left c.args.formulas) ∙ c.requires.rising

pub forms_of-requires-clause-order : goal.forms_of-requires-clause-order
forms_of-requires-clause-order c =
    subst (λ (placed : PlacedFormulas). AreInOrder placed)
    (sym (ap (map member_entry) c.deref-2.ensures.value ∙ c.in_ok-members.ensures.entries))
    (meant_in_order string_bytes (placed_left c.args.formulas) c.requires)
