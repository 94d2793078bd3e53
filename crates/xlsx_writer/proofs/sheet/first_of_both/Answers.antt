use Rattle.std.proofs.Common.{subst, ◌≡◌, None, Option, ℕ}
use Rattle.std.specs.Prelude.{MatchOption}
use Rattle.cell_data.specs.Words.{IsEarlier}
use Rattle.sorted_cells.specs.Words.{placed_left, first_position}
use Rattle.xlsx_writer.specs.Writing.{forms_left}
use Rattle.xlsx_writer.proofs.Rows.{first_found}
use Rattle.xlsx_writer.proofs.sheet.first_of_both.Goals as goal

pub returns : goal.returns
returns c =
    first_found (placed_left c.args.values.now) (forms_left c.args.formulas.now) c.earlier.result
    c.requires.values c.requires.formulas
    (subst (λ (one : Option (ℕ × ℕ)). MatchOption c.earlier.result
    ((one ≡ None) × (first_position (forms_left c.args.formulas.now) ≡ None))
    (IsEarlier one (first_position (forms_left c.args.formulas.now)))) c.next_position.ensures
    (subst (λ (other : Option (ℕ × ℕ)). MatchOption c.earlier.result
    ((c.next_position.result ≡ None) × (other ≡ None))
    (IsEarlier c.next_position.result other)) c.next_position-2.ensures c.earlier.ensures))
