use Rattle.std.proofs.Common.{refl}
use Rattle.xlsx_cells.proofs.Flowing.{text_taken, text_unwanted}
use Rattle.xlsx_cells.proofs.sheet_cursor.SheetCursor.next_with_formula.Goals as goal

pub returns-in_default-clause-takes : goal.returns-in_default-clause-takes
returns-in_default-clause-takes g c = λ told before earlier kept.
    rw c.in_default.is at (c.in_ok-read.ensures.takes told before earlier kept)

pub returns-clause-takes : goal.returns-clause-takes
returns-clause-takes g c = λ told before earlier kept.
    text_taken c.in-Some.read _ refl refl refl c.in_ok-formula.ensures c.covered_area-covers.ensures
    (rw c.in-Some.is at (c.in_ok-read.ensures.takes told before earlier kept))

pub returns-clause-unwanted : goal.returns-clause-unwanted
returns-clause-unwanted g c =
    text_unwanted c.next.new.self.masters c.in-Some.read _ refl refl refl c.in_ok-formula.ensures
    c.covered_area-covers.ensures (rw c.in-Some.is at c.in_ok-read.ensures.unwanted)
