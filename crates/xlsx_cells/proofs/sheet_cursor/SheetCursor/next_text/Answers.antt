use Rattle.std.proofs.Common.{ap, sym, ℕ, List}
use Rattle.xlsx_cells.specs.Stream.{seen_with_formula}
use Rattle.xlsx_cells.proofs.Flowing.{text_written}
use Rattle.xlsx_cells.proofs.sheet_cursor.SheetCursor.next_text.Goals as goal

pub returns-in_default-clause-takes : goal.returns-in_default-clause-takes
returns-in_default-clause-takes g c = λ told before earlier kept.
    rw c.in_default.is at (c.in_ok-found.ensures.takes told before earlier kept)

pub returns-clause-takes : goal.returns-clause-takes
returns-clause-takes g c = λ told before earlier kept.
    let found = c.in-Some.found in
    text_written (seen_with_formula found) _
    (ap (λ (text : List ℕ). record {
      pos = found.pos;
      value = found.value;
      text = text;
      covers = found.covers;
      style_id = found.style_id;
    }) (sym c.in_ok-text.ensures))
    (rw c.in-Some.is at (c.in_ok-found.ensures.takes told before earlier kept))
