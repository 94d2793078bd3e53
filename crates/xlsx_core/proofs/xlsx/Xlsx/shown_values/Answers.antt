use Rattle.std.proofs.Common.{rules, ◌≡◌, List, ℕ, Option, subst}
use Rattle.cell_data.specs.Words.{cells_gathered, value_pairs}
use Rattle.xlsx_cells.specs.Words.{styled_entries}
use Rattle.xlsx_open.specs.Words.{shared_said}
use Rattle.xlsx_core.specs.Opened.{path_lent}
use Rattle.xlsx_core.specs.SheetReading.{all_wanted}
use Rattle.xlsx_core.specs.ShownSheet.{ShowsPlaced}
use Rattle.xlsx_core.specs.Worksheets.{path_of, context_of_book}
use Rattle.xlsx_core.proofs.ShownRead.{shows_placed}
use Rattle.xlsx_core.proofs.xlsx.Xlsx.shown_values.Goals as goal

pub returns-clause-shows : goal.returns-clause-shows
returns-clause-shows g c = λ told.
    let old = c.args.self.now in
    let cells = c.in_ok-cells.cells in
    let range = c.in_ok-shown_range.field-0 in
    let parts = old.xml.source.parts in
    let path : path_lent c.path_named-path.result ≡ path_of old c.args.name.now = search rules in
    let shown = shows_placed all_wanted (context_of_book old) (shared_said old.workbook.shared)
    old.workbook.is_1904
    (path_lent c.path_named-path.result) parts (styled_entries (cells_gathered cells)) range
    (rw (c.asked_of-asked.ensures.context, c.asked_of-asked.ensures.wants) at
    (c.in_ok-cells.ensures.reads told))
    c.in_ok-shown_range.ensures in
    subst (λ (own : Option (List ℕ)). ShowsPlaced all_wanted (context_of_book old)
    (shared_said old.workbook.shared) old.workbook.is_1904 own parts (value_pairs range)) path shown
