use Rattle.std.proofs.Common.{ap, ◌∙◌}
use Rattle.std.specs.Prelude.{map}
use Rattle.std.specs.Str.{bytes_eq}
use Rattle.book_names.specs.Book.{Book, BookTable, lowered, table_numbered}
use Rattle.book_names.specs.Numbers.{first_from}
use Rattle.book_names.specs.Told.{table_told}
use Rattle.book_names.proofs.Looking.{position_from-map}
use Rattle.book_names.proofs.book.BookNames.table.Goals as goal

pub returns : goal.returns
returns c = λ text is.
    let tables = map table_told c.self.inside.shapes.items in
    c.number_of.ensures
    ∙ c.self.invariant.tables_found c.args.name.now
    ∙ ap (first_from 0 (map (λ (t : BookTable). t.called) tables)) is
    ∙ position_from-map (λ (t : BookTable). t.called) (λ n. bytes_eq (lowered n) (lowered text)) 0
    tables
    ∙ ap (λ (b : Book). table_numbered b text) c.self.view_is
