use Rattle.std.proofs.Common.{subst, sym}
use Rattle.formula_tokens.specs.Told.{place_told}
use Rattle.xlsx_graph.specs.Naming.{HasSheets}
use Rattle.xlsx_graph.proofs.InBook.{sheets_in}
use Rattle.xlsx_graph.proofs.meaning.word_meaning.Goals as goal

pub word_on-requires : goal.word_on-requires
word_on-requires c =
    subst (HasSheets c.args.book.now) (sym c.in_ok-sheets.ensures)
    (sheets_in c.args.book.now c.args.reader.sheet (place_told c.args.place) c.requires)
