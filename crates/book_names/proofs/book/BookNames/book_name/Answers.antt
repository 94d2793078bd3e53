use Rattle.std.proofs.Common.{None, ap, ◌∙◌, arith}
use Rattle.book_names.specs.Book.{Book, name_in_scope}
use Rattle.book_names.proofs.Looking.{scoped_is}
use Rattle.book_names.specs.Told.{name_told}
use Rattle.std.specs.Prelude.{map}
use Rattle.book_names.proofs.book.BookNames.book_name.Goals as goal

pub returns : goal.returns
returns c = λ text is.
    c.number_of.ensures
    ∙ scoped_is (map name_told c.self.inside.defined.items) c.self.inside.defined_numbers.items 0
    c.index.result.now text c.args.name.now c.self.invariant.names_found
    (omega (arith, c.self.invariant.scopes)) c.index.ensures is
    ∙ ap (λ (b : Book). name_in_scope b None text) c.self.view_is
