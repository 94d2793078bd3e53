use Rattle.std.proofs.Common.{◌+◌, None, Some, length, subst, ap, ◌∙◌}
use Rattle.book_names.specs.Book.{Book, name_in_scope}
use Rattle.book_names.specs.Numbers.{FindsAt}
use Rattle.book_names.proofs.Looking.{own_is, own_first, book_second}
use Rattle.book_names.proofs.book.BookNames.name.Goals as goal

pub returns-in-Some : goal.returns-in-Some
returns-in-Some c = λ text is.
    let scopes = c.self.inside.defined_numbers.items in
    let own = own_is c.args.self.now scopes c.args.sheet c.index.result.now text c.args.name.now
    (subst (λ (b : Book). FindsAt scopes 0 b.names) c.self.view_is c.self.invariant.names_found)
    (c.self.invariant.scopes ∙ ap (λ (b : Book). length b.sheets + 1) c.self.view_is)
    c.requires c.index.ensures is in
    own_first (name_in_scope c.args.self.now (Some c.args.sheet) text)
    (name_in_scope c.args.self.now None text) c.in-Some.own (c.in-Some.ensures ∙ own)

pub returns-in-None : goal.returns-in-None
returns-in-None c = λ text is.
    let scopes = c.self.inside.defined_numbers.items in
    let own = own_is c.args.self.now scopes c.args.sheet c.index.result.now text c.args.name.now
    (subst (λ (b : Book). FindsAt scopes 0 b.names) c.self.view_is c.self.invariant.names_found)
    (c.self.invariant.scopes ∙ ap (λ (b : Book). length b.sheets + 1) c.self.view_is)
    c.requires c.index.ensures is in
    book_second (name_in_scope c.args.self.now (Some c.args.sheet) text)
    (name_in_scope c.args.self.now None text) c.book_name.result (c.in-None.ensures ∙ own)
    (c.book_name.ensures text is)
