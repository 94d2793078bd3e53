use Rattle.std.proofs.Common.{◌≡◌, ◌∙◌, ap, sym, subst, length, suc, add-one}
use Rattle.book_names.specs.Told.{name_told}
use Rattle.xlsx_graph.specs.Kept.{Gives}
use Rattle.xlsx_graph.proofs.Along.{named_is}
use Rattle.xlsx_graph.proofs.Opening.{length_of_map}
use Rattle.xlsx_graph.proofs.naming.push_named.Goals as goal

pub returns-clause-gives : goal.returns-clause-gives
returns-clause-gives c =
    let count = length c.defined_names.result.now in
    let size : count ≡ length c.args.book.now.names =
    sym (length_of_map name_told c.defined_names.result.now) ∙ ap length c.defined_names.ensures in
    subst (Gives c.push_text.result c.args.out.now c.push_text.new.out)
    (named_is c.args.book.now c.args.cell _ c.args.out.now.opened c.args.formula.now
    (add-one count ∙ ap suc size) c.requires.closed)
    c.push_text.ensures.gives
