use Rattle.std.proofs.Common.{string_bytes}
use Rattle.std.specs.Prelude.{codes}
use Rattle.xlsx_graph.proofs.LineTexts.{formula_line, on_pushed}
use Rattle.xlsx_graph.proofs.graph_lines.push_formula.Goals as goal

pub returns-clause-ok : goal.returns-clause-ok
returns-clause-ok c =
    on_pushed c.push_str.result (string_bytes c.push_words.new.out)
    (string_bytes c.push_str.new.self) (codes "\n") c.push_str.ensures.bytes _
    (λ last. λ f at. formula_line c.args.book.now f c.cell.result c.named.result.0.now _
    (string_bytes c.args.out.now) (string_bytes c.push_cell.new.out)
    (string_bytes c.push_areas.new.out) (string_bytes c.push_words.new.out)
    (string_bytes c.push_str.new.self) (c.cell.ensures f at) (c.named.ensures.areas f at)
    (c.named.ensures.words f at) c.in_ok-push_cell.ensures.ok c.in_ok-push_areas.ensures.ok
    c.in_ok-push_words.ensures.ok last)
