use Rattle.std.proofs.Common.{◌≡◌, [], ap, ◌∙◌, rules}
use Rattle.std.specs.List.{slice_get}
use Rattle.sorted_cells.specs.Words.{kept_cells}
use Rattle.std.proofs.lemmas.Result.{IfOk-weaker}
use Rattle.cell_refs.specs.Words.{is_in_area}
use Rattle.xlsx_precedents.specs.Numbers.{found_by, numbers_where}
use Rattle.xlsx_precedents.specs.Precedents.{direct_dependents}
use Rattle.xlsx_precedents.specs.Spans.{spans_told}
use Rattle.xlsx_precedents.proofs.Finding.{named_are, searched}
use Rattle.xlsx_precedents.proofs.Searching.{search_steps}
use Rattle.xlsx_precedents.proofs.index.DependencyIndex.dependents_counted.Goals as goal

pub returns-clause-value : goal.returns-clause-value
returns-clause-value g c =
    let own = c.self.inside in
    let numbers : c.in_ok-numbers.numbers.items
    ≡ numbers_where (λ area. is_in_area area c.args.pos) 0 own.named.areas.items = search rules in
    IfOk-weaker c.found_by.result
    (λ found. found.items
    ≡ found_by (λ n. slice_get own.named.cells.items n) [] c.in_ok-numbers.numbers.items)
    (λ found. found.items ≡ direct_dependents c.args.self.now c.args.pos)
    (λ found is. is
    ∙ ap (found_by (λ n. slice_get own.named.cells.items n) []) numbers
    ∙ searched (kept_cells own.cells) own.named c.args.pos c.self.invariant.0 c.args.self.now
    c.self.view_is)
    (search rules)

pub returns-in_err-numbers-clause-cost : goal.returns-in_err-numbers-clause-cost
returns-in_err-numbers-clause-cost g c = λ digits below.
    let own = c.self.inside in
    search_steps c.args.self.now c.args.pos own.named.areas.items (spans_told own.spans.items)
    c.args.steps.now c.numbers_at.new.steps digits
    (named_are (kept_cells own.cells) own.named c.args.pos c.self.invariant.0 c.args.self.now
    c.self.view_is) c.self.invariant.1.are (search rules) below

pub returns-clause-cost : goal.returns-clause-cost
returns-clause-cost g c = λ digits below.
    let own = c.self.inside in
    search_steps c.args.self.now c.args.pos own.named.areas.items (spans_told own.spans.items)
    c.args.steps.now c.numbers_at.new.steps digits
    (named_are (kept_cells own.cells) own.named c.args.pos c.self.invariant.0 c.args.self.now
    c.self.view_is) c.self.invariant.1.are (search rules) below
