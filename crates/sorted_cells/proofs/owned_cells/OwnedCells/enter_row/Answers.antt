use Rattle.std.proofs.Common.{rules, ◌≡◌, ◌∷◌, ◌∙◌, ap, sym, ℕ, drop, length, reverse}
use Rattle.std.proofs.lemmas.List.{length-reverse}
use Rattle.sorted_cells.specs.Rows.{row_size}
use Rattle.sorted_cells.proofs.Handing.{entered}
use Rattle.sorted_cells.proofs.owned_cells.OwnedCells.enter_row.Goals as goal

pub invariant_of-self-2 : goal.invariant_of-self-2
invariant_of-self-2 g c =
    let split : drop c.args.self.now.entered c.args.self.now.rows.items
    ≡ c.in-Some.row.now ∷ c.in-Some.behind.now =
    search (rules, c.in-Some.ensures.cases.0) in
    let size : c.row_size-own.result
    ≡ row_size c.in-Some.row.now.first c.in-Some.behind.now
    (length (reverse c.args.self.now.cells.items)) =
    search rules
    ∙ ap (λ (left : ℕ). row_size c.in-Some.row.now.first c.in-Some.behind.now left)
    (sym (length-reverse c.args.self.now.cells.items)) in
    let next =
    entered c.args.self.now.number c.args.self.now.own c.row_size-own.result
    c.args.self.now.entered c.args.self.now.rows.items c.in-Some.row.now c.in-Some.behind.now
    (reverse c.args.self.now.cells.items) c.if-self-gt0.false split c.args.self.now.shared size in
    record { within = next.within; behind = next.behind; shared = next.shared }

pub returns-clause-left : goal.returns-clause-left
returns-clause-left g c =
    let split : drop c.args.self.now.entered c.args.self.now.rows.items
    ≡ c.in-Some.row.now ∷ c.in-Some.behind.now =
    search (rules, c.in-Some.ensures.cases.0) in
    let size : c.row_size-own.result
    ≡ row_size c.in-Some.row.now.first c.in-Some.behind.now
    (length (reverse c.args.self.now.cells.items)) =
    search rules
    ∙ ap (λ (left : ℕ). row_size c.in-Some.row.now.first c.in-Some.behind.now left)
    (sym (length-reverse c.args.self.now.cells.items)) in
    let next =
    entered c.args.self.now.number c.args.self.now.own c.row_size-own.result
    c.args.self.now.entered c.args.self.now.rows.items c.in-Some.row.now c.in-Some.behind.now
    (reverse c.args.self.now.cells.items) c.if-self-gt0.false split c.args.self.now.shared size in
    next.is
