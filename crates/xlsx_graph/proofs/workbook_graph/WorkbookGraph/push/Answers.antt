use Rattle.std.proofs.Common.{◌≡◌, ◌-◌, ◌≤◌, ◌++◌, ◌∷◌, [], List, arith, rules, subst, sym}
use Rattle.cell_refs.specs.Words.{cell_count}
use Rattle.xlsx_graph.specs.Gathered.{AreGathered, Gathers, Stays, gathered_formula, gathered_of}
use Rattle.xlsx_graph.specs.Kept.{Adds, KeepsInFront}
use Rattle.xlsx_graph.specs.Naming.{named_in}
use Rattle.xlsx_graph.specs.declared.workbook_graph.Placed.{Placed}
use Rattle.xlsx_graph.proofs.Extending.{extends_by, on_refusal}
use Rattle.xlsx_graph.proofs.Gathering.{IsPlaced, cells_exact, gathered_more, gathered_one}
use Rattle.xlsx_graph.proofs.Gathering.{gathers_now, stays_now}
use Rattle.xlsx_graph.proofs.workbook_graph.WorkbookGraph.push.Goals as goal

pub invariant_of-self : goal.invariant_of-self
invariant_of-self c =
    gathered_more c.self.inside.findings c.push_named.new.out c.self.inside.placed.items
    c.self.inside.covered c.in_err-push_named.ensures.front c.self.invariant

pub returns-in_err-push_named-clause-stays : goal.returns-in_err-push_named-clause-stays
returns-in_err-push_named-clause-stays c =
    on_refusal c.from_residual.result _
    (stays_now c.self.inside.findings c.push_named.new.out c.self.inside.placed.items
    c.self.inside.covered c.self.inside.covered c.args.self.now c.self.view_is
    c.in_err-push_named.ensures.front c.self.invariant)

pub invariant_of-self-in_err-push : goal.invariant_of-self-in_err-push
invariant_of-self-in_err-push c =
    let same : c.push.new.self.items ≡ c.self.inside.placed.items = search rules in
    let more : KeepsInFront c.self.inside.findings c.push_named.new.out =
    extends_by c.self.inside.findings c.push_named.new.out _ c.in_ok-push_named.ensures.gives in
    subst (λ (ps : List Placed). AreGathered c.push_named.new.out ps c.self.inside.covered)
    (sym same)
    (gathered_more c.self.inside.findings c.push_named.new.out c.self.inside.placed.items
    c.self.inside.covered more c.self.invariant)

pub returns-in_err-push-clause-stays : goal.returns-in_err-push-clause-stays
returns-in_err-push-clause-stays c =
    let same : c.push.new.self.items ≡ c.self.inside.placed.items = search rules in
    let more : KeepsInFront c.self.inside.findings c.push_named.new.out =
    extends_by c.self.inside.findings c.push_named.new.out _ c.in_ok-push_named.ensures.gives in
    on_refusal c.from_residual-in_err-push.result _
    (subst (λ (ps : List Placed).
    Stays c.args.self.now (gathered_of c.push_named.new.out ps c.self.inside.covered))
    (sym same)
    (stays_now c.self.inside.findings c.push_named.new.out c.self.inside.placed.items
    c.self.inside.covered c.self.inside.covered c.args.self.now c.self.view_is more
    c.self.invariant))

pub invariant_of-self-2 : goal.invariant_of-self-2
invariant_of-self-2 c =
    let old = c.self.inside.findings in
    let new = c.push_named.new.out in
    let p : Placed = record {
      cell = c.args.cell;
      covers = c.args.covers;
      areas = (c.counts-areas.result.0, c.counts-areas_end.result.0);
      words = (c.counts-areas.result.1, c.counts-areas_end.result.1);
      read = c.saturating_sub.result;
    } in
    let pushed : c.push.new.self.items ≡ c.self.inside.placed.items ++ p ∷ [] = search rules in
    let more : KeepsInFront old new = extends_by old new _ c.in_ok-push_named.ensures.gives in
    let first = c.counts-areas.ensures in
    let last = c.counts-areas_end.ensures in
    let is : IsPlaced old new p = record { areas = cc; words = cc; read = search rules } in
    subst (λ (ps : List Placed).
    AreGathered new ps (c.self.inside.covered - c.len-cells.result))
    (sym pushed)
    (gathered_one old new c.self.inside.placed.items p c.self.inside.covered
    (c.self.inside.covered - c.len-cells.result) more is (omega arith) c.self.invariant)

pub returns-clause-gives : goal.returns-clause-gives
returns-clause-gives c =
    let old = c.self.inside.findings in
    let new = c.push_named.new.out in
    let p : Placed = record {
      cell = c.args.cell;
      covers = c.args.covers;
      areas = (c.counts-areas.result.0, c.counts-areas_end.result.0);
      words = (c.counts-areas.result.1, c.counts-areas_end.result.1);
      read = c.saturating_sub.result;
    } in
    let pushed : c.push.new.self.items ≡ c.self.inside.placed.items ++ p ∷ [] = search rules in
    let f = named_in c.args.book.now c.args.cell c.args.formula.now in
    let adds : Adds old new f = c.in_ok-push_named.ensures.gives in
    let more : KeepsInFront old new = extends_by old new f adds in
    let first = c.counts-areas.ensures in
    let last = c.counts-areas_end.ensures in
    let is : IsPlaced old new p = record { areas = cc; words = cc; read = search rules } in
    let within : c.len-cells.result ≤ c.self.inside.covered = search rules in
    let count : c.len-cells.result ≡ cell_count c.args.covers =
    cells_exact (cell_count c.args.covers) c.len-cells.result c.self.inside.covered
    c.len-cells.ensures within c.self.invariant.most in
    subst (λ (ps : List Placed).
    Gathers c.args.self.now (gathered_of new ps (c.self.inside.covered - c.len-cells.result))
    (gathered_formula c.args.book.now c.args.cell c.args.covers c.args.formula.now))
    (sym pushed)
    (gathers_now old new c.self.inside.placed.items p c.self.inside.covered c.len-cells.result
    c.args.self.now f c.self.view_is more c.self.invariant adds is within count)
