use Rattle.std.proofs.Common.{◌++◌, map, replicate, length, string_bytes, ap, sym, ◌∙◌, subst}
use Rattle.cell_data.specs.Words.{AreInSheet, cells_of}
use Rattle.sorted_cells.specs.Words.{kept_cells, placed_left}
use Rattle.xlsx_precedents.specs.Precedents.{areas, areas_named_by, formula_of_cell}
use Rattle.xlsx_precedents.proofs.Gathering.{paired_in, comes_next, gathers_next, all_gathered}
use Rattle.xlsx_precedents.proofs.Gathering.{named_rises}
use Rattle.xlsx_precedents.proofs.Standing.{named_stand}
use Rattle.xlsx_precedents.proofs.index.gather.Goals as goal

pub push_formula-requires : goal.push_formula-requires
push_formula-requires c =
    paired_in (kept_cells c.loop-pos.cells) c.loop-pos.named
    (map formula_of_cell (placed_left c.loop-pos.pos-iterator))
    (map areas_named_by (map formula_of_cell (cells_of c.args.formulas.now))) c.loop-pos.invariant

pub push-requires : goal.push-requires
push-requires c =
    comes_next (kept_cells c.loop-pos.cells) c.loop-pos.named
    (c.in-Some.pos, string_bytes c.in-Some.formula.now)
    (map formula_of_cell (placed_left c.loop-pos.pos-iterator))
    (map formula_of_cell (placed_left c.next.new.self))
    (map areas_named_by (map formula_of_cell (cells_of c.args.formulas.now))) c.loop-pos.invariant
    (ap (map formula_of_cell) c.in-Some.ensures.steps)
    (named_rises (cells_of c.args.formulas.now) c.used-pos-items.ensures.rising)

pub loop-pos-preserved : goal.loop-pos-preserved
loop-pos-preserved c =
    gathers_next (kept_cells c.loop-pos.cells) (kept_cells c.push.new.self) c.loop-pos.named
    c.push_formula.new.self (c.in-Some.pos, string_bytes c.in-Some.formula.now)
    (map formula_of_cell (placed_left c.loop-pos.pos-iterator))
    (map formula_of_cell (placed_left c.next.new.self))
    (map areas_named_by (map formula_of_cell (cells_of c.args.formulas.now)))
    c.len-first.result c.len.result c.loop-pos.invariant
    (ap (map formula_of_cell) c.in-Some.ensures.steps)
    (c.in_ok-push_formula.ensures.areas
    ∙ ap (λ t. c.loop-pos.named.areas.items ++ areas t) c.as_str.ensures.value)
    (c.in_ok-push_formula.ensures.cells
    ∙ ap (λ t. c.loop-pos.named.cells.items ++ replicate (length (areas t)) c.in-Some.pos)
    c.as_str.ensures.value)
    (c.in_ok-push_formula.ensures.on_sheet c.loop-pos.invariant.on_sheet)
    c.len-first.ensures c.len.ensures c.in_ok-push.ensures.ok

pub returns-clause-gathered : goal.returns-clause-gathered
returns-clause-gathered c =
    (all_gathered (kept_cells c.loop-pos.cells) c.loop-pos.named
    (map formula_of_cell (placed_left c.loop-pos.pos-iterator))
    (map areas_named_by (map formula_of_cell (cells_of c.args.formulas.now))) c.loop-pos.invariant
    (ap (map formula_of_cell) c.in-None.ensures.steps.0)
    (named_rises (cells_of c.args.formulas.now) c.used-pos-items.ensures.rising)).0

pub returns-clause-entries : goal.returns-clause-entries
returns-clause-entries c =
    (all_gathered (kept_cells c.loop-pos.cells) c.loop-pos.named
    (map formula_of_cell (placed_left c.loop-pos.pos-iterator))
    (map areas_named_by (map formula_of_cell (cells_of c.args.formulas.now))) c.loop-pos.invariant
    (ap (map formula_of_cell) c.in-None.ensures.steps.0)
    (named_rises (cells_of c.args.formulas.now) c.used-pos-items.ensures.rising)).1

pub returns-clause-sheet : goal.returns-clause-sheet
returns-clause-sheet c =
    let entries = (all_gathered (kept_cells c.loop-pos.cells) c.loop-pos.named
    (map formula_of_cell (placed_left c.loop-pos.pos-iterator))
    (map areas_named_by (map formula_of_cell (cells_of c.args.formulas.now))) c.loop-pos.invariant
    (ap (map formula_of_cell) c.in-None.ensures.steps.0)
    (named_rises (cells_of c.args.formulas.now) c.used-pos-items.ensures.rising)).1 in
    subst AreInSheet (sym entries)
    (named_stand (cells_of c.args.formulas.now) c.used-pos-items.ensures.sheet)
