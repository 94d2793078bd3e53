use Rattle.std.proofs.Common.{rules, arith, ◌≡◌, [], ◌++◌, ◌∙◌, ap, sym, Some, map}
use Rattle.std.proofs.lemmas.List.{append-nil}
use Rattle.cell_refs.specs.Words.{lie_inside}
use Rattle.cell_data.specs.Words.{value_of_data, with_meaning}
use Rattle.cell_data.specs.declared.value.Data.TheVariants.{String}
use Rattle.sorted_cells.specs.Words.{kept_cells, last_key, owned_left}
use Rattle.sorted_cells.proofs.Rising.{kept_rises}
use Rattle.xlsx_cells.specs.Words.{styled_meaning, styled_entries}
use Rattle.xlsx_open.specs.Words.{shared_said}
use Rattle.xlsx_core.specs.ShownSheet.{code_at, shown_value}
use Rattle.xlsx_core.proofs.ShownRead.{shown_more, joined}
use Rattle.xlsx_core.proofs.StandingRanges.{follows, inside_meant, key_meant}
use Rattle.xlsx_core.proofs.shown_sheet.shown_texts.Goals as goal

pub push-requires : goal.push-requires
push-requires c =
    let own = kept_cells c.cells.own in
    let front = c.cells.yielded in
    let shown = shown_value (shared_said c.args.shared.now) c.args.is_1904 in
    let same : last_key own ≡ last_key front =
    sym (key_meant value_of_data own) ∙ ap last_key c.cells.invariant.texts
    ∙ key_meant shown (styled_entries front) ∙ key_meant styled_meaning front in
    follows own front (c.in-Some.pos, c.in-Some.val) _ _ _ same c.in-Some.ensures.steps
    c.cells.invariant.whole (kept_rises c.args.cells)

pub returns-clause-places : goal.returns-clause-places
returns-clause-places c = λ area.
    let own = kept_cells c.cells.own in
    let none : owned_left c.cells.pos-iterator ≡ [] =
    search (rules, c.in-None.ensures.steps.0) in
    let all : c.cells.yielded ≡ kept_cells c.args.cells =
    sym (append-nil c.cells.yielded)
    ∙ (ap (λ es. c.cells.yielded ++ es) (sym none) ∙ c.cells.invariant.whole) in
    sym (inside_meant value_of_data area own) ∙ ap (lie_inside (Some area)) c.cells.invariant.texts
    ∙ inside_meant (shown_value (shared_said c.args.shared.now) c.args.is_1904) area
    (styled_entries c.cells.yielded)
    ∙ inside_meant styled_meaning area c.cells.yielded
    ∙ ap (lie_inside (Some area)) all

pub cells-init : goal.cells-init
cells-init c = record {
  count = c.in_ok-cut.ensures.count;
  cut = c.in_ok-cut.ensures.none (code_at (shared_said c.args.shared.now).styles);
  texts = ap (map (with_meaning value_of_data)) c.in_ok-own.ensures;
  whole = search rules;
}

pub cells-preserved : goal.cells-preserved
cells-preserved c =
    let now = c.cells.invariant in
    record {
      count = omega (arith, c.cell_text.ensures.count, now.count);
      cut = c.cell_text.ensures.codes now.cut;
      texts =
          ap (map (with_meaning value_of_data)) c.in_ok-push.ensures.ok
          ∙ shown_more (shared_said c.args.shared.now) c.args.is_1904 (kept_cells c.cells.own)
          c.cells.yielded c.in-Some.pos c.in-Some.val (String c.in_ok-text.text) now.texts
          (c.in_ok-text.ensures.text now.cut);
      whole =
          joined c.cells.yielded (c.in-Some.pos, c.in-Some.val) _
          ∙ ap (λ left. c.cells.yielded ++ left) (sym c.in-Some.ensures.steps) ∙ now.whole;
    }
