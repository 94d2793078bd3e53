use Rattle.std.proofs.Common.{rules, ◌≡◌, [], ◌++◌, ◌∙◌, ap, string_bytes, sym, Some}
use Rattle.std.proofs.lemmas.List.{append-nil}
use Rattle.cell_refs.specs.Words.{lie_inside}
use Rattle.xlsx_formulas.specs.Words.{text_of_formula}
use Rattle.sorted_cells.specs.Words.{kept_cells, last_key, owned_left}
use Rattle.sorted_cells.proofs.Rising.{kept_rises}
use Rattle.xlsx_core.proofs.StandingRanges.{follows, inside_meant, key_meant}
use Rattle.xlsx_core.proofs.ranges.written_out.Goals as goal

pub push-requires : goal.push-requires
push-requires c =
    let own = kept_cells c.cells.own in
    let front = c.cells.yielded in
    let same : last_key own ≡ last_key front =
    sym (key_meant string_bytes own) ∙ ap last_key c.cells.invariant.texts
    ∙ key_meant text_of_formula front in
    follows own front (c.in-Some.pos, c.in-Some.val) _ _ _ same c.in-Some.ensures.steps
    c.cells.invariant.whole (kept_rises c.args.cells)

pub returns-clause-places : goal.returns-clause-places
returns-clause-places c = λ area.
    let own = kept_cells c.cells.own in
    let none : owned_left c.cells.pos-iterator ≡ [] =
    search (rules, c.in-None.ensures.steps.0) in
    let all : c.cells.yielded ≡ kept_cells c.args.cells =
    sym (append-nil c.cells.yielded)
    ∙ (ap (λ es. c.cells.yielded ++ es) (sym none) ∙ c.cells.invariant.whole) in
    sym (inside_meant string_bytes area own) ∙ ap (lie_inside (Some area)) c.cells.invariant.texts
    ∙ inside_meant text_of_formula area c.cells.yielded
    ∙ ap (lie_inside (Some area)) all
