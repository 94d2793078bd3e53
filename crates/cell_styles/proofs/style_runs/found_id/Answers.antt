use Rattle.std.proofs.Common.{◌≡◌, ◌<◌, true, false, sym, ◌∙◌, inl, inr}
use Rattle.std.proofs.lemmas.Bool.{cases_lt}
use Rattle.cell_styles.proofs.RunSearch.{begun, to_right, to_left, is_found, end_at, middle_of}
use Rattle.cell_styles.proofs.style_runs.found_id.Goals as goal

pub loop-low-init : goal.loop-low-init
loop-low-init g c = begun c.args.runs.now c.args.place c.args.steps.now

pub loop-low-preserved-then-ends_by : goal.loop-low-preserved-then-ends_by
loop-low-preserved-then-ends_by g c =
    to_right _ _ _ _ _ _ _ c.requires.canonical c.loop-low.invariant c.loop-low-test.true
    (c.ends_by.ensures.answer.0 c.if-ends_by.true) c.ends_by.ensures.step

pub loop-low-preserved : goal.loop-low-preserved
loop-low-preserved g c =
    let runs = c.args.runs.now in
    let middle = middle_of c.loop-low.low c.loop-low.high in
    let beyond : c.args.place < end_at runs middle =
    elim (cases_lt c.args.place (end_at runs middle)) [
      | inl below ↦ below
      | inr passed ↦ let yes : true ≡ false = sym (c.ends_by.ensures.answer.1 passed)
          ∙ c.if-ends_by.false in absurd (cc)
    ] in
    to_left _ _ _ _ _ _ _ c.requires.canonical c.loop-low.invariant c.loop-low-test.true beyond
    c.ends_by.ensures.step

pub bounds-runs-low : goal.bounds-runs-low
bounds-runs-low g c =
    (is_found _ _ _ _ _ _ c.requires.canonical c.loop-low.invariant c.loop-low-test.false
    c.requires.there).0

pub returns-clause-id : goal.returns-clause-id
returns-clause-id g c =
    (is_found _ _ _ _ _ _ c.requires.canonical c.loop-low.invariant c.loop-low-test.false
    c.requires.there).1
