use Rattle.std.proofs.Common.{◌≡◌, ◌∷◌, sym, subst}
use Rattle.cell_styles.specs.StyleRuns.{IsCanonical, PassesOne}
use Rattle.cell_styles.proofs.RunSteps.{run_ends, run_goes_on}
use Rattle.cell_styles.proofs.style_runs.behind_first.Goals as goal

pub returns-in-Some : goal.returns-in-Some
returns-in-Some c =
    let e : c.args.runs.now ≡ c.in-Some.run'.now ∷ c.in-Some.others.now =
    c.in-Some.ensures.cases.0 in
    subst (λ runs. PassesOne c.args.place runs c.in-Some.others.now) (sym e)
    (run_ends c.args.place c.in-Some.run'.now c.in-Some.others.now
    (subst (IsCanonical c.args.place) e c.requires.canonical) c.if-run-place.true)

pub returns-in_default : goal.returns-in_default
returns-in_default c =
    let e : c.args.runs.now ≡ c.in-Some.run'.now ∷ c.in-Some.others.now =
    c.in-Some.ensures.cases.0 in
    subst (λ runs. PassesOne c.args.place runs runs) (sym e)
    (run_goes_on c.args.place c.in-Some.run'.now c.in-Some.others.now
    (subst (IsCanonical c.args.place) e c.requires.canonical) c.if-run-place.false)
