use Rattle.std.proofs.Common.{◌≡◌, ◌∷◌, sym, subst}
use Rattle.cell_styles.specs.StyleItems.{PassesBlank}
use Rattle.cell_styles.specs.StyleRuns.{IsCanonical}
use Rattle.cell_styles.proofs.StyledLists.{passes_blank}
use Rattle.cell_styles.proofs.styled_cells.behind_blank.Goals as goal

pub returns-in-Some : goal.returns-in-Some
returns-in-Some c =
    let e : c.args.runs.now ≡ c.in-Some.run'.now ∷ c.in-Some.others.now =
    c.in-Some.ensures.cases.0 in
    subst (λ runs. PassesBlank c.args.place runs c.in-Some.run'.now.end c.in-Some.others.now)
    (sym e)
    (passes_blank c.args.place c.in-Some.run'.now c.in-Some.others.now
    (subst (IsCanonical c.args.place) e c.requires) c.if-run-eq0.true)
