use Rattle.std.proofs.Common.{ap, ◌∙◌}
use Rattle.cell_refs.specs.Words.{letters_of, behind_letters}
use Rattle.formula_shift.specs.References.{corner_of, corner_by}
use Rattle.formula_shift.proofs.corner.Corner.parse_bytes.Goals as goal

pub returns-clause-value : goal.returns-clause-value
unfolding corner_of
returns-clause-value c =
    let dollar = c.cut_dollar-absolute.ensures in
    let letters = c.cut_letters.ensures.letters ∙ ap letters_of dollar.behind in
    let behind = c.cut_letters.ensures.behind ∙ ap behind_letters dollar.behind in
    c.corner_by.ensures ∙ (λ i. corner_by (dollar.dollar i) (letters i) (behind i))
