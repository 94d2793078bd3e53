-- The lines of formulas, one after the other.
use Rattle.std.proofs.Common.{◌≡◌, ◌∙◌, ℕ, List, ◌∷◌, ◌++◌, ap, sym}
use Rattle.std.proofs.lemmas.List.{append_assoc}
use Rattle.cell_data.specs.Words.{CellValue}
use Rattle.xlsx_check.specs.Evaluation.{denotation, value_looked_up}
use Rattle.xlsx_check.specs.Lines.{verdict_line, judged_at, check_lines}
use Rattle.xlsx_check.specs.Verdicts.{judged, verdict_of}
use Rattle.xlsx_check.specs.declared.outcome.Verdict.{Verdict}

-- one line more, and those of the formulas behind it
pub goes_on : (values : List ((ℕ × ℕ) × CellValue)) (formula : (ℕ × ℕ) × List ℕ)
    (rest left whole : List ((ℕ × ℕ) × List ℕ)) (before old new text : List ℕ) (said : Verdict) →
    text ≡ formula.1 →
    verdict_of said ≡ judged (denotation values text) (value_looked_up values formula.0) →
    new ≡ old ++ verdict_line formula.0 (verdict_of said) → left ≡ formula ∷ rest →
    old ++ check_lines values left ≡ before ++ check_lines values whole →
    new ++ check_lines values rest ≡ before ++ check_lines values whole
goes_on values formula rest left whole before old new text said is says printed taken same =
    let line : verdict_of said ≡ judged_at values formula =
    says ∙ ap (λ own. judged (denotation values own) (value_looked_up values formula.0)) is in
    ap (λ bytes. bytes ++ check_lines values rest)
    (printed ∙ ap (λ own. old ++ verdict_line formula.0 own) line)
    ∙ append_assoc old (verdict_line formula.0 (judged_at values formula)) (check_lines values rest)
    ∙ ap (λ all. old ++ check_lines values all) (sym taken) ∙ same
