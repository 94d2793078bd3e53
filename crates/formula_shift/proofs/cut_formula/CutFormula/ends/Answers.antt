use Rattle.std.proofs.Common.{sym, ◌∙◌, subst, string_bytes}
use Rattle.std.specs.Prelude.{All}
use Rattle.std.specs.Str.{IsCharBoundary}
use Rattle.std.proofs.lemmas.Str.{IsUtf8-string_bytes}
use Rattle.formula_shift.proofs.PieceEnds.{ends_boundaries}
use Rattle.formula_shift.proofs.cut_formula.CutFormula.ends.Goals as goal

pub returns-clause-boundaries : goal.returns-clause-boundaries
returns-clause-boundaries c =
    let text = c.self.inside.text in
    let all = ends_boundaries (string_bytes text) (IsUtf8-string_bytes text) in
    let kept = subst (All (IsCharBoundary (string_bytes text)))
    (sym (c.as_slice.ensures.value ∙ c.self.invariant)) all in
    subst (λ t. All (IsCharBoundary t) c.as_slice.result.now) c.self.view_is kept
