use Rattle.std.proofs.Common.{◌∙◌, ◌++◌, take, ap, sym, List, ℕ}
use Rattle.std.proofs.lemmas.List.{take_rest}
use Rattle.xlsx_tool.proofs.RunLemmas.{front_more, written_more}
use Rattle.xlsx_tool.proofs.run.send.Goals as goal

pub pieces-preserved : goal.pieces-preserved
pieces-preserved g c =
    let invariant = c.pieces.invariant in
    let rest = c.pieces.rest.now in
    let count = c.in-Ok.count in
    let front = invariant.2 ++ take count rest in (
      c.in-Ok.ensures.keeps.is_visible ∙ invariant.0,
      c.in-Ok.ensures.ok ∙ invariant.1,
      front,
      front_more _ _ rest count invariant.3
          ∙ ap (λ (xs : List ℕ). front ++ xs) (sym (take_rest rest count)),
      λ told. written_more _ _ _ invariant.2 _ (invariant.4 told)
          (c.in-Ok.ensures.bytes (invariant.0 ∙ told)),
    )
