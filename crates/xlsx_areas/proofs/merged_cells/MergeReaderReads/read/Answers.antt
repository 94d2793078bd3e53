use Rattle.std.proofs.Common.{◌≡◌, ℕ, Ok, Option, Result, option_map, sym, ◌∙◌, ap}
use Rattle.std.proofs.lemmas.Result.{IfOk-weaker}
use Rattle.cell_refs.specs.declared.dimensions.Dimensions.{Dimensions}
use Rattle.part_events.specs.Words.{tag_of}
use Rattle.xlsx_sections.specs.Words.{Refusal, placed_at}
use Rattle.xlsx_sections.proofs.StartsKept.{own_item}
use Rattle.xlsx_areas.specs.MergedCells.{merge_of}
use Rattle.xlsx_areas.proofs.merged_cells.MergeReaderReads.read.Goals as goal

pub returns-clause-ok : goal.returns-clause-ok
returns-clause-ok c =
    let start = λ (behind : ℕ). placed_at (tag_of c.args.tag) behind in
    IfOk-weaker c.merge_of.result (λ own. (behind : ℕ) → merge_of (start behind) ≡ Ok own)
    (λ own. (behind : ℕ) → merge_of (start behind) ≡ Ok (option_map (λ area. area) own))
    (λ own is behind. is behind
    ∙ ap (λ (area : Option Dimensions).
    let found : Result (Option Dimensions) Refusal = Ok area in found) (sym (own_item own)))
    c.merge_of.ensures.ok
