use Rattle.std.proofs.Common.{◌≡◌, ℕ, List, true, sym, ap, subst, ◌∙◌, codes, Result, Option}
use Rattle.std.specs.Str.{bytes_eq}
use Rattle.std.proofs.lemmas.Result.{err_from_is_err_and}
use Rattle.attr_text.specs.Words.{local_name_of}
use Rattle.cell_refs.specs.declared.dimensions.Dimensions.{Dimensions}
use Rattle.part_events.specs.Words.{tag_of}
use Rattle.xlsx_sections.specs.Words.{Refusal}
use Rattle.xlsx_cells.specs.Head.{dimension_area, IsHeadStartRefused}
use Rattle.xlsx_cells.proofs.HeadRead.{tells_dimensions, start_refused}
use Rattle.xlsx_cells.proofs.head.Head.take_start.Goals as goal

pub returns-in_err-area_of-clause-err : goal.returns-in_err-area_of-clause-err
returns-in_err-area_of-clause-err c =
    let tag = tag_of c.args.tag in
    let error = c.in_err-area_of.field-0.0 in
    let named : bytes_eq (local_name_of tag.name) (codes "dimension") ≡ true =
    ap (λ (name : List ℕ). bytes_eq name (codes "dimension")) (sym c.local_name.ensures)
    ∙ sym c.eq.ensures ∙ c.if-eq.true in
    let p = err_from_is_err_and c.from_residual.result c.from_residual.ensures.1 in
    rw (p.1, p.2)
    (subst (λ (answer : Result (Option Dimensions) Refusal). IsHeadStartRefused answer error)
    (sym (tells_dimensions tag named))
    (start_refused (dimension_area tag) error c.in_err-area_of.ensures.err))
