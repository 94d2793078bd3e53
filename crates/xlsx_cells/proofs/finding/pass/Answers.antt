use Rattle.std.proofs.Common.{◌≡◌, ℕ, List, Bool, true, false, Err, ◌∙◌, sym, ap, codes}
use Rattle.std.specs.Prelude.{◌||◌}
use Rattle.std.specs.Str.{bytes_eq}
use Rattle.std.proofs.lemmas.Result.{err_from_is_err_and}
use Rattle.attr_text.specs.Words.{local_name_of}
use Rattle.part_events.specs.Words.{tag_of}
use Rattle.xlsx_sections.specs.Words.{Refusal}
use Rattle.xlsx_cells.specs.Marks.{is_row}
use Rattle.xlsx_cells.specs.Position.{row_named}
use Rattle.xlsx_cells.proofs.Refusing.{is_refused_weaker}
use Rattle.xlsx_cells.proofs.finding.pass.Goals as goal

pub returns-in_err-start_row-in-Start-clause-err : goal.returns-in_err-start_row-in-Start-clause-err
returns-in_err-start_row-in-Start-clause-err c =
    let tag = tag_of c.in-Start.tag in
    let named : bytes_eq (local_name_of tag.name) (codes "row") ≡ true =
    ap (λ (name : List ℕ). bytes_eq name (codes "row")) (sym c.local_name.ensures)
    ∙ sym c.eq.ensures ∙ c.if-eq.true in
    let p = err_from_is_err_and c.from_residual.result c.from_residual.ensures.1 in
    rw (p.1, p.2, c.in-Start.is)
    (is_refused_weaker (λ (refusal : Refusal). row_named tag ≡ Err refusal)
    (λ (refusal : Refusal). (is_row tag ≡ true) × (row_named tag ≡ Err refusal))
    c.in_err-start_row-in-Start.field-0.0
    (λ refusal is. (
      ap (λ
          (b : Bool). b || false) named,
      is,
    )) c.in_err-start_row-in-Start.ensures.err)
