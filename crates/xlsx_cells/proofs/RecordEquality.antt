-- `==` of what single calls answer is by all that it has.
use Rattle.std.proofs.Common.{◌≡◌, Bool, true, false, ◌&&◌, Option, Some, None, refl, ap}
use Rattle.std.specs.Bool.{Decides}
use Rattle.std.specs.Cmp.{unsigned_Decides}
use Rattle.std.specs.Option.{option_eq}
use Rattle.std.specs.Prelude.{option_map, string_bytes, ◌↔◌}
use Rattle.std.proofs.lemmas.Slice.Eq.{bytes_eq-Decides}
use Rattle.equalities.specs.Equality.{IsEquality}
use Rattle.equalities.proofs.Equality.{of_pairs, of_image, of_bool}
use Rattle.cell_data.proofs.Equalities.{data_ref_law}
use Rattle.xlsx_formulas.specs.Words.{description_seen}
use Rattle.xlsx_formulas.proofs.SameMetadata.{metadata_law}
use Rattle.xlsx_cells.specs.Records.{formula_cell, metadata_cell}
use Rattle.xlsx_cells.specs.contracts.cell_records.XlsxCellFormulaPartialEq.TheImpl as formula
use Rattle.xlsx_cells.specs.contracts.cell_records.XlsxCellFormulaMetadataRecordPartialEq.TheImpl
    as metadata
use Rattle.xlsx_cells.specs.contracts.children.WantsPartialEq.TheImpl as wants
use Rattle.xlsx_cells.specs.declared.children.Wants.{Wants}
use Rattle.xlsx_cells.specs.declared.cell_records.XlsxCellFormula.{XlsxCellFormula}
use Rattle.xlsx_cells.specs.declared.cell_records.XlsxCellFormulaMetadataRecord.{
  XlsxCellFormulaMetadataRecord,
}

both_true : (p q : Bool) → (p && q) ≡ true → (p ≡ true) × (q ≡ true)
both_true true q h = (refl, h)
both_true false q h = absurd (cc)

and_true : (p q : Bool) → p ≡ true → q ≡ true → (p && q) ≡ true
and_true true q first second = second
and_true false q first second = absurd (cc)

decides_both : {p q : Bool} {P Q : Type 0} → Decides p P → Decides q Q → Decides (p && q) (P × Q)
decides_both {p} {q} first second = (
  λ same. let both = both_true p q same in (first.0 both.0, second.0 both.1),
  λ both. and_true p q (first.1 both.0) (second.1 both.1),
)

of_option : {A B : Type 0} {eq : A → A → Bool} (meaning : A → B)
    → ((x y : A) → Decides (eq x y) (meaning x ≡ meaning y)) → (a b : Option A)
    → Decides (option_eq eq a b) (option_map meaning a ≡ option_map meaning b)
of_option meaning law None None = (λ _. refl, λ _. refl)
of_option meaning law None (Some y) = (λ same. absurd (cc), λ same. absurd (cc))
of_option meaning law (Some x) None = (λ same. absurd (cc), λ same. absurd (cc))
of_option meaning law (Some x) (Some y) =
    (λ same. ap Some ((law x y).0 same), λ same. (law x y).1 (cc))

pub formula_law : (a b : XlsxCellFormula)
    → (formula.ghosts.eq a b ≡ true) ↔ (formula_cell a ≡ formula_cell b)
formula_law a b =
    let all = decides_both
    (decides_both (unsigned_Decides a.pos.0 b.pos.0) (unsigned_Decides a.pos.1 b.pos.1))
    (decides_both (data_ref_law a.value b.value)
    (of_option string_bytes (λ x y. bytes_eq-Decides (string_bytes x) (string_bytes y)) a.formula
    b.formula)) in (
      λ same.
          let own = all.0 same in
          λ i. ((own.0.0 i, own.0.1 i), own.1.0 i, own.1.1 i),
      λ same. all.1 (
        (ap (λ cell. cell.0.0) same, ap (λ cell. cell.0.1) same),
        (ap (λ cell. cell.1) same, ap (λ cell. cell.2) same),
      ),
    )

pub metadata_cells_law : (a b : XlsxCellFormulaMetadataRecord)
    → (metadata.ghosts.eq a b ≡ true) ↔ (metadata_cell a ≡ metadata_cell b)
metadata_cells_law a b =
    let all = decides_both
    (decides_both (unsigned_Decides a.pos.0 b.pos.0) (unsigned_Decides a.pos.1 b.pos.1))
    (decides_both (data_ref_law a.value b.value)
    (of_option description_seen metadata_law a.formula b.formula)) in (
      λ same.
          let own = all.0 same in
          λ i. ((own.0.0 i, own.0.1 i), own.1.0 i, own.1.1 i),
      λ same. all.1 (
        (ap (λ cell. cell.0.0) same, ap (λ cell. cell.0.1) same),
        (ap (λ cell. cell.1) same, ap (λ cell. cell.2) same),
      ),
    )

-- what is wanted of each cell
pub wants_law : IsEquality wants.ghosts.eq
wants_law = of_image (λ (x : Wants). (x.values, (x.formulas, x.styles)))
    (λ p. record { values = p.0; formulas = p.1.0; styles = p.1.1 }) (λ _. refl)
    (of_pairs of_bool (of_pairs of_bool of_bool))
