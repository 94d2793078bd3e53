-- Which formulas of the part of a written sheet are derived ones.
use Rattle.std.proofs.Common.{◌≡◌, ◌∙◌, ap, sym, subst, ℕ, List, map, codes, true, Result}
use mathlib.Core.Path.{fun_ext}
use Rattle.std.proofs.lemmas.Simd.{map-map}
use Rattle.std.specs.Prelude.{IsOkAnd}
use Rattle.cell_data.specs.Words.{AreInSheet}
use Rattle.cell_refs.specs.Words.{is_rising}
use Rattle.xlsx_cells.specs.Words.{formulas_written}
use Rattle.xlsx_formulas.specs.Words.{FormulaText}
use Rattle.xlsx_sections.specs.Words.{Refusal}
use Rattle.xlsx_writer.specs.Words.{PlacedFormulas, PlacedValues, data_markup, sheet_markup}
use Rattle.xlsx_writer.specs.Words.{written_parts, written_positions}
use Rattle.xlsx_writer.specs.declared.form.WrittenForm.TheVariants.{PackageText}
use Rattle.round_trip.specs.ReadFormulas.{SaysFormulas, derived_at, formulas_read}
use Rattle.round_trip.specs.ReadFormulas.{formulas_read_along, with_other_head}
use Rattle.round_trip.proofs.GroupsRead.{derived_by_head}
use Rattle.round_trip.proofs.PackageRead.{found_section, sheet_part_is_found}
use Rattle.round_trip.proofs.SheetPartRead.{data_stands}
use Rattle.round_trip.proofs.SheetRead.{formulas_of_sheet}

along_by_head : (formulas : PlacedFormulas) (positions : List (ℕ × ℕ))
    → map derived_at (formulas_read_along PackageText formulas positions)
    ≡ map (with_other_head formulas) positions
along_by_head formulas positions =
    map-map derived_at (λ (p : ℕ × ℕ). (p, formulas_read PackageText formulas p)) positions
    ∙ ap (λ (own : ℕ × ℕ → (ℕ × ℕ) × _). map own positions)
    (fun_ext (λ p i. (p, derived_by_head formulas p i)))

pub derived_in_part : (name : List ℕ) (values : PlacedValues) (formulas : PlacedFormulas)
    → AreInSheet values → AreInSheet formulas → is_rising formulas ≡ true
    → SaysFormulas (written_parts PackageText name values formulas) (λ all. map derived_at all
    ≡ map (with_other_head formulas) (written_positions values formulas))
derived_in_part name values formulas inside also rising =
    let all = formulas_read_along PackageText formulas (written_positions values formulas) in
    let fact : List ((ℕ × ℕ) × List FormulaText) → Type 0 = λ own. map derived_at own
    ≡ map (with_other_head formulas) (written_positions values formulas) in
    found_section (λ events. IsOkAnd (formulas_written events) fact) (codes "sheetData")
    (codes "xl/worksheets/sheet1.xml") (written_parts PackageText name values formulas)
    (sheet_markup PackageText values formulas) (data_markup PackageText values formulas)
    (sheet_part_is_found name values formulas PackageText)
    (data_stands PackageText values formulas)
    (subst (λ (own : Result (List ((ℕ × ℕ) × List FormulaText)) Refusal). IsOkAnd own fact)
    (sym (formulas_of_sheet PackageText values formulas inside also rising))
    (along_by_head formulas (written_positions values formulas)))
