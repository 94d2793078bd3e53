-- The formulas that are listed with what they cover are those of their sheet.
use Rattle.std.proofs.Common.{◌≡◌, ℕ, suc, List, [], ◌∷◌, map, length, Bool, true, false, refl, sym}
use Rattle.std.proofs.Common.{◌∙◌, ap, Option, Some, None, Result, Ok, Err, inl, inr, arith}
use Rattle.std.specs.Prelude.{if◌then◌else◌, not, filter, zip, option_and_then, option_map}
use Rattle.cell_data.specs.Words.{with_meaning}
use Rattle.cell_refs.specs.Words.{last_of_each}
use Rattle.cell_refs.specs.declared.dimensions.Dimensions.{Dimensions}
use Rattle.part_events.specs.Words.{Event, Part, part_of}
use Rattle.xlsx_parts.specs.Words.{unless_absent}
use Rattle.xlsx_sections.specs.Words.{and_others, Refusal}
use Rattle.xlsx_formulas.specs.Words.{FormulaText, behind_formulas}
use Rattle.xlsx_cells.specs.Words.{covers_said, with_covers, is_written, covered_formulas, Mark}
use Rattle.xlsx_cells.specs.Words.{row_start, row_end, cell, behind_row, answers_from}
use Rattle.xlsx_cells.specs.Words.{placed_formulas, formulas_along, is_empty, used_formulas}
use Rattle.xlsx_core.specs.FormulaList.{FormulaSaid, formula_on, formula_pair}

-- ---- each cell has what it covers

first_of : {A : Type 0} (own : Result A Refusal) (others : Result (List A) Refusal) (all : List A)
    → and_others own others ≡ Ok all
    → (first : A) × (rest : List A) × (others ≡ Ok rest) × (all ≡ first ∷ rest)
first_of (Ok first) (Ok rest) all is = (first, rest, refl, cc)
first_of (Ok first) (Err refusal) all is = absurd (cc)
first_of (Err refusal) others all is = absurd (cc)

behind_of : {A : Type 0} (row : Result (Option ℕ) Refusal) (others : Result (List A) Refusal)
    (all : List A) → behind_row row others ≡ Ok all → others ≡ Ok all
behind_of (Ok row) others all is = is
behind_of (Err refusal) others all is = absurd (cc)

pub as_many : (before marks : List Mark) (written : List ((ℕ × ℕ) × List FormulaText))
    → answers_from placed_formulas before marks ≡ Ok written
    → length written ≡ length (covers_said marks)
as_many before [] written is =
    let none : [] ≡ written = cc in
    ap length (sym none)
as_many before (row_start tag ∷ marks) written is =
    as_many (row_start tag ∷ before) marks written (behind_of _ _ written is)
as_many before (row_end ∷ marks) written is = as_many (row_end ∷ before) marks written is
as_many before (cell element ∷ marks) written is =
    let (first, rest, others, same) = first_of (placed_formulas before element)
    (answers_from placed_formulas (cell element ∷ before) marks) written is in
    ap length same ∙ ap suc (as_many (cell element ∷ before) marks rest others)

pub as_many_along : (earlier : List FormulaText) (cells : List ((ℕ × ℕ) × List FormulaText))
    → length (formulas_along earlier cells) ≡ length cells
as_many_along earlier [] = refl
as_many_along earlier (first ∷ others) =
    ap suc (as_many_along (behind_formulas first.1 earlier) others)

-- ---- the texts are those that count

abbrev pub text_alone : List ℕ × Dimensions → List ℕ
text_alone own = own.0

pub texts_used : (formulas : List ((ℕ × ℕ) × List ℕ)) (covers : List (Option Dimensions))
    → length formulas ≡ length covers
    → map (with_meaning text_alone) (covered_formulas formulas covers) ≡ used_formulas formulas
texts_used [] [] same = refl
texts_used [] (own ∷ covers) same = absurd (cc)
texts_used (first ∷ formulas) [] same = absurd (cc)
texts_used (first ∷ formulas) (own ∷ covers) same =
    let others = texts_used formulas covers (omega (arith, same)) in
    elim (is_empty first.1) as (λ b. map (with_meaning text_alone)
    (if not b then with_covers (first, own) ∷ covered_formulas formulas covers
    else covered_formulas formulas covers)
    ≡ (if b then used_formulas formulas else first ∷ used_formulas formulas)) [
      | true ↦ others
      | false ↦ ap (λ rest. first ∷ rest) others
    ]

pub pairs_alone : (sheet : ℕ) (cells : List ((ℕ × ℕ) × (List ℕ × Dimensions)))
    → map formula_pair (map (formula_on sheet) cells) ≡ map (with_meaning text_alone) cells
pairs_alone sheet [] = refl
pairs_alone sheet (first ∷ cells) =
    ap (λ rest. (first.0, first.1.0) ∷ rest) (pairs_alone sheet cells)
