-- The formulas that a workbook says stand on its sheets.
use Rattle.std.proofs.Common.{◌≡◌, ◌∙◌, ℕ, suc, ◌+◌, ◌<◌, ◌≤◌, List, [], ◌∷◌, ◌++◌, length, map}
use Rattle.std.proofs.Common.{refl, ap, subst, arith, cond, Bool, Option, Some, None, lt-ltb}
use Rattle.std.specs.Prelude.{nat_lt, option_map, string_bytes}
use Rattle.std.proofs.lemmas.List.{length-map}
use Rattle.std.proofs.lemmas.List.Elements.{filter-append}
use Rattle.cell_refs.specs.Words.{last_of_each}
use Rattle.cell_refs.specs.declared.dimensions.Dimensions.{Dimensions}
use Rattle.part_events.specs.Words.{Part}
use Rattle.xlsx_parts.specs.Words.{all_said, put_together, SheetPath}
use Rattle.xlsx_tables.specs.TableParts.{TableSaid}
use Rattle.xlsx_workbook.specs.declared.paths.PartPath.{PartPath}
use Rattle.xlsx_workbook.specs.declared.sheet.Sheet.{Sheet}
use Rattle.xlsx_core.specs.Words.{FormulaSaid, formula_on, sheets_from, path_formulas}
use Rattle.xlsx_core.specs.Words.{sheet_formulas, workbook_formulas, sheet_paths, sheets_of_book}
use Rattle.xlsx_core.specs.declared.xlsx.Xlsx.{Xlsx}
use Rattle.graph_reading.specs.BookRead.{book_of}
use Rattle.graph_reading.specs.GraphRead.{on_sheets}

-- formulas of one of so many sheets
on_one : (count number : ℕ) (cells : List ((ℕ × ℕ) × (List ℕ × Dimensions))) → number < count
    → on_sheets count (map (formula_on number) cells) ≡ map (formula_on number) cells
on_one count number [] within = refl
on_one count number (own ∷ cells) within =
    let said = formula_on number own in
    let others = on_sheets count (map (formula_on number) cells) in
    ap (λ (b : Bool). cond b (said ∷ others) others) (lt-ltb number count within)
    ∙ ap (λ (rest : List FormulaSaid). said ∷ rest) (on_one count number cells within)

on_said : (count number : ℕ) (found : Option (List ((ℕ × ℕ) × (List ℕ × Dimensions))))
    (own : List FormulaSaid) → number < count
    → option_map (λ all. map (formula_on number) (last_of_each all)) found ≡ Some own
    → on_sheets count own ≡ own
on_said count number None own within is = absurd (cc)
on_said count number (Some all) own within is =
    let same : map (formula_on number) (last_of_each all) ≡ own = cc in
    subst (λ (rest : List FormulaSaid). on_sheets count rest ≡ rest) same
    (on_one count number (last_of_each all) within)

-- where both of two lists stand on so many sheets, so does what they are together
on_both : (count : ℕ) (first others : Option (List FormulaSaid)) (said : List FormulaSaid)
    → ((own : List FormulaSaid) → first ≡ Some own → on_sheets count own ≡ own)
    → ((own : List FormulaSaid) → others ≡ Some own → on_sheets count own ≡ own)
    → put_together first others ≡ Some said → on_sheets count said ≡ said
on_both count None others said in_first in_others is = absurd (cc)
on_both count (Some own) None said in_first in_others is = absurd (cc)
on_both count (Some own) (Some more) said in_first in_others is =
    let same : own ++ more ≡ said = cc in
    subst (λ (rest : List FormulaSaid). on_sheets count rest ≡ rest) same
    (filter-append (λ (f : FormulaSaid). nat_lt f.sheet count) own more
    ∙ ap (λ (rest : List FormulaSaid). rest ++ on_sheets count more) (in_first own refl)
    ∙ ap (λ (rest : List FormulaSaid). own ++ rest) (in_others more refl))

on_from : (parts : List Part) (count number : ℕ) (sheets : List SheetPath)
    (said : List FormulaSaid) → number + length sheets ≤ count
    → all_said (sheet_formulas parts) (sheets_from number sheets) ≡ Some said
    → on_sheets count said ≡ said
on_from parts count number [] said within is =
    let same : [] ≡ said = cc in
    subst (λ (rest : List FormulaSaid). on_sheets count rest ≡ rest) same refl
on_from parts count number (sheet ∷ sheets) said within is =
    on_both count (sheet_formulas parts (record { number = number; path = sheet.path }))
    (all_said (sheet_formulas parts) (sheets_from (suc number) sheets)) said
    (λ own. on_said count number (path_formulas parts sheet.path) own (omega (arith, within)))
    (λ own. on_from parts count (suc number) sheets own (omega (arith, within))) is

paths_within : (sheets : List Sheet) (paths : List PartPath)
    → length (sheet_paths sheets paths) ≤ length sheets
paths_within [] paths = omega arith
paths_within (sheet ∷ sheets) [] = omega arith
paths_within (sheet ∷ sheets) (path ∷ paths) = omega (arith, paths_within sheets paths)

-- each of the formulas that a workbook says stands on one of its sheets
pub on_sheets_of_book : {P : Type 0} (xlsx : Xlsx P) (parts : List Part)
    (tables : List (ℕ × TableSaid)) (said : List FormulaSaid)
    → workbook_formulas parts (sheets_of_book xlsx) ≡ Some said
    → on_sheets (length (book_of xlsx tables).sheets) said ≡ said
on_sheets_of_book xlsx parts tables said is =
    let sheets = xlsx.workbook.metadata.sheets.items in
    let paths = xlsx.workbook.paths.items in
    let size = length-map sheets (λ (sheet : Sheet). string_bytes sheet.name) in
    on_from parts (length (book_of xlsx tables).sheets) 0 (sheet_paths sheets paths) said
    (omega (arith, size, paths_within sheets paths)) is
