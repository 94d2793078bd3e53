-- The tables of a workbook, as they are loaded and listed.
use Rattle.std.proofs.Common.{◌≡◌, ℕ, zero, suc, List, [], ◌∷◌, ◌++◌, drop, map, refl, sym, ◌∙◌, ap}
use Rattle.std.proofs.Common.{Option, Some, None, Result, Ok, Err, string_bytes}
use Rattle.std.specs.Prelude.{option_map}
use Rattle.std.proofs.lemmas.List.{map-append}
use Rattle.part_events.specs.Words.{PackageState}
use Rattle.xlsx_error.specs.declared.error.XlsxError.{XlsxError}
use Rattle.xlsx_parts.specs.Words.{Appends, map_each, sheet_at}
use Rattle.xlsx_tables.specs.TableParts.{TableSaid}
use Rattle.xlsx_tables.specs.Tables.{SheetTable, tables_at, table_of_sheet, table_on_sheet}
use Rattle.xlsx_tables.specs.Tables.{loaded_of, tables_ask, tables_on_ask}
use Rattle.xlsx_tables.specs.declared.loaded.LoadedTable.{LoadedTable}
use Rattle.xlsx_workbook.specs.declared.sheet.Sheet.{Sheet}
use Rattle.xlsx_core.specs.TableList.{sheet_name, with_sheet, table_held, tables_held}
use Rattle.xlsx_core.specs.TableList.{table_names_of}

-- ---- the sheet that comes next

pub named_there : (sheets : List Sheet) (number : ℕ) (sheet : Sheet) (others : List Sheet)
    → drop number sheets ≡ sheet ∷ others → sheet_name sheets number ≡ string_bytes sheet.name
named_there [] zero sheet others is = absurd (cc)
named_there [] (suc number) sheet others is = absurd (cc)
named_there (first ∷ sheets) zero sheet others is =
    let same : first ≡ sheet = cc in
    ap (λ (own : Sheet). string_bytes own.name) same
named_there (first ∷ sheets) (suc number) sheet others is =
    named_there sheets number sheet others is

pub next_there : {X : Type 0} (all : List X) (number : ℕ) (own : X) (others : List X)
    → drop number all ≡ own ∷ others → drop (suc number) all ≡ others
next_there [] zero own others is = absurd (cc)
next_there [] (suc number) own others is = absurd (cc)
next_there (first ∷ all) zero own others is = cc
next_there (first ∷ all) (suc number) own others is = next_there all number own others is

-- ---- tables by the names of their sheets

held_by_numbers : (sheets : List Sheet) (loaded : List LoadedTable)
    → tables_held sheets loaded ≡ map (with_sheet sheets) (map loaded_of loaded)
held_by_numbers sheets [] = refl
held_by_numbers sheets (own ∷ loaded) =
    ap (λ (rest : List SheetTable). table_held sheets own ∷ rest) (held_by_numbers sheets loaded)

on_one_sheet : (sheets : List Sheet) (number : ℕ) (name : List ℕ) (found : List TableSaid)
    → sheet_name sheets number ≡ name
    → map (with_sheet sheets) (map (table_on_sheet number) found) ≡ map (table_of_sheet name) found
on_one_sheet sheets number name [] is = refl
on_one_sheet sheets number name (own ∷ found) is =
    ap (λ (rest : List SheetTable). table_of_sheet (sheet_name sheets number) own ∷ rest)
    (on_one_sheet sheets number name found is)
    ∙ ap (λ (text : List ℕ). table_of_sheet text own ∷ map (table_of_sheet name) found) is

held_further : (sheets : List Sheet) (number : ℕ) (name : List ℕ) (kept now : List LoadedTable)
    (found : List TableSaid) → sheet_name sheets number ≡ name
    → map loaded_of now ≡ map loaded_of kept ++ map (table_on_sheet number) found
    → tables_held sheets now ≡ tables_held sheets kept ++ map (table_of_sheet name) found
held_further sheets number name kept now found named is =
    held_by_numbers sheets now ∙ ap (map (with_sheet sheets)) is
    ∙ map-append (with_sheet sheets) (map loaded_of kept) (map (table_on_sheet number) found)
    ∙ ap (λ (first : List SheetTable). first
    ++ map (with_sheet sheets) (map (table_on_sheet number) found))
    (sym (held_by_numbers sheets kept))
    ∙ ap (λ (rest : List SheetTable). tables_held sheets kept ++ rest)
    (on_one_sheet sheets number name found named)

-- what is said by numbers is said by names
said_on_sheet : (sheets : List Sheet) (number : ℕ) (said : Option (List TableSaid))
    (before after : List LoadedTable) → (found : List (ℕ × TableSaid))
    × (option_map (map (table_on_sheet number)) said ≡ Some found)
    × (map loaded_of after ≡ map loaded_of before ++ found)
    → (found : List SheetTable)
    × (option_map (map (table_of_sheet (sheet_name sheets number))) said ≡ Some found)
    × (tables_held sheets after ≡ tables_held sheets before ++ found)
said_on_sheet sheets number None before after kept = absurd (cc)
said_on_sheet sheets number (Some own) before after kept =
    let same : map (table_on_sheet number) own ≡ kept.0 = cc in
    let name = sheet_name sheets number in (
      map (table_of_sheet name) own,
      refl,
      held_further sheets number name before after own refl
          (kept.2 ∙ ap (λ (rest : List (ℕ × TableSaid)). map loaded_of before ++ rest) (sym same)),
    )

pub kept_on_sheet : {R : Type 0} (sheets : List Sheet) (number : ℕ) (path : List ℕ)
    (before after : List LoadedTable) (result : Result R XlsxError) {old new : PackageState}
    → Appends (map_each (table_on_sheet number) (tables_ask path)) (map loaded_of before)
    (map loaded_of after) result old new
    → Appends (tables_on_ask (sheet_at (sheet_name sheets number) path))
    (tables_held sheets before) (tables_held sheets after) result old new
kept_on_sheet sheets number path before after (Ok answer) {old = old} kept = record {
  uses = kept.uses;
  to_end = kept.to_end;
  said = λ told.
      said_on_sheet sheets number (tables_at old.parts path) before after (kept.said told);
  err = tt;
  kind = tt;
}
kept_on_sheet sheets number path before after (Err error) kept = record {
  uses = kept.uses;
  to_end = kept.to_end;
  said = λ told. tt;
  err = kept.err;
  kind = kept.kind;
}

-- ---- names

pub all_names : (tables : List SheetTable)
    → table_names_of None tables ≡ map (λ (own : SheetTable). own.table.name) tables
all_names [] = refl
all_names (own ∷ tables) =
    ap (λ (rest : List (List ℕ)). own.table.name ∷ rest) (all_names tables)
