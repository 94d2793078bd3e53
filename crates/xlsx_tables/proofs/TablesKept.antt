-- What is kept of the tables of a sheet.
use Rattle.std.proofs.Common.{◌≡◌, ℕ, List, Option, Some, None, Result, Ok, Err, map, refl, ◌∙◌}
use Rattle.std.proofs.Common.{sym}
use Rattle.std.specs.Prelude.{option_map, option_and_then}
use Rattle.part_events.specs.Words.{Part, PackageState}
use Rattle.xlsx_error.specs.declared.error.XlsxError.{XlsxError}
use Rattle.xlsx_parts.specs.Words.{Appends, all_said, map_each}
use Rattle.xlsx_parts.proofs.ManySaid.{all_said_mapped}
use Rattle.looks.specs.Words.{look_ask, look_said, mapped}
use Rattle.xlsx_relationships.specs.Words.{each_related, related_look}
use Rattle.xlsx_tables.specs.TableParts.{TableSaid}
use Rattle.xlsx_tables.specs.Tables.{IsTablesError, table_look, table_on_sheet, table_type}
use Rattle.xlsx_tables.specs.Tables.{tables_ask}

-- the tables of all parts, each by the number of the sheet
numbered : (sheet : ℕ) (parts : List Part) (found : Option (List (List ℕ)))
    → option_and_then (all_said (λ (own : List ℕ). option_map (map (table_on_sheet sheet))
    (look_said (table_look own) parts))) found
    ≡ option_map (map (table_on_sheet sheet))
    (option_and_then (all_said (λ (own : List ℕ). look_said (table_look own) parts)) found)
numbered sheet parts None = refl
numbered sheet parts (Some paths) =
    let said : List ℕ → Option (List TableSaid) = λ (own : List ℕ). look_said (table_look own) parts
    in
    all_said_mapped (table_on_sheet sheet) said paths

-- what is kept of each part is what is kept of the sheet
pub tables_by_number : {R : Type 0} (sheet : ℕ) (path : List ℕ)
    {before after : List (ℕ × TableSaid)} (result : Result R XlsxError) {old new : PackageState}
    → Appends (look_ask IsTablesError (each_related (λ (own : List ℕ).
    mapped (map (table_on_sheet sheet)) (table_look own)) table_type path)) before after result old
    new
    → Appends (map_each (table_on_sheet sheet) (tables_ask path)) before after result old new
tables_by_number sheet path (Ok answer) {old = old} kept = record {
  uses = kept.uses;
  to_end = kept.to_end;
  said = λ told.
      let found = kept.said told in (
        found.0,
        sym (numbered sheet old.parts (look_said (related_look table_type path) old.parts))
            ∙ found.1,
        found.2,
      );
  err = tt;
  kind = tt;
}
tables_by_number sheet path (Err error) kept = record {
  uses = kept.uses;
  to_end = kept.to_end;
  said = λ told. tt;
  err = kept.err;
  kind = kept.kind;
}
