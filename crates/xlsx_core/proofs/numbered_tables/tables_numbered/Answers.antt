use Rattle.std.proofs.Common.{◌≡◌, ◌∙◌, ◌∷◌, [], add-one, ap, arith, length, map, rules, suc}
use Rattle.std.proofs.lemmas.Result.{err_from_is_err_and}
use Rattle.xlsx_parts.proofs.ManyRead.{leads_first, leads_on, leads_refused, answers_refused}
use Rattle.xlsx_workbook.specs.Words.{path_kept}
use Rattle.xlsx_tables.specs.Tables.{loaded_of}
use Rattle.xlsx_core.specs.FormulaList.{NumberedSheet, sheets_from}
use Rattle.xlsx_core.specs.Merges.{sheet_paths}
use Rattle.xlsx_core.specs.NumberedTables.{all_numbered_tables_ask, numbered_tables_ask}
use Rattle.xlsx_core.proofs.numbered_tables.tables_numbered.Goals as goal

pub sheets-init : goal.sheets-init
sheets-init g c = record {
  leads =
      rw c.new-items.ensures.items
      (leads_first (all_numbered_tables_ask (sheet_paths c.args.sheets.now c.args.paths.now)) []
      c.args.xml.now.source);
  within = search rules;
}

pub sheets-preserved : goal.sheets-preserved
sheets-preserved g c =
    let now = c.sheets.invariant in
    let number = c.sheets.number in
    let sheet = c.in-Some.field-0-0.now in
    let others = c.in-Some.others.now in
    let path = c.in-Some-split_first.path.now in
    let more = c.in-Some-split_first.more.now in
    let left : c.sheets.left.now ≡ sheet ∷ others = search rules in
    let rest : c.sheets.rest.now ≡ path ∷ more = search rules in
    let there : c.as_str.result.now ≡ path_kept path =
    c.as_str.ensures.value ∙ c.in_ok-path.ensures in
    let own : NumberedSheet = record { number = number; path = path_kept path } in
    record {
      leads =
          rw (add-one number)
          (leads_on numbered_tables_ask own (sheets_from (suc number) (sheet_paths others more))
          (rw (left, rest) at now.leads) (rw there at c.in_ok-read_sheet_tables.ensures.answers));
      within = omega (arith, now.within, ap length left);
    }

pub returns-in_err-read_sheet_tables : goal.returns-in_err-read_sheet_tables
returns-in_err-read_sheet_tables g c =
    let number = c.sheets.number in
    let sheet = c.in-Some.field-0-0.now in
    let others = c.in-Some.others.now in
    let path = c.in-Some-split_first.path.now in
    let more = c.in-Some-split_first.more.now in
    let left : c.sheets.left.now ≡ sheet ∷ others = search rules in
    let rest : c.sheets.rest.now ≡ path ∷ more = search rules in
    let there : c.as_str.result.now ≡ path_kept path =
    c.as_str.ensures.value ∙ c.in_ok-path.ensures in
    let own : NumberedSheet = record { number = number; path = path_kept path } in
    let handed = err_from_is_err_and c.from_residual-in_err-read_sheet_tables.result
    c.from_residual-in_err-read_sheet_tables.ensures.1 in
    rw (handed.1, handed.2)
    (answers_refused (λ all. map loaded_of all.items)
    (leads_refused numbered_tables_ask own (sheets_from (suc number) (sheet_paths others more)) []
    (λ is. is) (rw (left, rest) at c.sheets.invariant.leads)
    (rw there at c.in_err-read_sheet_tables.ensures.answers)))
