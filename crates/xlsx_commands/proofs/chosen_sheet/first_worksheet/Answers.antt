use Rattle.std.proofs.Common.{rules, ◌≡◌, ◌∙◌, sym, ap, get_or, true, false, not, ◌&&◌, Bool}
use Rattle.std.proofs.Common.{string_bytes, ℕ, List, map, take}
use Rattle.std.specs.Prelude.{if◌then◌else◌}
use Rattle.std.specs.BTreeSet.{contains_text}
use Rattle.std.specs.Str.{bytes_eq}
use Rattle.xlsx_open.specs.Words.{listed_sheet}
use Rattle.xlsx_commands.specs.ChosenSheets.{is_worksheet}
use Rattle.xlsx_commands.proofs.SheetsChosen.{is_chosen_at, chosen_here, passed_here, none_chosen}
use Rattle.xlsx_commands.proofs.SheetsChosen.{names_more}
use Rattle.xlsx_commands.proofs.chosen_sheet.first_worksheet.Goals as goal

pub returns-then-is_chosen : goal.returns-then-is_chosen
returns-then-is_chosen c =
    let sheet = c.index-sheets-place.result in
    let is : get_or c.args.sheets.now c.sheets.place sheet ≡ sheet = search rules in
    let test : is_chosen_at c.args.sheets.now c.sheets.place sheet ≡ true =
    ap (λ (own : Bool). is_worksheet sheet.typ && not own)
    (sym (c.sheets.invariant.kept (string_bytes sheet.name))) ∙ search rules in
    sym (chosen_here c.args.sheets.now c.sheets.place sheet c.sheets-test.true is test)
    ∙ c.sheets.invariant.rest

pub sheets-preserved : goal.sheets-preserved
sheets-preserved c =
    let sheet = c.index-sheets-place.result in
    let is : get_or c.args.sheets.now c.sheets.place sheet ≡ sheet = search rules in
    let test : is_chosen_at c.args.sheets.now c.sheets.place sheet ≡ false =
    ap (λ (own : Bool). is_worksheet sheet.typ && not own)
    (sym (c.sheets.invariant.kept (string_bytes sheet.name))) ∙ search rules in
    record {
      rest = sym (passed_here c.args.sheets.now c.sheets.place sheet c.sheets-test.true is test)
          ∙ c.sheets.invariant.rest;
      kept = λ name.
          let front = map listed_sheet (take c.sheets.place c.args.sheets.now) in
          let own : c.as_str.result.now ≡ string_bytes sheet.name = search rules in
          c.in_ok-keep_name.ensures name
          ∙ ap (λ (kept : List ℕ). if bytes_eq kept name then true
          else contains_text c.sheets.earlier name) own
          ∙ ap (λ (others : Bool). if bytes_eq (string_bytes sheet.name) name then true else others)
          (c.sheets.invariant.kept name)
          ∙ sym (names_more c.args.sheets.now c.sheets.place sheet name c.sheets-test.true is);
    }

pub returns : goal.returns
returns c =
    sym (none_chosen c.args.sheets.now c.sheets.place c.sheets-test.false)
    ∙ c.sheets.invariant.rest
