use Rattle.std.proofs.Common.{rules, ◌≡◌, ◌∙◌, ap, sym, suc, Bool, true, false, if◌then◌else◌, Ok}
use Rattle.std.proofs.Common.{Err, Some, map, take, string_bytes}
use Rattle.std.specs.Prelude.{slice_get}
use Rattle.std.proofs.lemmas.Option.{slice_get-get_or}
use Rattle.xlsx_open.specs.Words.{listed_sheet}
use Rattle.xlsx_commands.specs.ChosenSheets.{has_sheet_name}
use Rattle.xlsx_commands.specs.declared.sheet_choice.SheetFault.TheVariants.{NamedBefore}
use Rattle.xlsx_commands.proofs.SheetsChosen.{at_number}
use Rattle.xlsx_commands.proofs.chosen_sheet.numbered_sheet.Goals as goal

pub returns-then-has_name : goal.returns-then-has_name
returns-then-has_name c =
    let sheet = c.in-Some-get.sheet.now in
    let before = c.in-Some.before in
    let is : c.args.number ≡ suc before = search rules in
    let lookup = c.in-Some-get.ensures.lookup in
    let found : slice_get c.args.sheets.now before ≡ Some sheet =
    slice_get-get_or c.args.sheets.now before sheet lookup.3.0 ∙ ap Some (sym lookup.1) in
    let test : has_sheet_name (string_bytes sheet.name)
    (map listed_sheet (take before c.args.sheets.now))
    ≡ true = search rules in
    sym (at_number c.args.sheets.now c.args.number before sheet is found
    ∙ ap (λ (own : Bool). if own then Err (NamedBefore c.args.number)
    else Ok (string_bytes sheet.name)) test)

pub returns-else-has_name : goal.returns-else-has_name
returns-else-has_name c =
    let sheet = c.in-Some-get.sheet.now in
    let before = c.in-Some.before in
    let is : c.args.number ≡ suc before = search rules in
    let lookup = c.in-Some-get.ensures.lookup in
    let found : slice_get c.args.sheets.now before ≡ Some sheet =
    slice_get-get_or c.args.sheets.now before sheet lookup.3.0 ∙ ap Some (sym lookup.1) in
    let test : has_sheet_name (string_bytes sheet.name)
    (map listed_sheet (take before c.args.sheets.now))
    ≡ false = search rules in
    sym (at_number c.args.sheets.now c.args.number before sheet is found
    ∙ ap (λ (own : Bool). if own then Err (NamedBefore c.args.number)
    else Ok (string_bytes sheet.name)) test)
