-- The sheet that stands at a number, and the first worksheet, sheet by sheet.
use Rattle.std.proofs.Common.{◌≡◌, ◌∙◌, ℕ, ◌+◌, ◌<◌, ◌≤◌, Bool, true, false, not, ◌&&◌, List, []}
use Rattle.std.proofs.Common.{if◌then◌else◌, length, take, drop, get_or, ap, sym, string_bytes, map}
use Rattle.std.proofs.Common.{Ok, Err, suc, Option, Some, None, option_map, subst, arith, String}
use Rattle.std.proofs.Common.{Global, ◌∷◌, refl, ◌||◌}
use Rattle.std.specs.Prelude.{Result, slice_get}
use Rattle.std.specs.Str.{bytes_eq}
use Rattle.std.proofs.lemmas.List.Folds.{list_any-append}
use Rattle.std.proofs.lemmas.List.{drop_more, drop_all, map_more, take-map}
use Rattle.std.proofs.lemmas.Option.{slice_get-map}
use Rattle.xlsx_open.specs.Words.{ListedSheet, listed_sheet}
use Rattle.xlsx_workbook.specs.declared.sheet.Sheet.{Sheet}
use Rattle.xlsx_commands.specs.ChosenSheets.{first_worksheet, has_sheet_name, is_worksheet}
use Rattle.xlsx_commands.specs.ChosenSheets.{chosen_at, sheet_by_number}
use Rattle.xlsx_commands.specs.Command.{texts}
use Rattle.xlsx_commands.specs.Request.{chosen_request}
use Rattle.xlsx_commands.specs.declared.sheet_choice.SheetFault.{SheetFault}
use Rattle.xlsx_commands.specs.declared.sheet_choice.SheetFault.TheVariants.{NoWorksheet}
use Rattle.xlsx_commands.specs.declared.sheet_choice.SheetFault.TheVariants.{NamedBefore}

-- what is chosen from a place on
abbrev pub first_from : List Sheet → ℕ → Result (List ℕ) SheetFault
first_from sheets place =
    first_worksheet (map listed_sheet (take place sheets)) (map listed_sheet (drop place sheets))

-- the sheet at a place is chosen, behind those before it
abbrev pub is_chosen_at : List Sheet → ℕ → Sheet → Bool
is_chosen_at sheets place sheet =
    is_worksheet sheet.typ
    && not (has_sheet_name (string_bytes sheet.name) (map listed_sheet (take place sheets)))

module _ (sheets : List Sheet) (place : ℕ) (sheet : Sheet) (within : place < length sheets)
    (is : get_or sheets place sheet ≡ sheet) where
  step :
      first_from sheets place
      ≡ (if is_chosen_at sheets place sheet then Ok (string_bytes sheet.name)
      else first_from sheets (place + 1))
  unfolding first_worksheet
  step =
      ap (λ (left : List Sheet). first_worksheet (map listed_sheet (take place sheets))
      (map listed_sheet left)) (drop_more sheets place sheet within)
      ∙ ap (λ (front : List ListedSheet). if is_chosen_at sheets place (get_or sheets place sheet)
      then Ok (string_bytes (get_or sheets place sheet).name)
      else first_worksheet front (map listed_sheet (drop (place + 1) sheets)))
      (sym (map_more listed_sheet sheets place sheet within))
      ∙ ap (λ (own : Sheet). if is_chosen_at sheets place own then Ok (string_bytes own.name)
      else first_from sheets (place + 1)) is

  pub chosen_here : is_chosen_at sheets place sheet ≡ true
      → first_from sheets place ≡ Ok (string_bytes sheet.name)
  chosen_here test =
      step
      ∙ ap (λ (own : Bool). if own then Ok (string_bytes sheet.name)
      else first_from sheets (place + 1)) test

  pub passed_here : is_chosen_at sheets place sheet ≡ false
      → first_from sheets place ≡ first_from sheets (place + 1)
  passed_here test =
      step
      ∙ ap (λ (own : Bool). if own then Ok (string_bytes sheet.name)
      else first_from sheets (place + 1)) test

pub none_chosen : (sheets : List Sheet) (place : ℕ) → length sheets ≤ place
    → first_from sheets place ≡ Err NoWorksheet
unfolding first_worksheet
none_chosen sheets place past =
    ap (λ (left : List Sheet). first_worksheet (map listed_sheet (take place sheets))
    (map listed_sheet left)) (drop_all place sheets past)

any_or : (own others : Bool) → (others || (own || false)) ≡ (if own then true else others)
any_or true true = refl
any_or true false = refl
any_or false true = refl
any_or false false = refl

-- behind a sheet its name is one of those before
pub names_more : (sheets : List Sheet) (place : ℕ) (sheet : Sheet) (name : List ℕ)
    → place < length sheets → get_or sheets place sheet ≡ sheet
    → has_sheet_name name (map listed_sheet (take (place + 1) sheets))
    ≡ (if bytes_eq (string_bytes sheet.name) name then true
    else has_sheet_name name (map listed_sheet (take place sheets)))
names_more sheets place sheet name within is =
    let front = map listed_sheet (take place sheets) in
    ap (has_sheet_name name) (map_more listed_sheet sheets place sheet within)
    ∙ list_any-append (λ listed. bytes_eq listed.name name) front
    (listed_sheet (get_or sheets place sheet) ∷ [])
    ∙ ap (λ (own : Sheet).
    has_sheet_name name front || (bytes_eq (string_bytes own.name) name || false)) is
    ∙ any_or (bytes_eq (string_bytes sheet.name) name) (has_sheet_name name front)

-- the sheet at a number, unless an earlier one has its name
pub at_number : (sheets : List Sheet) (number before : ℕ) (sheet : Sheet) → number ≡ suc before
    → slice_get sheets before ≡ Some sheet
    → chosen_at number (map listed_sheet sheets) (sheet_by_number number (map listed_sheet sheets))
    ≡ (if has_sheet_name (string_bytes sheet.name) (map listed_sheet (take before sheets))
    then Err (NamedBefore number) else Ok (string_bytes sheet.name))
at_number sheets number before sheet is found =
    let all = map listed_sheet sheets in
    subst (λ (n : ℕ). chosen_at n all (sheet_by_number n all)
    ≡ (if has_sheet_name (string_bytes sheet.name) (map listed_sheet (take before sheets))
    then Err (NamedBefore n) else Ok (string_bytes sheet.name))) (sym is)
    (ap (λ (own : Option ListedSheet). chosen_at (suc before) all own)
    (slice_get-map listed_sheet sheets before ∙ ap (option_map listed_sheet) found)
    ∙ ap (λ (front : List ListedSheet). if has_sheet_name (string_bytes sheet.name) front
    then Err (NamedBefore (suc before)) else Ok (string_bytes sheet.name))
    (take-map listed_sheet before sheets))

-- fewer than three words choose no sheet
pub too_few : (words : List (String Global)) → length words < 3
    → chosen_request (texts words) ≡ None
too_few [] few = refl
too_few (word ∷ []) few = refl
too_few (word ∷ option ∷ []) few = refl
too_few (word ∷ option ∷ which ∷ further) few = absurd (omega (arith, few))
