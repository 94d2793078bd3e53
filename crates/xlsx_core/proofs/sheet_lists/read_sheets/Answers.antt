use Rattle.std.proofs.Common.{◌≡◌, ◌∙◌, ◌∷◌, [], ℕ, add-one, ap, arith, drop, length, refl, rules}
use Rattle.std.proofs.Common.{string_bytes}
use Rattle.std.proofs.lemmas.Result.{err_from_is_err_and}
use Rattle.xlsx_parts.specs.Words.{SheetPath, sheet_at}
use Rattle.looks.specs.Words.{for_each, look_ask}
use Rattle.xlsx_parts.proofs.ManyRead.{leads_first, leads_on, leads_refused, answers_refused}
use Rattle.xlsx_workbook.specs.Words.{path_kept}
use Rattle.xlsx_core.specs.Merges.{sheet_paths}
use Rattle.xlsx_core.proofs.TablesListed.{named_there, next_there}
use Rattle.xlsx_core.proofs.sheet_lists.read_sheets.Goals as goal

pub sheets-init : goal.sheets-init
sheets-init g c =
    let r = g.R.ReadsSheets in
    let whole = look_ask r.Kind (for_each (r.look c.args.by.now)
    (sheet_paths c.args.sheets.now c.args.paths.now)) in
    record {
      leads = rw c.requires (leads_first whole [] c.args.xml.now.source);
      behind = refl;
      within = search rules;
    }

pub sheets-preserved : goal.sheets-preserved
sheets-preserved g c =
    let r = g.R.ReadsSheets in
    let now = c.sheets.invariant in
    let sheets = c.args.sheets.now in
    let number = c.sheets.number in
    let sheet = c.in-Some.field-0-0.now in
    let others = c.in-Some.others.now in
    let path = c.in-Some-split_first.path.now in
    let more = c.in-Some-split_first.more.now in
    let left : c.sheets.left.now ≡ sheet ∷ others = search rules in
    let rest : c.sheets.rest.now ≡ path ∷ more = search rules in
    let there : c.as_str.result.now ≡ path_kept path =
    c.as_str.ensures.value ∙ c.in_ok-path.ensures in
    let front : drop number sheets ≡ sheet ∷ others = now.behind ∙ left in
    let named = named_there sheets number sheet others front in
    record {
      leads =
          leads_on (λ (sheet : SheetPath). look_ask r.Kind (r.look c.args.by.now sheet))
          (sheet_at (string_bytes sheet.name) (path_kept path)) (sheet_paths others more)
          (rw (left, rest) at now.leads) (rw (named, there) at c.in_ok-keep.ensures);
      behind =
          ap (λ (n : ℕ). drop n sheets) (add-one number)
          ∙ next_there sheets number sheet others front;
      within = omega (arith, now.within, ap length left);
    }

pub returns-in_err-keep : goal.returns-in_err-keep
returns-in_err-keep g c =
    let r = g.R.ReadsSheets in
    let sheets = c.args.sheets.now in
    let sheet = c.in-Some.field-0-0.now in
    let others = c.in-Some.others.now in
    let path = c.in-Some-split_first.path.now in
    let more = c.in-Some-split_first.more.now in
    let left : c.sheets.left.now ≡ sheet ∷ others = search rules in
    let rest : c.sheets.rest.now ≡ path ∷ more = search rules in
    let there : c.as_str.result.now ≡ path_kept path =
    c.as_str.ensures.value ∙ c.in_ok-path.ensures in
    let named =
    named_there sheets c.sheets.number sheet others (c.sheets.invariant.behind ∙ left) in
    let handed = err_from_is_err_and c.from_residual-in_err-keep.result
    c.from_residual-in_err-keep.ensures.1 in
    rw (handed.1, handed.2)
    (answers_refused (r.held sheets)
    (leads_refused (λ (sheet : SheetPath). look_ask r.Kind (r.look c.args.by.now sheet))
    (sheet_at (string_bytes sheet.name) (path_kept path)) (sheet_paths others more) [] (λ is. is)
    (rw (left, rest) at c.sheets.invariant.leads) (rw (named, there) at c.in_err-keep.ensures)))
