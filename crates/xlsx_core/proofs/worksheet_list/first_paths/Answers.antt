use Rattle.std.proofs.Common.{◌≡◌, ◌∷◌, ◌-◌, drop, None, refl, sym, ◌∙◌, ap, arith, string_bytes}
use Rattle.std.specs.BTreeMap.{get_by_text}
use Rattle.xlsx_workbook.specs.Words.{path_kept}
use Rattle.xlsx_workbook.specs.declared.sheet.Sheet.{Sheet}
use Rattle.xlsx_core.specs.Opened.{path_lent}
use Rattle.xlsx_core.proofs.SheetsListed.{none_behind, first_further, drop_from}
use Rattle.xlsx_core.proofs.worksheet_list.first_paths.Goals as goal

pub places-init : goal.places-init
places-init c = record {
  sheets = omega (arith, c.min-place.ensures);
  paths = omega (arith, c.min-place.ensures);
  found = λ name.
      let empty : path_lent (get_by_text c.new-firsts.result name) ≡ None =
      rw c.new-firsts.ensures.empty refl in
      empty
      ∙ sym (none_behind name c.min-place.result c.args.sheets.now c.args.paths.now
      (λ below. omega (arith, c.min-place.ensures, below)));
}

pub places-preserved : goal.places-preserved
places-preserved c =
    let place = c.places.place in
    let sheet = c.index-sheets-place.result in
    let path = c.index-paths-place.result in
    let sheets : drop (place - 1) c.args.sheets.now ≡ sheet ∷ drop place c.args.sheets.now =
    drop_from c.args.sheets.now (place - 1) place sheet c.index-sheets-place.is
    (omega (arith, c.places.invariant.sheets, c.places-test.true))
    (omega (arith, c.places-test.true)) in
    let paths : drop (place - 1) c.args.paths.now ≡ path ∷ drop place c.args.paths.now =
    drop_from c.args.paths.now (place - 1) place path c.index-paths-place.is
    (omega (arith, c.places.invariant.paths, c.places-test.true))
    (omega (arith, c.places-test.true)) in
    record {
      sheets = omega (arith, c.places.invariant.sheets);
      paths = omega (arith, c.places.invariant.paths);
      found = λ name.
          rw (sheets, paths) (first_further name sheet (drop place c.args.sheets.now) path
          (drop place c.args.paths.now) (path_lent (get_by_text c.places.firsts name))
          (path_lent (get_by_text c.put.new.paths name)) c.as_str-name.result.now
          (path_kept path) (c.places.invariant.found name)
          (c.as_str-name.ensures.value
          ∙ ap (λ (own : Sheet). string_bytes own.name) (sym c.index-sheets-place.is))
          refl
          (c.in_ok-put.ensures name));
    }
