use Rattle.std.proofs.Common.{◌≡◌, [], ◌∷◌, map, rules, refl}
use Rattle.std.proofs.lemmas.List.{nil_from_length}
use Rattle.std.proofs.lemmas.Result.{err_from_is_err_and}
use Rattle.xlsx_parts.proofs.ManyRead.{leads_first, leads_on, leads_refused, leads_done}
use Rattle.xlsx_parts.proofs.ManyRead.{answers_all, answers_refused}
use Rattle.xlsx_pivots.specs.PivotTables.{pivots_kept, sheet_given}
use Rattle.xlsx_pivots.specs.Pivots.{pivots_ask, pivots_on_ask}
use Rattle.xlsx_pivots.proofs.pivots.find_pivot_tables.Goals as goal

pub sheets-init : goal.sheets-init
sheets-init g c =
    let ask = pivots_ask c.args.xl_path.now (map sheet_given c.args.sheets.now) in
    rw c.new-found.ensures (leads_first ask [] c.args.xml.now.source)

pub sheets-preserved : goal.sheets-preserved
sheets-preserved g c =
    let left : c.sheets.left.now ≡ c.in-Some.sheet.now ∷ c.in-Some.others.now = search rules in
    leads_on (pivots_on_ask c.args.xl_path.now) (sheet_given c.in-Some.sheet.now)
    (map sheet_given c.in-Some.others.now) (rw left at c.sheets.invariant)
    (rw (c.as_str.ensures.value, c.as_str-in-Some.ensures.value) at
    c.in_ok-read_sheet_pivots.ensures.answers)

pub returns : goal.returns
returns g c =
    let left = nil_from_length c.sheets.left.now c.in_default.ensures.cases in record {
      answers =
          answers_all pivots_kept c.sheets.found refl
          (leads_done (pivots_on_ask c.args.xl_path.now) (rw left at c.sheets.invariant));
    }

pub returns-in_err-read_sheet_pivots : goal.returns-in_err-read_sheet_pivots
returns-in_err-read_sheet_pivots g c =
    let sheet = c.in-Some.sheet.now in
    let others = c.in-Some.others.now in
    let left : c.sheets.left.now ≡ sheet ∷ others = search rules in
    let handed = err_from_is_err_and c.from_residual.result c.from_residual.ensures.1 in record {
      answers =
          rw (handed.1, handed.2)
          (answers_refused pivots_kept
          (leads_refused (pivots_on_ask c.args.xl_path.now) (sheet_given sheet)
          (map sheet_given others) [] (λ is. is) (rw left at c.sheets.invariant)
          (rw (c.as_str.ensures.value, c.as_str-in-Some.ensures.value) at
          c.in_err-read_sheet_pivots.ensures.answers)));
    }
