use Rattle.std.proofs.Common.{◌≡◌, ℕ, List, [], Result, codes, map, refl, subst}
use Rattle.std.proofs.lemmas.Result.{err_from_is_err_and}
use Rattle.part_events.specs.Words.{PackageState}
use Rattle.xlsx_error.specs.declared.error.XlsxError.{XlsxError}
use Rattle.xlsx_sections.specs.Words.{Answers}
use Rattle.looks.specs.Words.{Look, look_ask, mapped}
use Rattle.looks.proofs.Answered.{mapped_refused, mapped_said}
use Rattle.looks.proofs.Called.{then_refused, next_refused, next_said}
use Rattle.xlsx_widths.specs.Widths.{BandSaid, IsWidthsError, RowsSaid, WidthsSaid, band_kept}
use Rattle.xlsx_widths.specs.Widths.{columns_kept, columns_look, row_start_kept, rows_look}
use Rattle.xlsx_widths.specs.Widths.{starts_look, widths_kept, widths_with}
use Rattle.xlsx_widths.specs.declared.band.Band.{Band}
use Rattle.xlsx_widths.proofs.widths.read_sheet_widths.Goals as goal

-- nothing was kept before
from_none : {A T : Type 0} {view : T → A} {result : Result T XlsxError} {old new : PackageState}
    (look : List BandSaid → Look A) (before : List Band) → before ≡ []
    → Answers (look_ask IsWidthsError (look (map band_kept before))) view result old new
    → Answers (look_ask IsWidthsError (look [])) view result old new
from_none {view = view} {result = result} {old = old} {new = new} look before none answers =
    subst (λ (bands : List Band). Answers (look_ask IsWidthsError (look (map band_kept bands))) view
    result old new) none answers

abbrev columns_behind : List ℕ → List BandSaid → Look (List BandSaid)
columns_behind path before = starts_look (codes "cols") (codes "col") columns_kept before path

abbrev rows_behind : List ℕ → List BandSaid → Look RowsSaid
rows_behind path before =
    starts_look (codes "sheetData") (codes "row") row_start_kept
    (record { next = 0; hidden = before }) path

abbrev rows_next : List ℕ → List BandSaid → Look WidthsSaid
rows_next path columns = mapped (widths_with columns) (rows_look path)

pub returns-in_err-keep_at : goal.returns-in_err-keep_at
returns-in_err-keep_at g c =
    let path = c.args.path.now in
    let p = err_from_is_err_and c.from_residual.result c.from_residual.ensures.1 in
    record {
      answers =
          rw (p.1, p.2)
          (then_refused (columns_look path) (rows_next path) widths_kept (λ e is. is)
          (from_none (columns_behind path) c.new-columns.result.items c.new-columns.ensures.items
          (c.in_err-keep_at.ensures.answers tt)));
    }

pub returns-in_err-keep_at-2 : goal.returns-in_err-keep_at-2
returns-in_err-keep_at-2 g c =
    let path = c.args.path.now in
    let own = map band_kept c.keep_at.new.keeper.columns.items in
    let p = err_from_is_err_and c.from_residual-in_err-keep_at-2.result
    c.from_residual-in_err-keep_at-2.ensures.1 in
    record {
      answers =
          rw (p.1, p.2)
          (next_refused (columns_look path) (rows_next path) widths_kept (λ e is. is)
          (from_none (columns_behind path) c.new-columns.result.items c.new-columns.ensures.items
          (c.in_ok-keep_at.ensures.answers tt))
          (mapped_refused (widths_with own) (rows_look path) widths_kept (λ is. is)
          (from_none (rows_behind path) c.new-hidden.result.items c.new-hidden.ensures.items
          (c.in_err-keep_at-2.ensures.answers tt))));
    }

pub returns : goal.returns
returns g c =
    let path = c.args.path.now in
    let own = map band_kept c.keep_at.new.keeper.columns.items in
    record {
      answers =
          next_said {other = IsWidthsError} (columns_look path) (rows_next path) widths_kept
          (from_none (columns_behind path) c.new-columns.result.items c.new-columns.ensures.items
          (c.in_ok-keep_at.ensures.answers tt))
          (mapped_said (widths_with own) (rows_look path) widths_kept refl
          (from_none (rows_behind path) c.new-hidden.result.items c.new-hidden.ensures.items
          (c.in_ok-keep_at-2.ensures.answers tt)));
    }
