use Rattle.std.proofs.Common.{List, Global, ap, string_bytes, sym}
use Rattle.std.proofs.lemmas.Result.{err_from_is_err_and}
use Rattle.looks.proofs.Called.{then_refused, next_refused, next_said}
use Rattle.xlsx_pivots.specs.PivotErrors.{IsPivotsError}
use Rattle.xlsx_pivots.specs.PivotParts.{name_look}
use Rattle.xlsx_pivots.specs.PivotTables.{pivot_kept}
use Rattle.xlsx_pivots.specs.Pivots.{kept_at_look, named_look, pivot_with}
use Rattle.xlsx_pivots.specs.Targets.{definitions_look, records_look}
use Rattle.looks.proofs.Answered.{mapped_said, mapped_refused, refused_behind}
use Rattle.xlsx_pivots.proofs.pivots.pivot_at.Goals as goal

pub returns-in_err-name : goal.returns-in_err-name
returns-in_err-name g c =
    let sheet = c.args.sheet.now in
    let folder = c.args.folder.now in
    let path = c.args.path.now in
    let p = err_from_is_err_and c.from_residual.result c.from_residual.ensures.1 in
    record {
      answers =
          rw (p.1, p.2)
          (then_refused (name_look path) (named_look folder sheet path) pivot_kept (λ e is. is)
          c.in_err-name.ensures.answers);
    }

pub returns-in_err-definitions : goal.returns-in_err-definitions
returns-in_err-definitions g c =
    let sheet = c.args.sheet.now in
    let folder = c.args.folder.now in
    let path = c.args.path.now in
    let name = string_bytes c.in_ok-name.name in
    let p = err_from_is_err_and c.from_residual-in_err-definitions.result
    c.from_residual-in_err-definitions.ensures.1 in
    record {
      answers =
          rw (p.1, p.2)
          (next_refused {other = IsPivotsError} (name_look path) (named_look folder sheet path)
          pivot_kept (λ e is. is) c.in_ok-name.ensures.answers
          (then_refused (definitions_look path) (kept_at_look folder sheet name) pivot_kept
          (λ e is. is) c.in_err-definitions.ensures.answers));
    }

pub returns-in_err-records : goal.returns-in_err-records
returns-in_err-records g c =
    let sheet = c.args.sheet.now in
    let folder = c.args.folder.now in
    let path = c.args.path.now in
    let name = string_bytes c.in_ok-name.name in
    let definitions = string_bytes c.in_ok-definitions.definitions in
    let p = err_from_is_err_and c.from_residual-in_err-records.result
    c.from_residual-in_err-records.ensures.1 in
    record {
      answers =
          rw (p.1, p.2)
          (next_refused {other = IsPivotsError} (name_look path) (named_look folder sheet path)
          pivot_kept (λ e is. is) c.in_ok-name.ensures.answers
          (next_refused {other = IsPivotsError} (definitions_look path)
          (kept_at_look folder sheet name) pivot_kept (λ e is. is)
          c.in_ok-definitions.ensures.answers
          (mapped_refused (pivot_with sheet name definitions) (records_look folder definitions)
          pivot_kept (λ is. is) (rw c.as_str.ensures.value at c.in_err-records.ensures.answers))));
    }

pub returns-in_err-from_str : goal.returns-in_err-from_str
returns-in_err-from_str g c =
    let sheet = c.args.sheet.now in
    let folder = c.args.folder.now in
    let path = c.args.path.now in
    let name = string_bytes c.in_ok-name.name in
    let definitions = string_bytes c.in_ok-definitions.definitions in
    let p = err_from_is_err_and c.from_residual-in_err-from_str.result
    c.from_residual-in_err-from_str.ensures.1 in
    record {
      answers =
          rw (p.1, p.2)
          (next_refused {other = IsPivotsError} (name_look path) (named_look folder sheet path)
          pivot_kept (λ e is. is) c.in_ok-name.ensures.answers
          (next_refused {other = IsPivotsError} (definitions_look path)
          (kept_at_look folder sheet name) pivot_kept (λ e is. is)
          c.in_ok-definitions.ensures.answers
          (mapped_refused (pivot_with sheet name definitions) (records_look folder definitions)
          pivot_kept (λ is. is)
          (refused_behind (string_bytes {Z = Global}) tt
          (rw c.as_str.ensures.value at c.in_ok-records.ensures.answers)))));
    }

pub returns : goal.returns
returns g c =
    let sheet = c.args.sheet.now in
    let folder = c.args.folder.now in
    let path = c.args.path.now in
    let name = string_bytes c.in_ok-name.name in
    let definitions = string_bytes c.in_ok-definitions.definitions in
    let records = string_bytes c.in_ok-records.records in
    record {
      answers =
          next_said {other = IsPivotsError} (name_look path) (named_look folder sheet path)
          pivot_kept c.in_ok-name.ensures.answers
          (next_said {other = IsPivotsError} (definitions_look path)
          (kept_at_look folder sheet name) pivot_kept c.in_ok-definitions.ensures.answers
          (mapped_said (pivot_with sheet name definitions) (records_look folder definitions)
          pivot_kept
          (ap (λ (own : List _). pivot_with own name definitions records)
          (sym c.in_ok-from_str.ensures.ok))
          (rw c.as_str.ensures.value at c.in_ok-records.ensures.answers)));
    }
