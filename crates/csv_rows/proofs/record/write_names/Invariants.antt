use Rattle.std.proofs.Common.{ℕ, List, take}
use Rattle.csv_rows.specs.RowsText.{header_fields}
use Rattle.csv_rows.specs.RowSteps.{IsInRecord, IsBetweenRecords}
use Rattle.csv_rows.specs.declared.options.CsvOptions.{CsvOptions}
use Rattle.csv_rows.proofs.record.write_names.Given as goal

abbrev pub invariant-names : goal.invariant-names
invariant-names l =
    (options : CsvOptions) (before : List ℕ) → IsBetweenRecords options before l.fn.writer →
    IsInRecord options before (header_fields (take l.i l.names)) l.writer
