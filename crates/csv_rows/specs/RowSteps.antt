-- The steps of writing the rows of a range: what a writer has written.
use Rattle.std.specs.Prelude.{◌≡◌, ℕ, ◌<◌, ◌-◌, ◌^◌, false, not, ◌&&◌, ◌||◌, ◌==◌, List, [], ◌∷◌}
use Rattle.std.specs.Prelude.{◌++◌, length, Vec}
use Rattle.std.specs.declared.alloc.Global.{Global}
use Rattle.csv.specs.Writing.{is_blank, row_body, row_text, writer_setup, fields_written}
use Rattle.csv.specs.Writing.{has_written, writer_under, writer_pending}
use Rattle.csv.specs.declared.writer.Writer.{Writer}
use Rattle.csv_rows.specs.RowsText.{writer_of}
use Rattle.csv_rows.specs.declared.options.CsvOptions.{CsvOptions}

-- all that a writer took, what it still holds back included
abbrev pub taken_text : Writer (Vec ℕ Global) → List ℕ
taken_text writer = (writer_under writer).items ++ writer_pending writer

-- the writer took this text, and then these fields of a record
pub record IsInRecord
    (options : CsvOptions) (before : List ℕ) (fields : List (List ℕ))
    (writer : Writer (Vec ℕ Global)) : Type 0 where
  pub setup : writer_setup writer ≡ writer_of options
  pub count : fields_written writer ≡ length fields
  pub taken : taken_text writer ≡ before ++ row_body (writer_of options) fields
  pub blank : is_blank (writer_of options) fields
      ≡ (not (has_written writer) && ((length fields == 0) || (length fields == 1)))

-- the writer took this text, and no record is begun
pub record IsBetweenRecords
    (options : CsvOptions) (taken : List ℕ) (writer : Writer (Vec ℕ Global)) : Type 0 where
  pub setup : writer_setup writer ≡ writer_of options
  pub count : fields_written writer ≡ 0
  pub shown : has_written writer ≡ false
  pub whole : taken_text writer ≡ taken

-- the writer takes one field more
abbrev pub TakesField :
    CsvOptions → List ℕ → Writer (Vec ℕ Global) → Writer (Vec ℕ Global) → Type 0
TakesField options field old new =
    (before : List ℕ) (fields : List (List ℕ)) → length fields < 2 ^ 64 - 1
    → IsInRecord options before fields old
    → IsInRecord options before (fields ++ field ∷ []) new

-- the writer takes one record more
abbrev pub WritesRecord :
    CsvOptions → List (List ℕ) → Writer (Vec ℕ Global) → Writer (Vec ℕ Global) → Type 0
WritesRecord options fields old new =
    (before : List ℕ) → IsBetweenRecords options before old
    → IsBetweenRecords options (before ++ row_text (writer_of options) fields) new
