-- A field more and the end of a record, by what the writer says of its calls.
use Rattle.std.proofs.Common.{◌≡◌, ◌≢◌, ◌==◌, ◌||◌, ◌&&◌, ◌∙◌, ◌++◌, ◌∷◌, [], ℕ, ◌+◌, ◌-◌, ◌^◌}
use Rattle.std.proofs.Common.{List, true, false, length, Some, refl, sym, ap, subst, arith}
use Rattle.std.proofs.Common.{append_assoc, length-append}
use Rattle.std.specs.Prelude.{Vec, min, not}
use Rattle.std.specs.Io.KnownBytes.{Appends}
use Rattle.std.specs.declared.alloc.Global.{Global}
use Rattle.std.proofs.lemmas.List.{append-nil}
use Rattle.csv.proofs.WriteFacts.{row-more, blank-more}
use Rattle.csv.specs.Writing.{field_text, next_sep, is_blank, row_body, writer_setup}
use Rattle.csv.specs.Writing.{fields_written, has_written}
use Rattle.csv.specs.declared.writer.QuoteStyle.TheVariants as style
use Rattle.csv.specs.declared.writer.Writer.{Writer}
use Rattle.csv_rows.specs.RowsText.{writer_of}
use Rattle.csv_rows.specs.declared.options.CsvOptions.{CsvOptions}
use Rattle.csv_rows.specs.RowSteps.{taken_text, IsInRecord, IsBetweenRecords, TakesField}

-- no field of a record is written yet
pub record_begun : (options : CsvOptions) (before : List ℕ) (writer : Writer (Vec ℕ Global)) →
    IsBetweenRecords options before writer → IsInRecord options before [] writer
unfolding is_blank
record_begun options before writer between = record {
  setup = between.setup;
  count = between.count;
  taken = between.whole ∙ sym (append-nil before);
  blank = rw between.shown refl;
}

-- fields have quotes where they need them
is_plain : (options : CsvOptions) → (writer_of options).style ≢ style.NonNumeric
is_plain options = λ e. cc e

module _ (old new : Writer (Vec ℕ Global)) where
  pub field_taken : (options : CsvOptions) (field : List ℕ) →
      ((writer_setup old).style ≢ style.NonNumeric → Appends (Some (taken_text old))
      (Some (taken_text new))
      (next_sep (writer_setup old) (fields_written old) ++ field_text (writer_setup old) field)) →
      writer_setup new ≡ writer_setup old →
      fields_written new ≡ min (fields_written old + 1) (2 ^ 64 - 1) →
      (has_written old ≡ false → (writer_setup old).style ≢ style.NonNumeric →
      has_written new ≡ not (length (field_text (writer_setup old) field) == 0)) →
      (has_written old ≡ true → has_written new ≡ true) → TakesField options field old new
  field_taken options field text same count shown stays before fields fits inside =
      let plain : (writer_setup old).style ≢ style.NonNumeric =
      rw inside.setup (is_plain options) in
      let more : taken_text new ≡ taken_text old
      ++ (next_sep (writer_of options) (length fields) ++ field_text (writer_of options) field) =
      rw (inside.setup, inside.count) at (text plain) in
      let size : length fields + 1 ≡ length (fields ++ field ∷ []) =
      omega (arith, length-append fields (field ∷ [])) in
      let blank = blank-more (writer_of options) fields field (has_written old) (has_written new)
      inside.blank (λ none. rw inside.setup at (shown none plain)) stays in
      record {
        setup = same ∙ inside.setup;
        count = count ∙ (rw inside.count (omega (arith, fits, length-append fields (field ∷ []))));
        taken = more
            ∙ (ap (λ t. t ++ (next_sep (writer_of options) (length fields)
            ++ field_text (writer_of options) field)) inside.taken
            ∙ (append_assoc before (row_body (writer_of options) fields) _
            ∙ ap (λ t. before ++ t) (sym (row-more (writer_of options) fields field))));
        blank = subst (λ n. is_blank (writer_of options) (fields ++ field ∷ [])
            ≡ (not (has_written new) && ((n == 0) || (n == 1)))) size blank;
      }
