-- The workbook file that is made of a sheet that was read, and when none is.
use Rattle.std.proofs.Common.{◌≡◌, ◌∙◌, ℕ, zero, suc, ◌<◌, ◌≤◌, ◌^◌, List, [], ◌∷◌, length, Bool}
use Rattle.std.proofs.Common.{true, false, refl, ap, arith, inl, inr, subst}
use Rattle.std.specs.Prelude.{◌⊎◌, not, nat_le, nat_lt, Result, Ok, Err, IfOk, IfErr, Vec, String}
use Rattle.std.specs.List.{All, list_all}
use Rattle.std.specs.Str.{IsUtf8}
use Rattle.std.specs.declared.alloc.Global.{Global}
use Rattle.std.proofs.lemmas.Bool.{and_parts, and_from, and_right, ltb-true, le-leb, lt-leb}
use Rattle.std.proofs.lemmas.Bool.{leb-true, false_from_ne_true}
use Rattle.cell_data.specs.Words.{value_pairs, formula_pairs}
use Rattle.cell_data.specs.declared.range.Range.{Range}
use Rattle.cell_data.specs.declared.value.Data.{Data}
use Rattle.cell_styles.specs.Words.{StyleMap}
use Rattle.part_events.specs.Words.{Part}
use Rattle.zip_writer.specs.Written as archive
use Rattle.zip_writer.specs.Written.{File}
use Rattle.package_file.specs.PackageFile.{package_file, part_files, longest_file}
use Rattle.xlsx_error.specs.declared.error.XlsxError.{XlsxError}
use Rattle.xlsx_core.specs.Words.{ReadsAs}
use Rattle.xlsx_writer.specs.Words.{PlacedFormulas, IsWritable, has_zero_left, PlacedValues}
use Rattle.xlsx_writer.specs.WrittenSheet.{written_parts}
use Rattle.xlsx_writer.specs.declared.form.WrittenForm.TheVariants.{WorkbookFile}
use Rattle.xlsx_commands.specs.Outputs.{FileFails}
use Rattle.xlsx_commands.specs.ResavedFile.{IsResavedFile, HasNoFile, MakingFails, fits_file}
use Rattle.xlsx_commands.specs.ResavedFile.{HaveNoArchive, sheet_file}
use Rattle.xlsx_commands.proofs.PlainSheets.{sheet_parts_plain}
use Rattle.xlsx_commands.specs.declared.error.ToolError.{ToolError}
use Rattle.xlsx_commands.specs.declared.error.ToolError.TheVariants as tool

-- ---- files that can be written

-- the name of a file is one that an archive can have
abbrev is_short : File → Bool
is_short file = nat_lt (length file.name) 65536

each_short : (files : List File) → list_all is_short files ≡ true
    → All (λ (file : File). length file.name < 2 ^ 16) files
each_short [] all k d below = absurd (omega arith)
each_short (file ∷ files) all zero d below = ltb-true _ 65536 (and_parts _ _ all).0
each_short (file ∷ files) all (suc k) d below =
    each_short files (and_parts _ _ all).1 k d (omega arith)

-- what is known of the files of a sheet
names_tell : (name : List ℕ) (values : PlacedValues) (formulas : PlacedFormulas)
    → (list_all is_short (part_files (written_parts WorkbookFile name values formulas)) ≡ true)
    × (length (part_files (written_parts WorkbookFile name values formulas)) ≡ 6)
unfolding written_parts
names_tell name values formulas = (refl, refl)

-- where an archive can't have the files of a sheet, they are too long
too_long : (name : List ℕ) (values : PlacedValues) (formulas : PlacedFormulas)
    → (¬ archive.IsWritableArchive (part_files (written_parts WorkbookFile name values formulas)))
    → nat_le (length (sheet_file name values formulas)) longest_file ≡ false
too_long name values formulas none =
    let tell = names_tell name values formulas in
    false_from_ne_true _ (λ fits. none (record {
      names = each_short (part_files (written_parts WorkbookFile name values formulas)) tell.0;
      count = omega (arith, tell.1);
      size = omega (arith, leb-true _ _ fits);
    }))

-- ---- what is made

module _ (parts : List Part) (name : List ℕ) (values : Range Data)
    (formulas : Range (String Global)) (styles : StyleMap)
    (reads : ReadsAs parts name (value_pairs values) (formula_pairs formulas) styles)
    (none_left : has_zero_left WorkbookFile name (value_pairs values) (formula_pairs formulas)
    ≡ false) (made : List Part)
    (written : made ≡ written_parts WorkbookFile name (value_pairs values) (formula_pairs formulas))
  where
    -- a file that isn't too long
    pub file_made : IsWritable values formulas → IsUtf8 name
        → (result : Result (Vec ℕ Global) ToolError)
        → IfOk result (λ file. file.items ≡ package_file made)
        → IfOk result (λ file. length file.items ≤ longest_file)
        → IfOk result (λ output. IsResavedFile parts name output.items)
    file_made writable named (Ok file) is size =
        let saved = is ∙ ap package_file written in record {
          values = values;
          formulas = formulas;
          styles = styles;
          reads = reads;
          writable = writable;
          named = named;
          fits = and_from _ _ (ap not none_left) (le-leb _ _ (omega (
            arith,
            size,
            ap length
                saved,
          )));
          saved = saved;
        }
    file_made writable named (Err error) is size = tt

    no_fit : HaveNoArchive made ⊎ (longest_file < length (package_file made))
        → fits_file name (value_pairs values) (formula_pairs formulas) ≡ false
    no_fit (inl (inr none)) =
        absurd (subst (λ (own : List Part). ¬ archive.IsPlain (part_files own)) written none
        (sheet_parts_plain name (value_pairs values) (formula_pairs formulas)))
    no_fit (inl (inl none)) =
        and_right _ _ (too_long name (value_pairs values) (formula_pairs formulas)
        (subst (λ (own : List Part). ¬ archive.IsWritableArchive (part_files own)) written none))
    no_fit (inr long) =
        let size = ap (λ (own : List Part). length (package_file own)) written in
        and_right _ _
        (lt-leb (length (sheet_file name (value_pairs values) (formula_pairs formulas)))
        longest_file
        (omega (arith, long, size)))

    -- and one that is
    pub file_refused : (cause : XlsxError → Type 0) (result : Result (Vec ℕ Global) ToolError)
        → IfErr result (MakingFails made)
        → IfErr result (FileFails cause (HasNoFile parts name))
    file_refused cause (Ok file) fails = tt
    file_refused cause (Err tool.Unwritable) fails = record {
      values = value_pairs values;
      formulas = formula_pairs formulas;
      styles = styles;
      reads = reads;
      none = no_fit fails;
    }
    file_refused cause (Err tool.OutOfMemory) fails = tt
    file_refused cause (Err _) fails = absurd fails
