-- Nothing in the workbook file of a sheet looks like a locator of records of 64 bits.
use Rattle.std.proofs.Common.{◌≡◌, ℕ, ◌+◌, ◌-◌, List, [], ◌∷◌, ◌++◌, length, take, drop, get_or}
use Rattle.std.proofs.Common.{refl, sym, ap, ◌∙◌, arith, append_assoc, length-append, append-nil}
use Rattle.std.specs.Prelude.{codes}
use Rattle.std.proofs.lemmas.Bool.{and_right}
use Rattle.std.proofs.Math.Seq.{drop-append_seam}
use Rattle.zip_writer.specs.Written.{File, IsPlain, entries, entry, directory, front, header, four}
use Rattle.zip_writer.specs.Written.{two, said}
use Rattle.package_file.specs.PackageFile.{part_files}
use Rattle.xlsx_writer.specs.Words.{PlacedFormulas, PlacedValues}
use Rattle.xlsx_writer.specs.WrittenSheet.{written_parts}
use Rattle.xlsx_writer.specs.declared.form.WrittenForm.TheVariants.{WorkbookFile}

-- bytes end so
record EndIn (bytes tail : List ℕ) : Type 0 where
  front : List ℕ
  is : bytes ≡ front ++ tail

-- a header ends as its name does
header_ends : (at : ℕ) (file : File) (before tail : List ℕ) → file.name ≡ before ++ tail
    → EndIn (header at file) tail
unfolding header
header_ends at file before tail is =
    let whole = four 0x02014b50 ++ two 10 ++ said file ++ two 0 ++ two 0 ++ two 0 ++ four 0
    ++ four at in record {
      front = whole ++ before;
      is = ap (λ (name : List ℕ). whole ++ name) is ∙ sym (append_assoc whole before tail);
    }

-- and so does the directory of files of which it is the last
directory_ends : (at : ℕ) (files : List File) (last : File) (before tail : List ℕ)
    → last.name ≡ before ++ tail → EndIn (directory at (files ++ last ∷ [])) tail
directory_ends at [] last before tail is =
    let own = header_ends at last before tail is in
    record { front = own.front; is = append-nil (header at last) ∙ own.is }
directory_ends at (file ∷ files) last before tail is =
    let more = directory_ends (at + length (entry file)) files last before tail is in record {
      front = header at file ++ more.front;
      is = ap (λ (bytes : List ℕ). header at file ++ bytes) more.is
          ∙ sym (append_assoc (header at file) more.front tail);
    }

-- so what stands in front of the record of the end has the same 20 bytes there
front_ends : (files : List File) (tail : List ℕ) → length tail ≡ 20
    → EndIn (directory 0 files) tail → drop (length (front files) - 20) (front files) ≡ tail
front_ends files tail long ends =
    let before = entries files ++ ends.front in
    let whole : front files ≡ before ++ tail =
    ap (λ (bytes : List ℕ). entries files ++ bytes) ends.is
    ∙ sym (append_assoc (entries files) ends.front tail) in
    let at : length (front files) - 20 ≡ length before =
    omega (arith, ap length whole, length-append before tail, long) in
    (λ i. drop (at i) (whole i)) ∙ drop-append_seam before tail

pub sheet_parts_plain : (name : List ℕ) (values : PlacedValues) (formulas : PlacedFormulas)
    → IsPlain (part_files (written_parts WorkbookFile name values formulas))
unfolding written_parts
sheet_parts_plain name values formulas =
    let files = part_files (written_parts WorkbookFile name values formulas) in
    let none : File = record { name = []; bytes = [] } in
    let tail = codes "orksheets/sheet1.xml" in
    let ends = front_ends files tail refl
    (directory_ends 0 (take 5 files) (get_or files 5 none) (codes "xl/w") tail refl)
    in
    rw ends (and_right _ _ refl)
