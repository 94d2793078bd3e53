-- An archive that is written, read from its end.
use Rattle.std.proofs.Common.{◌≡◌, ℕ, ◌+◌, ◌-◌, List, [], ◌∷◌, ◌++◌, length, take, true, false}
use Rattle.std.proofs.Common.{Some, Ok, refl, sym, ap, ap₂, ◌∙◌, arith, nat_lt, length-append}
use Rattle.std.proofs.Common.{append_assoc, length-drop, nat_le, drop, Bool, ◌==◌, ◌&&◌, ◌≤◌}
use Rattle.std.specs.Str.{bytes_eq}
use Rattle.std.proofs.lemmas.Bool.{and_from, cond-false, eq-eqb, le-leb, le-ltb, leb-true}
use Rattle.std.proofs.Math.Seq.{drop-append_seam}
use Rattle.std.proofs.lemmas.List.{drop-append-le, take-append-le}
use Rattle.inflate.specs.Bits.{number_spelled}
use Rattle.zip_writer.specs.Written.{File, entry, entries, directory, ending, written}
use Rattle.zip_writer.specs.Written.{IsWritableArchive, IsPlain, front, has_locator}
use Rattle.zip_writer.proofs.Lengths.{length-ending, length-written, length_both}
use Rattle.zip_archive.specs.Words.{is_end, is_wide, end_before, archive_at, archive_by}
use Rattle.zip_archive.specs.Words.{archive_with, compound_mark, entries_from, field_number}
use Rattle.zip_archive.specs.Ends.{last_end}
use Rattle.zip_archive.specs.Entries.{archive_of}
use Rattle.zip_archive.specs.Ends as ends
use Rattle.zip_archive.specs.declared.ends.Directory.{Directory}
use Rattle.zip_archive.proofs.LastEnds.{end_here}
use Rattle.zip_reads_back.specs.ReadArchive.{AreBytes, archive_of_files}
use Rattle.zip_reads_back.proofs.Directories.{directory_read}
use Rattle.zip_reads_back.proofs.Fitting.{fit_all}
use Rattle.zip_reads_back.proofs.Pieces.{end_tells, EndTells, field_behind}

abbrev pub last : List File → List ℕ
last files = ending (length files) (length (directory 0 files)) (length (entries files))

cut_at_end : (files : List File) → written files ≡ front files ++ last files
unfolding written
cut_at_end files = refl

pub cut_at_start : (files : List File) → written files ≡ entries files
    ++ (directory 0 files ++ last files)
cut_at_start files = cut_at_end files
    ∙ append_assoc (entries files) (directory 0 files) (last files)

-- an archive begins as no compound file does
no_compound : (files : List File) → bytes_eq (take 8 (written files)) compound_mark ≡ false
unfolding written entry ending
no_compound [] = refl
no_compound (file ∷ files) = refl

end_place : (files : List File) → length (written files) - 22 ≡ length (front files)
end_place files =
    omega (
      arith,
      ap length (cut_at_end files),
      length-append (front files) (last files),
      length-ending (length files) (length (directory 0 files)) (length (entries files)),
    )

end_long : (files : List File) → length (front files) + 22 ≡ length (written files)
end_long files =
    omega (
      arith,
      ap length (cut_at_end files),
      length-append (front files) (last files),
      length-ending (length files) (length (directory 0 files)) (length (entries files)),
    )

told : (files : List File) → IsWritableArchive files →
    EndTells (length (directory 0 files)) (length (entries files)) (last files)
told files is =
    let all = length-written files in
    let both = length_both 0 files in
    end_tells (length files) (length (directory 0 files)) (length (entries files))
    (omega (arith, is.size)) (omega (arith, is.size))

end_field : (files : List File) (n k : ℕ) →
    field_number n (length (front files) + k) (written files) ≡ field_number n k (last files)
end_field files n k =
    ap (field_number n (length (front files) + k)) (cut_at_end files)
    ∙ field_behind n k (front files) (last files)

end_mark : (files : List File) → field_number 4 (length (front files)) (written files)
    ≡ field_number 4 0 (last files)
end_mark files =
    ap (field_number 4 (length (front files))) (cut_at_end files)
    ∙ ap (λ bytes. number_spelled (take 4 bytes)) (drop-append_seam (front files) (last files))

-- the record of the end stands where it was written
end_is : (files : List File) → IsWritableArchive files →
    is_end (length (front files)) (written files) ≡ true
end_is files is =
    let long = end_long files in
    and_from _ _
    (and_from _ _ (le-leb (length (front files) + 22) (length (written files)) (omega arith))
    (eq-eqb _ _ (end_mark files ∙ (told files is).mark)))
    (le-leb _ _ (omega (arith, end_field files 2 20, (told files is).comment_length)))

last_end_there : (files : List File) → IsWritableArchive files →
    last_end (written files) ≡ Some (length (front files))
unfolding last_end
last_end_there files is =
    let long = end_long files in
    cond-false (nat_lt (length (written files)) 22) _ _
    (le-ltb (length (written files)) 22 (omega arith))
    ∙ ap (λ at. end_before 65536 at (written files)) (end_place files)
    ∙ end_here 65536 (length (front files)) (written files) (omega arith) (end_is files is)

-- what stands in front of the record of the end is read as it stands
mark_there : (bytes more : List ℕ) → 20 ≤ length bytes →
    field_number 4 (length bytes - 20) (bytes ++ more)
    ≡ number_spelled (take 4 (drop (length bytes - 20) bytes))
mark_there bytes more long =
    ap (λ xs. number_spelled (take 4 xs)) (drop-append-le (length bytes - 20) bytes more
    (omega arith))
    ∙ ap number_spelled (take-append-le 4 (drop (length bytes - 20) bytes) more
    (omega (arith, length-drop (length bytes - 20) bytes)))

-- without the mark of a locator, there are no records of 64 bits
narrow_by : (long : Bool) (bytes more : List ℕ) → nat_le 76 (length bytes) ≡ long →
    has_locator bytes ≡ false → is_wide (length bytes) (bytes ++ more) ≡ false
narrow_by false bytes more is plain =
    ap (λ b. b && field_number 4 (length bytes - 20) (bytes ++ more) == 0x07064b50
    && field_number 4 (length bytes - 76) (bytes ++ more) == 0x06064b50) is
narrow_by true bytes more is plain =
    let far : 76 ≤ length bytes = leb-true 76 (length bytes) is in
    let mark = number_spelled (take 4 (drop (length bytes - 20) bytes)) == 0x07064b50 in
    let near : nat_le 20 (length bytes) ≡ true = le-leb 20 (length bytes) (omega arith) in
    let none : mark ≡ false = sym (ap (λ b. b && mark) near) ∙ plain in
    let other = field_number 4 (length bytes - 76) (bytes ++ more) == 0x06064b50 in
    ap (λ n. nat_le 76 (length bytes) && n == 0x07064b50 && other)
    (mark_there bytes more (omega arith))
    ∙ ap (λ b. nat_le 76 (length bytes) && b && other) none
    ∙ ap (λ b. b && false && other) is

narrow_there : (files : List File) → IsPlain files →
    is_wide (length (front files)) (written files) ≡ false
narrow_there files plain =
    ap (is_wide (length (front files))) (cut_at_end files)
    ∙ narrow_by (nat_le 76 (length (front files))) (front files) (last files) refl plain

-- the directory, by the record of the end
directory_there : (files : List File) → IsWritableArchive files → IsPlain files →
    ends.directory_found (length (front files)) (written files)
    ≡ record {
      stop = length (front files);
      size = length (directory 0 files);
      offset = length (entries files);
    }
directory_there files is plain =
    let at = length (front files) in
    let narrow : is_wide at (written files) ≡ false = narrow_there files plain in
    let size = end_field files 4 12 ∙ (told files is).told_size in
    let offset = end_field files 4 16 ∙ (told files is).told_at in
    let made = λ (s o : ℕ). let d : Directory = record { stop = at; size = s; offset = o } in d in
    cond-false (is_wide at (written files)) _ _ narrow ∙ ap₂ made size offset

archive_there : (file : List ℕ) (stop size offset : ℕ) → size + offset ≡ stop →
    archive_at file (record { stop = stop; size = size; offset = offset })
    ≡ archive_with offset (entries_from (stop - offset + 1) 0 offset stop file)
archive_there file stop size offset is =
    let start : stop - size ≡ offset = omega arith in
    let none : offset - offset ≡ 0 = omega arith in
    let turns : size + 1 ≡ stop - offset + 1 = omega arith in
    cond-false (nat_lt stop (size + offset)) _ _ (le-ltb stop (size + offset) (omega arith))
    ∙ ap (λ p. archive_with p (entries_from (size + 1) (p - offset) p stop file)) start
    ∙ ap₂ (λ n b. archive_with offset (entries_from n b offset stop file)) turns none

-- what is written is the archive of the files
pub written_read : (files : List File) → IsWritableArchive files → IsPlain files → AreBytes files →
    archive_of (written files) ≡ Ok (archive_of_files files)
unfolding archive_of
written_read files is plain bytes =
    let both = length-append (entries files) (directory 0 files) in
    let stop = length (front files) in
    let start = length (entries files) in
    cond-false (bytes_eq (take 8 (written files)) compound_mark) _ _ (no_compound files)
    ∙ ap (archive_by (written files)) (last_end_there files is)
    ∙ ap (archive_at (written files)) (directory_there files is plain)
    ∙ archive_there (written files) stop (length (directory 0 files)) start (omega arith)
    ∙ ap (λ file. archive_with start (entries_from (stop - start + 1) 0 start stop file))
    (cut_at_start files)
    ∙ ap (archive_with start)
    (directory_read 0 files (entries files) (last files) stop (fit_all files is bytes) both)
