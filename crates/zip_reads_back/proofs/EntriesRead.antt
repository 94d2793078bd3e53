-- The entries of an archive that is written, opened.
use Rattle.std.proofs.Common.{◌≡◌, ℕ, ◌+◌, ◌/◌, ◌%◌, ◌<◌, ◌≤◌, ◌==◌, List, [], ◌∷◌, ◌++◌, length}
use Rattle.std.proofs.Common.{take, drop, true, false, ◌||◌, min, Ok, refl, sym, ap, ◌∙◌, arith}
use Rattle.std.proofs.Common.{nat_lt, ◌⊎◌, inl, inr, length-append, append_assoc, zero, suc, subst}
use Rattle.std.proofs.Common.{get_or}
use Rattle.std.specs.Str.{bytes_eq}
use Rattle.std.proofs.lemmas.Bool.{and_from, cond-true, cond-false, eq-eqb, le-leb, le-ltb, lt-ltb}
use Rattle.std.proofs.lemmas.List.{take-append-drop, drop_more}
use Rattle.std.proofs.lemmas.Slice.Eq.{bytes_eq-Decides}
use Rattle.std.proofs.Math.Seq.{drop-append_seam}
use Rattle.crc32.specs.Crc.{crc_of}
use Rattle.inflate.specs.Bits.{number_spelled}
use Rattle.zip_writer.specs.Written.{File, directory, entry, entries, IsWritableArchive, name_flags}
use Rattle.zip_writer.specs.Written.{written}
use Rattle.zip_writer.proofs.Lengths.{length-entry}
use Rattle.zip_archive.specs.Words.{bytes_from, no_entry, checked, data_place, has_header}
use Rattle.zip_archive.specs.Words.{data_held, next_place, opened, unpacked}
use Rattle.zip_archive.proofs.OpenedSteps.{opened_held}
use Rattle.zip_reads_back.specs.ReadArchive.{AreBytes, archive_of_files, entries_of, entry_of}
use Rattle.zip_reads_back.specs.ReadArchive.{no_file}
use Rattle.zip_reads_back.proofs.ArchiveRead.{cut_at_start, last}
use Rattle.zip_reads_back.proofs.Fitting.{AreFit, IsFit, fit_all, flags_within}
use Rattle.zip_reads_back.proofs.Pieces.{EntryTells, entry_tells, field_behind, between_behind}

entries-append : (front more : List File) → entries (front ++ more) ≡ entries front ++ entries more
entries-append [] more = refl
entries-append (file ∷ front) more =
    ap (λ bytes. entry file ++ bytes) (entries-append front more)
    ∙ sym (append_assoc (entry file) (entries front) (entries more))

-- a file's numbers fit among those of others
fit_at : (p : ℕ) (front after : List File) (file : File) → AreFit p (front ++ file ∷ after) →
    IsFit (p + length (entries front)) file
fit_at p [] after file fit =
    let none : p ≡ p + 0 = omega arith in subst (λ (n : ℕ). IsFit n file) none fit.0
fit_at p (f ∷ front) after file fit =
    let same : p + length (entry f) + length (entries front)
    ≡ p + length (entry f ++ entries front) =
    omega (arith, length-append (entry f) (entries front)) in
    subst (λ (n : ℕ). IsFit n file) same (fit_at (p + length (entry f)) front after file fit.1)

least : (p n m : ℕ) → n ≡ m → p ≤ m → min p n ≡ p
least p n m is below = omega arith

-- the first place behind one that is behind none of the entries
next_after : (p at : ℕ) (files : List File) (start : ℕ) → at < p →
    start ≡ p + length (entries files) → next_place (entries_of p files) at start ≡ p
next_after p at [] start below is = omega arith
next_after p at (f ∷ files) start below is =
    let next = p + length (entry f) in
    let rest = next_after next at files start (omega arith)
    (omega (arith, length-append (entry f) (entries files))) in
    cond-true (nat_lt at p) _ _ (lt-ltb at p below)
    ∙ least p (next_place (entries_of next files) at start) next rest (omega arith)

shift : (p n : ℕ) → p + n ≡ p + 0 + n
shift p n = omega arith

-- the place behind an entry is that of its end
next_of : (p : ℕ) (front after : List File) (file : File) (start : ℕ) →
    start ≡ p + length (entries (front ++ file ∷ after)) →
    next_place (entries_of p (front ++ file ∷ after)) (p + length (entries front)) start
    ≡ p + length (entries front) + length (entry file)
next_of p [] after file start is =
    let next = p + length (entry file) in
    let long = length-entry file in
    cond-false (nat_lt (p + 0) p) _ _ (le-ltb (p + 0) p (omega arith))
    ∙ next_after next (p + 0) after start (omega arith)
    (omega (arith, length-append (entry file) (entries after)))
    ∙ shift p (length (entry file))
next_of p (f ∷ front) after file start is =
    let at = p + length (entry f ++ entries front) in
    let next = p + length (entry f) in
    let same : at ≡ next + length (entries front) =
    omega (arith, length-append (entry f) (entries front)) in
    cond-false (nat_lt at p) _ _ (le-ltb at p (omega arith))
    ∙ ap (λ n. next_place (entries_of next (front ++ file ∷ after)) n start) same
    ∙ next_of next front after file start
    (omega (arith, length-append (entry f) (entries (front ++ file ∷ after))))
    ∙ ap (λ n. n + length (entry file)) (sym same)

plain : (n : ℕ) → (n ≡ 0) ⊎ (n ≡ 2048) → (n % 2 == 1 || n / 64 % 2 == 1) ≡ false
plain n (inl is) = ap (λ m. (m % 2 == 1 || m / 64 % 2 == 1)) is
plain n (inr is) = ap (λ m. (m % 2 == 1 || m / 64 % 2 == 1)) is

unpatched : (n : ℕ) → (n ≡ 0) ⊎ (n ≡ 2048) → (n / 32 % 2 == 0) ≡ true
unpatched n (inl is) = ap (λ m. (m / 32 % 2 == 0)) is
unpatched n (inr is) = ap (λ m. (m / 32 % 2 == 0)) is

same_bytes : (bytes : List ℕ) → bytes_eq bytes bytes ≡ true
same_bytes bytes = (bytes_eq-Decides bytes bytes).1 refl

-- an entry's own header stands at its place
header_there : (file : File) (front more : List ℕ) (start : ℕ) →
    EntryTells file (entry file ++ more) →
    length front + length (entry file) ≤ start →
    has_header (entry_of (length front) file) start (front ++ (entry file ++ more)) ≡ true
header_there file front more start told within =
    let bytes = entry file ++ more in
    let at = length front in
    let long = length-entry file in
    and_from _ _
    (and_from _ _
    (and_from _ _ (le-leb (at + 30) start (omega arith))
    (eq-eqb _ _ (ap (λ b. number_spelled (take 4 b)) (drop-append_seam front bytes) ∙ told.mark)))
    (eq-eqb _ _ (field_behind 2 26 front bytes ∙ told.name_length)))
    (ap (λ b. bytes_eq b file.name)
    (between_behind (length file.name) 30 front bytes ∙ told.name)
    ∙ same_bytes file.name)

-- what an entry's data hold
held_there : (file : File) (front more : List ℕ) (stop : ℕ) → EntryTells file (entry file ++ more) →
    stop ≡ length front + length (entry file) →
    data_held (entry_of (length front) file) stop (front ++ (entry file ++ more)) ≡ Ok file.bytes
held_there file front more stop told is =
    let bytes = entry file ++ more in
    let all = front ++ bytes in
    let e = entry_of (length front) file in
    let n = length file.bytes in
    let place : data_place e all ≡ length front + (30 + length file.name) =
    omega (arith, field_behind 2 28 front bytes, told.extra_length) in
    let long = length-entry file in
    let data_is = ap (λ p. bytes_from n p all) place
    ∙ between_behind n (30 + length file.name) front bytes ∙ told.held in
    cond-false (nat_lt stop (data_place e all + n)) _ _
    (le-ltb stop (data_place e all + n) (omega arith))
    ∙ ap (λ b. checked e.checksum (unpacked 0 n b)) data_is
    ∙ ap (checked e.checksum) (cond-true (n == n) _ _ (eq-eqb n n refl))
    ∙ cond-true (crc_of file.bytes == crc_of file.bytes) _ _
    (eq-eqb (crc_of file.bytes) (crc_of file.bytes) refl)

next_at : (at : ℕ) (files : List File) (n start : ℕ) →
    next_place (entries_of 0 files) (0 + at) start ≡ 0 + at + n →
    next_place (entries_of 0 files) at start ≡ at + n
next_at at files n start is =
    let none : 0 + at ≡ at = omega arith in
    ap (λ m. next_place (entries_of 0 files) m start) (sym none) ∙ is ∙ ap (λ m. m + n) none

-- a file among others
pub file_opened : (limit : ℕ) (front after : List File) (file : File) →
    IsWritableArchive (front ++ file ∷ after) → AreBytes (front ++ file ∷ after) →
    length file.bytes ≤ limit →
    opened limit (archive_of_files (front ++ file ∷ after)) (written (front ++ file ∷ after))
    (entry_of (length (entries front)) file)
    ≡ Ok file.bytes
file_opened limit front after file is bytes small =
    let files = front ++ file ∷ after in
    let before = entries front in
    let e = entry_of (length before) file in
    let archive = archive_of_files files in
    let end = directory 0 files ++ last files in
    let more = entries after ++ end in
    let fit = fit_at 0 front after file (fit_all files is bytes) in
    let told = entry_tells 0 file more
    (let none : 0 + length before ≡ length before = omega arith in
    record {
      place = omega arith;
      name = fit.name;
      bytes = fit.bytes;
      checksum = fit.checksum;
    }) in
    let whole : written files ≡ before ++ (entry file ++ more) =
    cut_at_start files
    ∙ ap (λ b. b ++ end) (entries-append front (file ∷ after))
    ∙ append_assoc before (entry file ++ entries after) end
    ∙ ap (λ b. before ++ b) (append_assoc (entry file) (entries after) end) in
    let long : length (entries files)
    ≡ length before + (length (entry file) + length (entries after)) =
    omega (
      arith,
      ap length (entries-append front (file ∷ after)),
      length-append before (entry file ++ entries after),
      length-append (entry file) (entries after),
    ) in
    let next : next_place archive.entries (length before) archive.start
    ≡ length before + length (entry file) =
    next_at (length before) files (length (entry file)) archive.start
    (next_of 0 front after file archive.start (omega arith)) in
    ap (λ b. opened limit archive b e) whole
    ∙ opened_held limit archive (before ++ (entry file ++ more)) e
    (plain (name_flags file.name) (flags_within file.name))
    (and_from _ _ refl (unpatched (name_flags file.name) (flags_within file.name))) small
    (header_there file before more archive.start told (omega arith))
    ∙ ap (λ n. data_held e n (before ++ (entry file ++ more))) next
    ∙ held_there file before more (length before + length (entry file)) told refl

-- the entry at a place among the others
pub entry_among : (p : ℕ) (files : List File) (i : ℕ) → i < length files →
    get_or (entries_of p files) i no_entry
    ≡ entry_of (p + length (entries (take i files))) (get_or files i no_file)
entry_among p [] i below = absurd (omega arith)
entry_among p (file ∷ files) zero below =
    let none : p ≡ p + 0 = omega arith in ap (λ n. entry_of n file) none
entry_among p (file ∷ files) (suc i) below =
    let same : p + length (entry file) + length (entries (take i files))
    ≡ p + length (entry file ++ entries (take i files)) =
    omega (arith, length-append (entry file) (entries (take i files))) in
    entry_among (p + length (entry file)) files i (omega arith)
    ∙ ap (λ n. entry_of n (get_or files i no_file)) same

-- each file is held by its entry
pub files_opened : (files : List File) (i limit : ℕ) → IsWritableArchive files → AreBytes files →
    i < length files → length (get_or files i no_file).bytes ≤ limit →
    opened limit (archive_of_files files) (written files) (get_or (entries_of 0 files) i no_entry)
    ≡ Ok (get_or files i no_file).bytes
files_opened files i limit is bytes below small =
    let file = get_or files i no_file in
    let front = take i files in
    let split : files ≡ front ++ file ∷ drop (i + 1) files =
    sym (take-append-drop i files) ∙ ap (λ fs. front ++ fs) (drop_more files i no_file below) in
    let none : 0 + length (entries front) ≡ length (entries front) = omega arith in
    let entry_is = entry_among 0 files i below ∙ ap (λ n. entry_of n file) none in
    ap (opened limit (archive_of_files files) (written files)) entry_is
    ∙ ap
    (λ fs. opened limit (archive_of_files fs) (written fs)
    (entry_of (length (entries front)) file))
    split
    ∙ file_opened limit front (drop (i + 1) files) file (subst IsWritableArchive split is)
    (subst AreBytes split bytes) small
