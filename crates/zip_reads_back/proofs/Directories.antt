-- The directory of an archive that is written, header by header.
use Rattle.std.proofs.Common.{◌≡◌, ℕ, ◌+◌, ◌-◌, ◌^◌, ◌<◌, ◌≤◌, ◌==◌, List, [], ◌∷◌, ◌++◌, length}
use Rattle.std.proofs.Common.{take, true, Ok, refl, sym, ap, ap₂, ◌∙◌, arith, ◌⊎◌, inl, inr, nat_le}
use Rattle.std.proofs.Common.{length-append, append_assoc}
use Rattle.std.proofs.lemmas.Bool.{and_from, and_right, cond-false, eq-eqb, le-leb}
use Rattle.std.proofs.Math.Seq.{drop-append_seam}
use Rattle.inflate.specs.Bits.{number_spelled}
use Rattle.zip_writer.specs.Written.{File, entry, header, directory, name_flags}
use Rattle.zip_writer.proofs.Lengths.{length-header}
use Rattle.zip_archive.specs.Words.{Entry, entry_at, entry_with, entries_from, header_length}
use Rattle.zip_archive.specs.Words.{is_header, onto, wide_fields, is_widened, wide_field, wide_rest}
use Rattle.zip_archive.specs.Words.{bytes_from, field_number}
use Rattle.zip_archive.proofs.Headers.{entries_step, entries_end}
use Rattle.zip_reads_back.specs.ReadArchive.{entry_of, entries_of}
use Rattle.zip_reads_back.proofs.Fitting.{IsFit, AreFit, flags_within}
use Rattle.zip_reads_back.proofs.Pieces.{HeaderTells, header_tells, field_behind, between_behind}

flags_fit : (name : List ℕ) → (name_flags name ≡ 0) ⊎ (name_flags name ≡ 2048) →
    name_flags name < 2 ^ 16
flags_fit name (inl is) = omega arith
flags_fit name (inr is) = omega arith

-- no number is widened without wide fields
not_widened : (n : ℕ) → wide_field n [] ≡ n
not_widened n = cond-false (is_widened n []) _ _ (and_right (n == 0xFFFFFFFF) (nat_le 8 0) refl)

none_behind : (n : ℕ) → wide_rest n [] ≡ []
none_behind n = cond-false (is_widened n []) _ _ (and_right (n == 0xFFFFFFFF) (nat_le 8 0) refl)

-- entries are the same where their fields are
same_entry : (a b : Entry) → a.name ≡ b.name → a.flags ≡ b.flags → a.method ≡ b.method →
    a.checksum ≡ b.checksum → a.packed ≡ b.packed → a.size ≡ b.size → a.header ≡ b.header → a ≡ b
same_entry a b name flags method checksum packed size header =
    λ i. record {
      name = name i;
      flags = flags i;
      method = method i;
      checksum = checksum i;
      packed = packed i;
      size = size i;
      header = header i;
    }

-- the fields of a header behind other bytes
header_here : (at : ℕ) (file : File) (front more : List ℕ) (n : ℕ) →
    field_number n (length front) (front ++ (header at file ++ more))
    ≡ field_number n 0 (header at file ++ more)
header_here at file front more n =
    ap (λ bytes. number_spelled (take n bytes)) (drop-append_seam front (header at file ++ more))

tells : (at : ℕ) (file : File) (more : List ℕ) → IsFit at file →
    HeaderTells at file (header at file ++ more)
tells at file more fit = header_tells at file more fit
    (flags_fit file.name (flags_within file.name))

pub length_there : (at : ℕ) (file : File) (front more : List ℕ) → IsFit at file →
    header_length (length front) (front ++ (header at file ++ more)) ≡ 46 + length file.name
length_there at file front more fit =
    let bytes = header at file ++ more in
    let told = tells at file more fit in
    omega (
      arith,
      field_behind 2 28 front bytes,
      field_behind 2 30 front bytes,
      field_behind 2 32 front bytes,
      told.name_length,
      told.extra_length,
      told.comment_length,
    )

is_header_there : (at : ℕ) (file : File) (front more : List ℕ) (stop : ℕ) → IsFit at file →
    length front + length (header at file) ≤ stop →
    is_header (length front) stop (front ++ (header at file ++ more)) ≡ true
is_header_there at file front more stop fit within =
    let told = tells at file more fit in
    let long = length-header at file in
    and_from _ _
    (and_from _ _ (le-leb (length front + 46) stop (omega arith))
    (eq-eqb _ _ (header_here at file front more 4 ∙ told.mark)))
    (le-leb _ _ (omega (arith, length_there at file front more fit)))

-- the entry of a header
entry_there : (at : ℕ) (file : File) (front more : List ℕ) → IsFit at file →
    entry_at 0 (length front) (front ++ (header at file ++ more)) ≡ entry_of at file
entry_there at file front more fit =
    let bytes = header at file ++ more in
    let all = front ++ bytes in
    let told = tells at file more fit in
    let at_field = λ (n k : ℕ). field_behind n k front bytes in
    let wide : wide_fields (field_number 2 (length front + 30) all)
    (bytes_from (field_number 2 (length front + 30) all)
    (length front + 46 + field_number 2 (length front + 28) all) all) ≡ [] =
    ap (λ n. wide_fields n (bytes_from (field_number 2 (length front + 30) all)
    (length front + 46 + field_number 2 (length front + 28) all) all))
    (at_field 2 30 ∙ told.extra_length) in
    let name : bytes_from (field_number 2 (length front + 28) all) (length front + 46) all
    ≡ file.name =
    ap (λ n. bytes_from n (length front + 46) all) (at_field 2 28 ∙ told.name_length)
    ∙ between_behind (length file.name) 46 front bytes ∙ told.name in
    let place : wide_field (field_number 4 (length front + 42) all)
    (wide_rest (field_number 4 (length front + 20) all)
    (wide_rest (field_number 4 (length front + 24) all) []))
    ≡ at =
    ap
    (λ w. wide_field (field_number 4 (length front + 42) all)
    (wide_rest (field_number 4 (length front + 20) all)
    w))
    (none_behind (field_number 4 (length front + 24) all))
    ∙ ap (wide_field (field_number 4 (length front + 42) all))
    (none_behind (field_number 4 (length front + 20) all))
    ∙ not_widened (field_number 4 (length front + 42) all) ∙ at_field 4 42 ∙ told.header in
    let packed : wide_field (field_number 4 (length front + 20) all)
    (wide_rest (field_number 4 (length front + 24) all) [])
    ≡ length file.bytes =
    ap (wide_field (field_number 4 (length front + 20) all))
    (none_behind (field_number 4 (length front + 24) all))
    ∙ not_widened (field_number 4 (length front + 20) all) ∙ at_field 4 20 ∙ told.packed in
    let size : wide_field (field_number 4 (length front + 24) all) [] ≡ length file.bytes =
    not_widened (field_number 4 (length front + 24) all) ∙ at_field 4 24 ∙ told.size in
    let flags = at_field 2 8 ∙ told.flags in
    let method = at_field 2 10 ∙ told.method in
    let checksum = at_field 4 16 ∙ told.checksum in
    let before : 0 + wide_field (field_number 4 (length front + 42) all)
    (wide_rest (field_number 4 (length front + 20) all)
    (wide_rest (field_number 4 (length front + 24) all) []))
    ≡ at = omega (arith, place) in
    ap (entry_with 0 (length front) all) wide
    ∙ same_entry _ (entry_of at file) name flags method checksum packed size before

-- the entries of the rest of a directory
pub directory_read : (at : ℕ) (files : List File) (front more : List ℕ) (stop : ℕ) →
    AreFit at files → stop ≡ length front + length (directory at files) →
    entries_from (stop - length front + 1) 0 (length front) stop
    (front ++ (directory at files ++ more))
    ≡ Ok (entries_of at files)
directory_read at [] front more stop fit is =
    entries_end (stop - length front + 1) 0 (length front) stop (front ++ more) (omega arith)
    (omega arith)
directory_read at (file ∷ files) front more stop fit is =
    let next = at + length (entry file) in
    let head = header at file in
    let rest = directory next files ++ more in
    let long = length-header at file in
    let both = length-append head (directory next files) in
    let apart : front ++ ((head ++ directory next files) ++ more) ≡ front ++ (head ++ rest) =
    ap (λ bytes. front ++ bytes) (append_assoc head (directory next files) more) in
    let there : length front + header_length (length front) (front ++ (head ++ rest))
    ≡ length (front ++ head) =
    omega (arith, length_there at file front rest fit.0, length-append front head) in
    ap (entries_from (stop - length front + 1) 0 (length front) stop) apart
    ∙ entries_step 0 (length front) stop (front ++ (head ++ rest)) (omega arith)
    (is_header_there at file front rest stop fit.0 (omega arith))
    ∙ ap₂ onto (entry_there at file front rest fit.0)
    (ap (λ p. entries_from (stop - p + 1) 0 p stop (front ++ (head ++ rest))) there
    ∙ ap (entries_from (stop - length (front ++ head) + 1) 0 (length (front ++ head)) stop)
    (sym (append_assoc front head rest))
    ∙ directory_read next files (front ++ head) more stop fit.1
    (omega (arith, length-append front head)))
