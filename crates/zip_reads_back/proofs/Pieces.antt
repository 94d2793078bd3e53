-- What is read in the pieces of an archive.
use Rattle.std.proofs.Common.{◌≡◌, ℕ, ◌+◌, ◌^◌, ◌<◌, List, ◌++◌, length, take, drop, refl, sym, ap}
use Rattle.std.proofs.Common.{◌∙◌, arith, append_assoc}
use Rattle.std.proofs.Math.Seq.{drop-append-add}
use Rattle.std.proofs.lemmas.List.{take_at, drop-drop, drop_at}
use Rattle.crc32.specs.Crc.{crc_of}
use Rattle.inflate.specs.Bits.{number_spelled}
use Rattle.zip_writer.specs.Written.{File, little, said, entry, header, ending, name_flags}
use Rattle.zip_archive.specs.Words.{bytes_from, field_number}
use Rattle.zip_reads_back.proofs.Fitting.{IsFit}

-- a field behind others is a field of what stands there
pub field_behind : (n k : ℕ) (front rest : List ℕ) →
    field_number n (length front + k) (front ++ rest) ≡ field_number n k rest
field_behind n k front rest = ap (λ bytes. number_spelled (take n bytes))
    (drop-append-add front rest k)

pub between_behind : (n k : ℕ) (front rest : List ℕ) →
    bytes_from n (length front + k) (front ++ rest) ≡ bytes_from n k rest
between_behind n k front rest = ap (take n) (drop-append-add front rest k)

pub number_two : (n : ℕ) → n < 2 ^ 16 → number_spelled (little 2 n) ≡ n
number_two n fits = omega arith

pub number_four : (n : ℕ) → n < 2 ^ 32 → number_spelled (little 4 n) ≡ n
number_four n fits = omega arith

-- what a header of the directory tells
pub record HeaderTells (at : ℕ) (file : File) (bytes : List ℕ) : Type 0 where
  pub mark : field_number 4 0 bytes ≡ 0x02014b50
  pub flags : field_number 2 8 bytes ≡ name_flags file.name
  pub method : field_number 2 10 bytes ≡ 0
  pub checksum : field_number 4 16 bytes ≡ crc_of file.bytes
  pub packed : field_number 4 20 bytes ≡ length file.bytes
  pub size : field_number 4 24 bytes ≡ length file.bytes
  pub name_length : field_number 2 28 bytes ≡ length file.name
  pub extra_length : field_number 2 30 bytes ≡ 0
  pub comment_length : field_number 2 32 bytes ≡ 0
  pub header : field_number 4 42 bytes ≡ at
  pub name : bytes_from (length file.name) 46 bytes ≡ file.name

pub header_tells : (at : ℕ) (file : File) (more : List ℕ) → IsFit at file →
    name_flags file.name < 2 ^ 16 → HeaderTells at file (header at file ++ more)
unfolding header said
header_tells at file more fit flags = record {
  mark = refl;
  flags = number_two (name_flags file.name) flags;
  method = refl;
  checksum = number_four (crc_of file.bytes) fit.checksum;
  packed = number_four (length file.bytes) fit.bytes;
  size = number_four (length file.bytes) fit.bytes;
  name_length = number_two (length file.name) fit.name;
  extra_length = refl;
  comment_length = refl;
  header = number_four at fit.place;
  name = take_at file.name more (length file.name) refl;
}

-- what an own header tells, and what stands behind it
pub record EntryTells (file : File) (bytes : List ℕ) : Type 0 where
  pub mark : field_number 4 0 bytes ≡ 0x04034b50
  pub name_length : field_number 2 26 bytes ≡ length file.name
  pub extra_length : field_number 2 28 bytes ≡ 0
  pub name : bytes_from (length file.name) 30 bytes ≡ file.name
  pub held : bytes_from (length file.bytes) (30 + length file.name) bytes ≡ file.bytes

pub entry_tells : (at : ℕ) (file : File) (more : List ℕ) → IsFit at file →
    EntryTells file (entry file ++ more)
unfolding entry said
entry_tells at file more fit =
    let apart = append_assoc file.name file.bytes more in
    let bytes = entry file ++ more in
    record {
      mark = refl;
      name_length = number_two (length file.name) fit.name;
      extra_length = refl;
      name = ap (take (length file.name)) apart
          ∙ take_at file.name (file.bytes ++ more) (length file.name) refl;
      held = ap (take (length file.bytes))
          (sym (drop-drop (length file.name) 30 bytes)
          ∙ ap (drop (length file.name)) apart
          ∙ drop_at file.name (file.bytes ++ more) (length file.name) refl)
          ∙ take_at file.bytes more (length file.bytes) refl;
    }

-- what the record of the end tells
pub record EndTells (size at : ℕ) (bytes : List ℕ) : Type 0 where
  pub mark : field_number 4 0 bytes ≡ 0x06054b50
  pub told_size : field_number 4 12 bytes ≡ size
  pub told_at : field_number 4 16 bytes ≡ at
  pub comment_length : field_number 2 20 bytes ≡ 0

pub end_tells : (count size at : ℕ) → size < 2 ^ 32 → at < 2 ^ 32 →
    EndTells size at (ending count size at)
unfolding ending
end_tells count size at small near = record {
  mark = refl;
  told_size = number_four size small;
  told_at = number_four at near;
  comment_length = refl;
}
