-- Files whose headers tell what they are.
use Rattle.std.proofs.Common.{◌≡◌, ℕ, ◌+◌, ◌^◌, ◌<◌, List, [], ◌∷◌, length, suc, arith, Bool, true}
use Rattle.std.proofs.Common.{false, if◌then◌else◌, nat_lt, ◌⊎◌, inl, inr, refl, length-append}
use Rattle.std.specs.List.{All, list_all}
use Rattle.crc32.specs.Crc.{crc_of}
use Rattle.zip_writer.specs.Written.{name_flags, File, entry, entries, IsWritableArchive}
use Rattle.zip_writer.proofs.Lengths.{length-entry, length-written, length_both}
use Rattle.zip_reads_back.specs.ReadArchive.{AreBytes}
use Rattle.zip_reads_back.proofs.Checksums.{crc_fits}

-- the numbers of a file's headers fit
pub record IsFit (at : ℕ) (file : File) : Type 0 where
  pub place : at < 2 ^ 32
  pub name : length file.name < 2 ^ 16
  pub bytes : length file.bytes < 2 ^ 32
  pub checksum : crc_of file.bytes < 2 ^ 32

-- the numbers of the headers of files fit, of which the first stands at a place
abbrev pub AreFit : ℕ → List File → Type 0
AreFit at [] = Unit {0}
AreFit at (file ∷ files) = IsFit at file × AreFit (at + length (entry file)) files

fit_from : (at : ℕ) (files : List File) → All (λ file. length file.name < 2 ^ 16) files →
    AreBytes files → at + length (entries files) < 2 ^ 32 → AreFit at files
fit_from at [] names bytes size = tt
fit_from at (file ∷ files) names bytes size =
    let long = length-entry file in
    let both = length-append (entry file) (entries files) in (
      record {
        place = omega arith;
        name = names 0 file (omega arith);
        bytes = omega arith;
        checksum = crc_fits file.bytes (bytes 0 file (omega arith));
      },
      fit_from (at + length (entry file)) files (λ k d h. names (suc k) d (omega arith))
          (λ k d h. bytes (suc k) d (omega arith)) (omega arith),
    )

pub fit_all : (files : List File) → IsWritableArchive files → AreBytes files → AreFit 0 files
fit_all files is bytes =
    fit_from 0 files is.names bytes
    (omega (arith, is.size, length-written files, length_both 0 files))

abbrev flags : Bool → ℕ
flags b = if b then 0 else 2048

flags_by : (b : Bool) → (flags b ≡ 0) ⊎ (flags b ≡ 2048)
flags_by true = inl refl
flags_by false = inr refl

-- the flags of a name are one of two
pub flags_within : (name : List ℕ) → (name_flags name ≡ 0) ⊎ (name_flags name ≡ 2048)
flags_within name = flags_by (list_all (λ b. nat_lt b 128) name)
