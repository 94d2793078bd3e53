-- What is read of an archive that is written.
use Rattle.std.specs.Prelude.{◌≡◌, ℕ, ◌+◌, ◌<◌, List, [], ◌∷◌, length, true, false}
use Rattle.std.specs.List.{All, AllPairs}
use Rattle.std.specs.Str.{is_utf8}
use Rattle.crc32.specs.Crc.{crc_of}
use Rattle.part_events.specs.Words.{folded}
use Rattle.zip_writer.specs.Written.{File, entry, entries, name_flags}
use Rattle.zip_archive.specs.Words.{Archive, Entry, is_foreign}

-- the entry of a file whose own header stands at a place
abbrev pub entry_of : ℕ → File → Entry
entry_of at file = record {
  name = file.name;
  flags = name_flags file.name;
  method = 0;
  checksum = crc_of file.bytes;
  packed = length file.bytes;
  size = length file.bytes;
  header = at;
}

-- the entries of files, of which the first stands at a place
abbrev pub entries_of : ℕ → List File → List Entry
entries_of at [] = []
entries_of at (file ∷ files) = entry_of at file ∷ entries_of (at + length (entry file)) files

-- the archive that is read of files as they are written: an entry for each, and where the directory
-- starts
abbrev pub archive_of_files : List File → Archive
archive_of_files files = record { entries = entries_of 0 files; start = length (entries files) }

-- each byte of these files is below 256
abbrev pub AreBytes : List File → Type 0
AreBytes files = All (λ file. All (λ b. b < 256) file.bytes) files

-- names of parts, of which no two are one, and none is one that a Mac adds
pub record ArePartNames (files : List File) : Type 0 where
  pub texts : All (λ file. is_utf8 file.name ≡ true) files
  pub own : All (λ file. is_foreign (folded file.name) ≡ false) files
  pub apart : AllPairs (λ a b. folded a.name ≡ folded b.name → ⊥) files

-- a file without a name and without bytes
abbrev pub no_file : File
no_file = record { name = []; bytes = [] }
