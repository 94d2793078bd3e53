-- The part of a name in a workbook file that is written of parts.
use Rattle.std.proofs.Common.{◌≡◌, ℕ, ◌+◌, ◌<◌, ◌≤◌, List, [], ◌∷◌, ◌++◌, length, get_or, map, suc}
use Rattle.std.proofs.Common.{subst, Ok, Some, None, refl, sym, ap, ◌∙◌, arith}
use Rattle.std.specs.Prelude.{slice_index_or}
use Rattle.std.specs.List.{All, flat_map}
use Rattle.std.specs.Option.{option_map_or}
use Rattle.std.proofs.lemmas.List.{get_or-map, length-map}
use Rattle.part_events.specs.Words.{Event, Part}
use Rattle.markup.specs.Words.{spelled, spelled_event, spelled_piece}
use Rattle.zip_writer.specs.Written.{File, written, entry, entries, IsWritableArchive}
use Rattle.zip_archive.specs.Words.{Entry, archive_of, ArchiveFile, member_names, no_entry, Member}
use Rattle.zip_archive.specs.Words.{part_entries, last_entry, opened}
use Rattle.zip_reads_back.specs.ReadArchive.{archive_of_files, entries_of, AreBytes, ArePartNames}
use Rattle.zip_reads_back.specs.ReadArchive.{no_file}
use Rattle.zip_reads_back.proofs.PartsRead.{members_of, members_there, IsFirst, IsLast, last_there}
use Rattle.workbook_file.specs.FileParts.{entry_events, file_parts, held_by, longest_part}
use Rattle.workbook_file.specs.FileParts.{part_named}
use Rattle.text_package.specs.PartText.{part_markup}
use Rattle.package_file.specs.PackageFile.{part_bytes, part_file, part_files, package_file}
use Rattle.xlsx_writer_as_markup.specs.WrittenPieces.{pieces_of, AreCutBack}

-- ---- bytes

-- events that are spelled are their pieces, spelled
pub spelled_as_pieces : (events : List Event) → part_bytes events ≡ spelled (pieces_of events)
spelled_as_pieces [] = refl
spelled_as_pieces (event ∷ events) =
    ap (λ (bytes : List ℕ). spelled_event event ++ bytes) (spelled_as_pieces events)

-- ---- names

names_of_members : (p : ℕ) (files : List File)
    → map (λ (m : Member). m.text) (members_of p files) ≡ map (λ (file : File). file.name) files
names_of_members p [] = refl
names_of_members p (file ∷ files) =
    ap (λ (names : List (List ℕ)). file.name ∷ names)
    (names_of_members (p + length (entry file)) files)

pub names_there : (files : List File) → ArePartNames files
    → member_names (entries_of 0 files) ≡ map (λ (file : File). file.name) files
names_there files are =
    ap (map (λ (m : Member). m.text)) (members_there 0 files are.texts are.own)
    ∙ names_of_members 0 files

-- the last entry of the name of a file is that of the file
last_of : (files : List File) (i : ℕ) → ArePartNames files → i < length files
    → last_entry None (part_entries (entries_of 0 files)) (get_or files i no_file).name
    ≡ Some (get_or (entries_of 0 files) i no_entry)
last_of files i are below =
    let first : IsFirst files i = λ k less same. are.apart k i no_file less below same in
    let last : IsLast files i =
    λ k more within same. are.apart i k no_file more within (sym same) in
    ap (λ (all : List Member). last_entry None all (get_or files i no_file).name)
    (members_there 0 files are.texts are.own)
    ∙ last_there None 0 files i below first last

-- ---- parts

-- what is known of the file of parts: its entries hold the files' bytes
pub record HoldsFiles (files : List File) : Type 0 where
  pub names : ArePartNames files
  pub held : (i : ℕ) → i < length files →
      opened longest_part (archive_of_files files) (written files)
      (get_or (entries_of 0 files) i no_entry)
      ≡ Ok (get_or files i no_file).bytes

-- the archive of files with its bytes
abbrev pub file_held : List File → ArchiveFile
file_held files = record { file = written files; archive = archive_of_files files }

-- parts that a name finds again are all there
each_named : (f : List ℕ → Part) (parts : List Part)
    → ((i : ℕ) (part : Part) → i < length parts → get_or parts i part ≡ part
    → f part.name ≡ part)
    → map f (map (λ (file : File). file.name) (part_files parts)) ≡ parts
each_named f [] each = refl
each_named f (part ∷ parts) each =
    let first = each 0 part (omega arith) refl in
    let rest = each_named f parts (λ i own below is. each (suc i) own (omega arith) is) in
    λ k. first k ∷ rest k

module _ (parts : List Part) (holds : HoldsFiles (part_files parts)) (cut : AreCutBack parts) where
  abbrev files : List File
  files = part_files parts

  -- the part of a name is the one that was written
  named_there : (i : ℕ) (part : Part) → i < length parts → get_or parts i part ≡ part
      → part_named (file_held files) part.name ≡ part
  named_there i part below own =
      let within : i < length files = omega (arith, length-map parts part_file) in
      let file : get_or files i no_file ≡ part_file part =
      get_or-map part_file parts i part no_file below ∙ ap part_file own in
      let last = ap (λ (f : File). last_entry None (part_entries (entries_of 0 files)) f.name)
      (sym file) ∙ last_of files i holds.names within in
      let bytes = holds.held i within ∙ ap (λ (f : File). Ok f.bytes) file in
      let events : part_markup (part_bytes part.events) ≡ part.events =
      ap part_markup (spelled_as_pieces part.events)
      ∙ subst (λ (p : Part). part_markup (spelled (pieces_of p.events)) ≡ p.events) own
      (cut i part below) in
      λ k. record {
        name = part.name;
        events = (ap (λ found. option_map_or (λ entry. entry_events (held_by (file_held files)
            entry)) found []) last
            ∙ ap entry_events bytes ∙ events) k;
      }

  pub parts_there : file_parts (file_held files) ≡ parts
  unfolding file_parts
  parts_there =
      ap (map (part_named (file_held files))) (names_there files holds.names)
      ∙ each_named (part_named (file_held files)) parts named_there
