-- The parts of a workbook file: what its archive's entries hold, as events.
use Rattle.std.specs.Prelude.{ℕ, List, [], ◌∷◌, map, None, Result, Ok, Err}
use Rattle.std.specs.Option.{option_map_or}
use Rattle.part_events.specs.Words.{Event, leaf, flaw, Part}
use Rattle.part_events.specs.declared.flaw.Flaw.{Flaw}
use Rattle.part_events.specs.declared.flaw.Flaw.TheVariants as flaws
use Rattle.text_package.specs.PartText.{part_markup}
use Rattle.zip_archive.specs.Words.{Entry, ArchiveFile, member_names, part_entries, last_entry}
use Rattle.zip_archive.specs.Words.{opened}
use Rattle.zip_archive.specs.declared.fault.EntryFault.{EntryFault}
use Rattle.zip_archive.specs.declared.fault.EntryFault.TheVariants.{Checksum, Contents, Encrypted}
use Rattle.zip_archive.specs.declared.fault.EntryFault.TheVariants.{Header, Large, Method, Overlap}
use Rattle.zip_archive.specs.declared.fault.EntryFault.TheVariants.{Size}

-- the most bytes that a part unpacks to
abbrev pub longest_part : ℕ
longest_part = 1073741824

-- how a part tells why its entry can't be opened
abbrev pub flaw_of : EntryFault → Flaw
flaw_of Encrypted = flaws.Encrypted
flaw_of (Method method) = flaws.UnknownMethod
flaw_of (Large size) = flaws.TooLarge
flaw_of Header = flaws.Damaged
flaw_of Overlap = flaws.Damaged
flaw_of (Contents fault) = flaws.Damaged
flaw_of Size = flaws.WrongSize
flaw_of Checksum = flaws.WrongChecksum

-- the events of a part of which nothing can be read: a flaw alone
abbrev pub flaw_alone : Flaw → List Event
flaw_alone why = leaf (flaw why) ∷ []

-- the events of what an entry holds: a flaw alone where it can't be opened
abbrev pub entry_events : Result (List ℕ) EntryFault → List Event
entry_events (Ok bytes) = part_markup bytes
entry_events (Err fault) = flaw_alone (flaw_of fault)

-- what an entry of the file holds
abbrev pub held_by : ArchiveFile → Entry → Result (List ℕ) EntryFault
held_by held entry = opened longest_part held.archive held.file entry

-- the part of a name: the events of what the last entry of that very name holds
abbrev pub part_named : ArchiveFile → List ℕ → Part
part_named held name = record {
  name = name;
  events = option_map_or (λ entry. entry_events (held_by held entry))
      (last_entry None (part_entries held.archive.entries) name) [];
}

-- the parts of a file, in the order of its directory: of each entry that can be one the part of
-- its name
unfoldable pub file_parts : ArchiveFile → List Part
file_parts held = map (part_named held) (member_names held.archive.entries)
