-- A workbook file as a package of parts.
use Rattle.std.specs.Prelude.{◌≡◌, ℕ, List, [], take, reverse, Bool, true, false, Option, Some}
use Rattle.std.specs.Prelude.{None, Result, Ok, Err, length}
use Rattle.part_events.specs.Words.{Event, leaf, other, PackageState}
use Rattle.text_package.specs.PartText.{part_markup}
use Rattle.zip_archive.specs.Words.{archive_of, ArchiveFile}
use Rattle.zip_archive.specs.declared.fault.EntryFault.{EntryFault}
use Rattle.workbook_file.specs.FileParts.{file_parts, flaw_alone, flaw_of}
use Rattle.workbook_file.specs.OpenEvents.{OpenEvents, not_begun, rest_of, last_taken}

-- what a workbook file is: its archive, the part that is open, and how many events were taken of
-- any part
pub record FileContents : Type 0 where
  pub archive : ArchiveFile
  pub part : Option OpenEvents
  pub taken : ℕ

-- the events of the open part that were taken, the latest first
abbrev pub past_of : Option OpenEvents → List Event
past_of None = []
past_of (Some part) = reverse (take part.taken part.events)

-- the events of the open part to come
abbrev pub ahead_of : Option OpenEvents → List Event
ahead_of None = []
ahead_of (Some part) = rest_of part

-- the event of the open part that is at hand
abbrev pub current_of : Option OpenEvents → Event
current_of None = leaf other
current_of (Some part) = last_taken part

-- an event of the open part is at hand
abbrev pub has_current_of : Option OpenEvents → Bool
has_current_of None = false
has_current_of (Some part) = part.has_event

-- how many events the open part still gives, at most
abbrev pub left_at_most : Option OpenEvents → ℕ
left_at_most None = 0
left_at_most (Some part) = part.left

-- the state of the package of a workbook file, as its reader knows it; no call of it fails but for
-- want of memory
abbrev pub file_state : FileContents → PackageState
file_state held = record {
  is_visible = true;
  parts = file_parts held.archive;
  past = past_of held.part;
  rest = ahead_of held.part;
  current = current_of held.part;
  has_current = has_current_of held.part;
  left = left_at_most held.part;
  taken = held.taken;
  faults = 0;
  takes_memory = true;
}

-- a file just opened: it is this archive, no part is open, and no event was taken
pub record IsFresh (bytes : List ℕ) (held : FileContents) : Type 0 where
  pub archive : archive_of bytes ≡ Ok held.archive.archive
  pub file : held.archive.file ≡ bytes
  pub part : held.part ≡ None
  pub taken : held.taken ≡ 0

-- what an entry holds as a part that was just opened: it gives at most as many events as there are
-- bytes, and one where the entry can't be opened
abbrev pub just_opened : Result (List ℕ) EntryFault → OpenEvents
just_opened (Ok bytes) = not_begun (part_markup bytes) (length bytes)
just_opened (Err fault) = not_begun (flaw_alone (flaw_of fault)) 1
