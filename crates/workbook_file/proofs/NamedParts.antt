-- The part of a name is what the entry of that name holds.
use Rattle.std.proofs.Common.{◌≡◌, ℕ, List, [], ◌∷◌, map, Bool, true, false, Option, Some, None}
use Rattle.std.proofs.Common.{refl, sym, ap, ◌∙◌}
use Rattle.std.specs.Prelude.{if◌then◌else◌}
use Rattle.std.specs.Option.{option_map, option_and_then, option_map_or}
use Rattle.std.specs.Str.{bytes_eq}
use Rattle.std.proofs.lemmas.Slice.Eq.{bytes_eq-Decides}
use Rattle.part_events.specs.Words.{Event, folded, part_of}
use Rattle.zip_archive.specs.Words.{Entry, ArchiveFile, Member, first_same_name, last_entry}
use Rattle.zip_archive.specs.Words.{part_entries}
use Rattle.zip_archive.specs.Names.{part_entry}
use Rattle.workbook_file.specs.FileParts.{entry_events, file_parts, held_by, part_named}

-- ---- the first member of a name has a last one

-- a name has an entry
abbrev HasLast : Option Entry → List Member → List ℕ → Type 0
HasLast found ms text = (entry : Entry) × (last_entry found ms text ≡ Some entry)

stays_by : (is : Bool) (own found : Entry) (ms : List Member) (text : List ℕ)
    → ((entry : Entry) → HasLast (Some entry) ms text)
    → HasLast (if is then Some own else Some found) ms text
stays_by true own found ms text all = all own
stays_by false own found ms text all = all found

-- an entry that was found is not lost: another takes its place
found_stays : (ms : List Member) (text : List ℕ) (found : Entry) → HasLast (Some found) ms text
found_stays [] text found = (found, refl)
found_stays (m ∷ ms) text found =
    stays_by (bytes_eq m.text text) m.entry found ms text (λ entry. found_stays ms text entry)

first_by : (is : Bool) (m : Member) (ms : List Member) (found : Option Entry)
    (name text : List ℕ) → (if is then Some m.text else first_same_name ms name) ≡ Some text
    → ((before : Option Entry) → first_same_name ms name ≡ Some text → HasLast before ms text)
    → HasLast found (m ∷ ms) text
first_by true m ms found name text is more =
    let same : m.text ≡ text = cc in
    let last = found_stays ms text m.entry in (
      last.0,
      ap (λ (b : Bool). last_entry (if b then Some m.entry else found) ms text)
          ((bytes_eq-Decides m.text text).1 same)
          ∙ last.1,
    )
first_by false m ms found name text is more =
    more (if bytes_eq m.text text then Some m.entry else found) is

-- the first name that is the asked one has an entry
first_has_last : (ms : List Member) (found : Option Entry) (name text : List ℕ)
    → first_same_name ms name ≡ Some text → HasLast found ms text
first_has_last [] found name text is = absurd cc
first_has_last (m ∷ ms) found name text is =
    first_by (bytes_eq (folded m.text) (folded name)) m ms found name text is
    (λ before. first_has_last ms before name text)

-- ---- parts by their names

-- the events of the part of a name
abbrev events_named : ArchiveFile → List ℕ → List Event
events_named held text = (part_named held text).events

step_by : (is : Bool) (held : ArchiveFile) (own : List ℕ) (first : Option (List ℕ))
    (events : Option (List Event)) → events ≡ option_map (events_named held) first
    → (if is then Some (events_named held own) else events)
    ≡ option_map (events_named held) (if is then Some own else first)
step_by true held own first events is = refl
step_by false held own first events is = is

by_first : (held : ArchiveFile) (ms : List Member) (name : List ℕ)
    → part_of (map (part_named held) (map (λ (m : Member). m.text) ms)) name
    ≡ option_map (events_named held) (first_same_name ms name)
by_first held [] name = refl
by_first held (m ∷ ms) name =
    step_by (bytes_eq (folded m.text) (folded name)) held m.text (first_same_name ms name)
    (part_of (map (part_named held) (map (λ (m : Member). m.text) ms)) name)
    (by_first held ms name)

-- the events of what an entry of the file holds
abbrev events_held : ArchiveFile → Entry → List Event
events_held held entry = entry_events (held_by held entry)

by_last : (held : ArchiveFile) (name : List ℕ) (first : Option (List ℕ))
    → first_same_name (part_entries held.archive.entries) name ≡ first
    → option_map (events_named held) first
    ≡ option_map (events_held held)
    (option_and_then (λ text. last_entry None (part_entries held.archive.entries) text) first)
by_last held name None is = refl
by_last held name (Some text) is =
    let last = first_has_last (part_entries held.archive.entries) None name text is in
    ap (λ (found : Option Entry). Some (option_map_or (events_held held) found [])) last.1
    ∙ sym (ap (option_map (events_held held)) last.1)

pub by_name : (held : ArchiveFile) (name : List ℕ) → part_of (file_parts held) name
    ≡ option_map (λ entry. entry_events (held_by held entry))
    (part_entry held.archive.entries name)
unfolding file_parts part_entry
by_name held name =
    by_first held (part_entries held.archive.entries) name
    ∙ by_last held name (first_same_name (part_entries held.archive.entries) name) refl
