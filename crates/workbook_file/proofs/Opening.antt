-- What a part is just behind its opening.
use Rattle.std.proofs.Common.{◌≡◌, ℕ, ◌<◌, List, [], length, false, Some, None, Result, Ok, Err}
use Rattle.std.proofs.Common.{refl, sym, ap, ◌∙◌, slice_get, get_or}
use Rattle.std.specs.Option.{option_map, option_and_then}
use Rattle.std.proofs.lemmas.List.{length-map, get_or-map}
use Rattle.std.proofs.lemmas.Option.{slice_get-get_or}
use Rattle.part_events.specs.Words.{Event, part_at, Part, part_of}
use Rattle.zip_archive.specs.Words.{Entry, ArchiveFile, member_names, no_entry, part_entry}
use Rattle.zip_archive.specs.declared.fault.EntryFault.{EntryFault}
use Rattle.workbook_file.specs.Contents.{just_opened, past_of}
use Rattle.workbook_file.specs.FileParts.{entry_events, file_parts, held_by, part_named}
use Rattle.workbook_file.specs.OpenEvents.{OpenEvents, rest_of}
use Rattle.workbook_file.proofs.NamedParts.{by_name}

pub opened_rest : (outcome : Result (List ℕ) EntryFault)
    → rest_of (just_opened outcome) ≡ entry_events outcome
opened_rest (Ok bytes) = refl
opened_rest (Err fault) = refl

-- nothing was taken
pub opened_past : (outcome : Result (List ℕ) EntryFault)
    → past_of (Some (just_opened outcome)) ≡ []
opened_past (Ok bytes) = refl
opened_past (Err fault) = refl

-- no event is at hand
pub opened_has : (outcome : Result (List ℕ) EntryFault)
    → (just_opened outcome).has_event ≡ false
opened_has (Ok bytes) = refl
opened_has (Err fault) = refl

-- what the entry that was found holds are the events of the part
pub opens_found : (held : ArchiveFile) (name : List ℕ) (place : ℕ) (part : OpenEvents) →
    let entries : List Entry = held.archive.entries in
    place < length entries
    → option_and_then (slice_get entries) (Some place) ≡ part_entry entries name
    → part ≡ just_opened (held_by held (get_or entries place no_entry))
    → part_of (file_parts held) name ≡ Some (rest_of part)
opens_found held name place part within found is =
    let entries : List Entry = held.archive.entries in
    let outcome = held_by held (get_or entries place no_entry) in
    by_name held name
    ∙ ap (option_map (λ entry. entry_events (held_by held entry)))
    (sym found ∙ slice_get-get_or entries place no_entry within)
    ∙ ap (λ (events : List Event). Some events) (sym (opened_rest outcome))
    ∙ ap (λ (p : OpenEvents). Some (rest_of p)) (sym is)

-- where no entry was found, the part is absent
pub opens_none : (held : ArchiveFile) (name : List ℕ) → None ≡ part_entry held.archive.entries name
    → part_of (file_parts held) name ≡ None
opens_none held name found =
    by_name held name
    ∙ ap (option_map (λ entry. entry_events (held_by held entry))) (sym found)

-- ---- parts by their places

pub parts_long : (held : ArchiveFile)
    → length (file_parts held) ≡ length (member_names held.archive.entries)
unfolding file_parts
parts_long held = length-map (member_names held.archive.entries) (part_named held)

pub name_there : (held : ArchiveFile) (place : ℕ)
    → place < length (member_names held.archive.entries)
    → get_or (member_names held.archive.entries) place []
    ≡ (part_at (file_parts held) place).name
unfolding file_parts
name_there held place within =
    sym (ap (λ (part : Part). part.name)
    (get_or-map (part_named held) (member_names held.archive.entries) place []
    (record { name = []; events = [] }) within))
