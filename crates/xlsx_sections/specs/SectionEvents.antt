-- How many events are taken where a section is read to its end and no further.
use Rattle.std.specs.Prelude.{◌≡◌, ℕ, suc, List, length, true, Result, OnOk}
use Rattle.std.specs.Option.{option_map_or}
use Rattle.part_events.specs.Words.{Event, Part, PackageState, CountsUp, part_of}
use Rattle.xlsx_sections.specs.PartSection.{PartSection, section_in, last_of}

-- how many events a part has up to the end of its first section of this name, with that end; all
-- where it has no such section
abbrev pub section_events : List ℕ → List Event → ℕ
section_events name events =
    option_map_or (λ (s : PartSection). suc (last_of s)) (section_in name events) (length events)

-- how many events the part at a path has up to the end of its first section of a name, none where
-- the part is absent
abbrev pub section_events_of : List ℕ → List Part → List ℕ → ℕ
section_events_of name parts path = option_map_or (section_events name) (part_of parts path) 0

-- a call that isn't refused took these events of the part at this path, and no others
abbrev pub ReadsToEnd :
    {A E : Type 0} → List ℕ → List ℕ → Result A E → PackageState → PackageState → Type 0
ReadsToEnd name path result old new =
    old.is_visible ≡ true →
    OnOk result (CountsUp (section_events_of name old.parts path) old.taken new.taken)
