-- Parts that are held as text, and a package of them.
use Rattle.std.specs.Prelude.{◌≡◌, ⊤, ℕ, ◌+◌, ◌-◌, ◌<◌, List, [], map, drop, length, Option, Some}
use Rattle.std.specs.Prelude.{None, slice_index_or, string_bytes, option_map, option_and_then}
use Rattle.std.specs.Str.{IsCharBoundary}
use Rattle.part_events.specs.Words.{Part, PackageState, folded, place_of, state_of, taken_of}
use Rattle.markup.specs.Words.{flaw_place}
use Rattle.part_events.specs.declared.memory.Place.{Place}
use Rattle.text_package.specs.PartText.{text_in, part_markup}
use Rattle.text_package.specs.Reading.{IsReadingPart, taken_in}
use Rattle.text_package.specs.declared.part.PartBytes.{PartBytes}
use Rattle.text_package.specs.declared.part.PartBytes.TheVariants.{Text, NoText}
use Rattle.text_package.specs.declared.package.TextPlace.{TextPlace}

-- the name of a part and its bytes
abbrev pub TextOfPart : Type 0
TextOfPart = List ℕ × List ℕ

-- the bytes of a part as they are held, as text or not
abbrev pub bytes_of : PartBytes → List ℕ
bytes_of (Text text mark) = string_bytes text
bytes_of (NoText bytes) = bytes.items

-- so many bytes of a byte order mark stand before the text that these bytes are
pub record IsMark (bytes : List ℕ) (mark : ℕ) : Type 0 where
  pub text : text_in bytes ≡ Some (drop mark bytes)
  pub fits : IsCharBoundary bytes mark

-- what is held is known to be a text, or to be none
abbrev pub IsKept : PartBytes → Type 0
IsKept (Text text mark) = IsMark (string_bytes text) mark
IsKept (NoText bytes) = text_in bytes.items ≡ None

-- a part as its reader sees it
abbrev pub part_seen : TextOfPart → Part
part_seen part = record { name = part.0; events = part_markup part.1 }

-- what a package holds: its parts, where reading stands, and how many events were taken of any part
pub record TextContents : Type 0 where
  pub parts : List TextOfPart
  pub place : Option Place
  pub taken : ℕ

-- the bytes of the part at a place; past the last one there are none
abbrev pub bytes_at : List TextOfPart → ℕ → List ℕ
bytes_at parts place = (slice_index_or parts place ([], [])).1

-- the bytes of the open part
abbrev pub open_bytes : List TextOfPart → Option Place → List ℕ
open_bytes parts None = []
open_bytes parts (Some place) = bytes_at parts place.part

-- What it is to its reader: as a package in memory of the events of its parts, but that the open
-- part still gives at most as many events as it has bytes, less those that were taken.
abbrev pub texts_state : TextContents → PackageState
texts_state held =
    let told = state_of (record {
      parts = map part_seen held.parts;
      place = held.place;
      taken = held.taken;
    }) in
    record told { left = length (open_bytes held.parts held.place) - taken_of held.place }

-- a package of these parts, of which none is open
abbrev pub closed_texts : List TextOfPart → ℕ → TextContents
closed_texts parts taken = record { parts = parts; place = None; taken = taken }

-- a place by how many events were taken there
abbrev pub place_seen : List TextOfPart → TextPlace → Place
place_seen parts place = record {
  part = place.part;
  next = taken_in (length (bytes_at parts place.part)) place.reading;
  has_event = place.reading.has_event;
}

-- reading stands in the open part, if there is one
abbrev pub IsTextPlace : List TextOfPart → Option TextPlace → Type 0
IsTextPlace parts None = ⊤
IsTextPlace parts (Some place) = (place.part < length parts)
    × IsReadingPart (text_in (bytes_at parts place.part)) (length (bytes_at parts place.part))
    place.reading

-- ---- flaws

-- where the flaw stands in the bytes of a part, by the text that they are, if they have one: at the
-- first of them where they are no text
abbrev pub flaw_in : List ℕ → Option (List ℕ) → Option ℕ
flaw_in bytes None = Some 0
flaw_in bytes (Some text) =
    option_map (λ place. (length bytes - length text) + place) (flaw_place text)

-- where the flaw stands in the bytes of a part, if they have one
abbrev pub part_flaw : List ℕ → Option ℕ
part_flaw bytes = flaw_in bytes (text_in bytes)

-- where the flaw stands in the bytes of the first part of a name, if they have one
abbrev pub named_flaw : List TextOfPart → List ℕ → Option ℕ
named_flaw parts name =
    option_and_then (λ place. part_flaw (bytes_at parts place))
    (place_of (map part_seen parts) (folded name))
