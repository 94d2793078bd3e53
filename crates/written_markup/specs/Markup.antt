-- Markup as events, and events put behind those of a package in memory.
use Rattle.std.specs.Prelude.{ℕ, List, [], ◌∷◌, ◌++◌, codes}
use Rattle.part_events.specs.Words.{Event, start, end, leaf, text, Part, Contents, closed}
use Rattle.part_events.specs.Words.{with_event}

-- an element: its start with the text of its attributes, what stands in it, and its end
abbrev pub element : List ℕ → List ℕ → List Event → List Event
element name attributes inside =
    start (record { name = name; attributes = attributes }) ∷ (inside ++ end name ∷ [])

-- an attribute as it is written, behind a space: its name, `=`, and its value in quotes
abbrev pub attribute : List ℕ → List ℕ → List ℕ
attribute name value = codes " " ++ (name ++ (codes "=\"" ++ (value ++ codes "\"")))

-- a text between two tags
abbrev pub words : List ℕ → List Event
words content = leaf (text content) ∷ []

-- a part of this name in which an element with these attributes is begun
abbrev pub opened_part : List ℕ → List ℕ → List ℕ → Part
opened_part name root attributes = record {
  name = name;
  events = start (record { name = root; attributes = attributes }) ∷ [];
}

-- a package in memory with events behind those of its last part
abbrev pub with_events : Contents → List Event → Contents
with_events held [] = held
with_events held (event ∷ events) =
    with_events (closed (with_event held.parts event) held.taken) events
