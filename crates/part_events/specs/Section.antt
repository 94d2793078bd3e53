-- What stands inside an element, and which elements stand there. These read forward, with the
-- number of elements that are open inside the element.
use Rattle.std.specs.Prelude.{ℕ, zero, suc, List, [], ◌∷◌, length, Bool, true, false, if◌then◌else◌}
use Rattle.std.specs.Prelude.{Option, Some, None}
use Rattle.std.specs.List.{list_any}
use Rattle.std.specs.Str.{bytes_eq}
use Rattle.attr_text.specs.Words.{local_name_of}
use Rattle.part_events.specs.Event.{Tag, Event, start, end, leaf}

-- the events before the end that closes an element, where so many more are open in it, or all where
-- none closes it
abbrev pub content : ℕ → List Event → List Event
content inside [] = []
content inside (start tag ∷ events) = start tag ∷ content (suc inside) events
content zero (end name ∷ events) = []
content (suc inside) (end name ∷ events) = end name ∷ content inside events
content inside (leaf kind ∷ events) = leaf kind ∷ content inside events

-- one of these events is the end that closes an element, where so many more are open in it
abbrev pub is_closed : ℕ → List Event → Bool
is_closed inside [] = false
is_closed inside (start tag ∷ events) = is_closed (suc inside) events
is_closed zero (end name ∷ events) = true
is_closed (suc inside) (end name ∷ events) = is_closed inside events
is_closed inside (leaf kind ∷ events) = is_closed inside events

-- the events behind the end that closes an element, where so many more are open in it
abbrev pub behind : ℕ → List Event → List Event
behind inside [] = []
behind inside (start tag ∷ events) = behind (suc inside) events
behind zero (end name ∷ events) = events
behind (suc inside) (end name ∷ events) = behind inside events
behind inside (leaf kind ∷ events) = behind inside events

-- the local name of a start is one of these
abbrev pub is_named : List (List ℕ) → Tag → Bool
is_named names tag = list_any (bytes_eq (local_name_of tag.name)) names

-- a start of any name, where every start is wanted
abbrev pub is_any : Tag → Bool
is_any tag = true

-- the start of an element, and how many events of its list stand behind it
pub record PlacedTag : Type 0 where
  pub tag : Tag
  pub behind : ℕ

-- the starts that pass a test
abbrev pub starts_by : (Tag → Bool) → List Event → List PlacedTag
starts_by wanted [] = []
starts_by wanted (start tag ∷ events) =
    if wanted tag
    then record { tag = tag; behind = length events } ∷ starts_by wanted events
    else starts_by wanted events
starts_by wanted (end name ∷ events) = starts_by wanted events
starts_by wanted (leaf kind ∷ events) = starts_by wanted events

-- what stands behind the first start that passes a test
abbrev pub behind_start : (Tag → Bool) → List Event → Option (List Event)
behind_start wanted [] = None
behind_start wanted (start tag ∷ events) =
    if wanted tag then Some events else behind_start wanted events
behind_start wanted (end name ∷ events) = behind_start wanted events
behind_start wanted (leaf kind ∷ events) = behind_start wanted events

-- an element: its start, what stands between it and its match, and how many events of its list
-- stand behind its start
pub record Element : Type 0 where
  pub tag : Tag
  pub inside : List Event
  pub behind : ℕ

-- the element of a start and of what stands behind it
abbrev pub element_of : Tag → List Event → Element
element_of tag events = record { tag = tag; inside = content 0 events; behind = length events }

-- The outermost elements whose starts pass a test, where `open` elements are open since the start
-- of one of them.
abbrev pub outermost_from : (Tag → Bool) → ℕ → List Event → List Element
outermost_from wanted within [] = []
outermost_from wanted zero (start tag ∷ events) =
    if wanted tag
    then element_of tag events ∷ outermost_from wanted 1 events
    else outermost_from wanted 0 events
outermost_from wanted (suc within) (start tag ∷ events) =
    outermost_from wanted (suc (suc within)) events
outermost_from wanted zero (end name ∷ events) = outermost_from wanted 0 events
outermost_from wanted (suc within) (end name ∷ events) = outermost_from wanted within events
outermost_from wanted within (leaf kind ∷ events) = outermost_from wanted within events

-- the elements whose starts pass a test, and that lie in no other such element
abbrev pub outermost : (Tag → Bool) → List Event → List Element
outermost wanted events = outermost_from wanted 0 events

-- The outermost element that passes a test and that no end closes, where `within` elements are open
-- since the start of one of those that pass.
abbrev pub unclosed_from : (Tag → Bool) → ℕ → List Event → Option Element
unclosed_from wanted within [] = None
unclosed_from wanted zero (start tag ∷ events) =
    if wanted tag
    then (if is_closed 0 events then unclosed_from wanted 1 events else Some
    (element_of tag events))
    else unclosed_from wanted 0 events
unclosed_from wanted (suc within) (start tag ∷ events) =
    unclosed_from wanted (suc (suc within)) events
unclosed_from wanted zero (end name ∷ events) = unclosed_from wanted 0 events
unclosed_from wanted (suc within) (end name ∷ events) = unclosed_from wanted within events
unclosed_from wanted within (leaf kind ∷ events) = unclosed_from wanted within events

-- the outermost element that passes a test and in which the events end
abbrev pub unclosed : (Tag → Bool) → List Event → Option Element
unclosed wanted events = unclosed_from wanted 0 events

-- the elements that lie in no other
abbrev pub children : List Event → List Element
children inside = outermost is_any inside
