-- How the items of a field are taken event by event.
use Rattle.std.specs.Prelude.{ℕ, suc, ◌-◌, ◌<◌, ◌≤◌, List, [], Result, Ok}
use Rattle.part_events.specs.Words.{Event, start, end, leaf, content, outermost_from, is_any}
use Rattle.cell_data.specs.Words.{CellValue}
use Rattle.xlsx_sections.specs.Words.{some_answers, Refusal}
use Rattle.xlsx_pivot_cache.specs.CacheFields.{item_among, items_in}
use Rattle.xlsx_pivot_cache.specs.declared.contents.ItemsPlace.{ItemsPlace}
use Rattle.xlsx_pivot_cache.specs.declared.contents.ItemsPlace.TheVariants.{Before, Within, Behind}

-- the items that are left where so many elements are open in `sharedItems`
abbrev pub cache_items_behind : ℕ → List Event → Result (List CellValue) Refusal
cache_items_behind within events =
    some_answers item_among (outermost_from is_any within (content within events))

-- the items that these events give from a place on, where so many elements are open
abbrev pub items_from_place : ItemsPlace → ℕ → List Event → Result (List CellValue) Refusal
items_from_place Before depth events = items_in events
items_from_place (Within base) depth events = cache_items_behind (depth - base) events
items_from_place Behind depth events = Ok []

-- an element that the place stands in is open
abbrev pub LiesWithin : ItemsPlace → ℕ → Type 0
LiesWithin Before depth = Unit {0}
LiesWithin (Within base) depth = base ≤ depth
LiesWithin Behind depth = Unit {0}

-- how many elements were open before an event, behind which so many are
abbrev pub depth_before : Event → ℕ → ℕ
depth_before (start tag) depth = depth - 1
depth_before (end name) depth = suc depth
depth_before (leaf kind) depth = depth

-- the element of a start is open behind it
abbrev pub IsOpened : Event → ℕ → Type 0
IsOpened (start tag) depth = 0 < depth
IsOpened (end name) depth = Unit {0}
IsOpened (leaf kind) depth = Unit {0}
