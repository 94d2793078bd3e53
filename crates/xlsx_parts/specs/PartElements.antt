-- How the elements of a part are read one by one, up to the part's end.
use Rattle.std.specs.Prelude.{◌≡◌, ℕ, [], Bool, true, Option, Some, None}
use Rattle.part_events.specs.Words.{Tag, Reading, outermost, unclosed, section_ahead}
use Rattle.xlsx_sections.specs.Words.{StepsToElement}
use Rattle.xlsx_parts.specs.WholePart.{EndsPart}

-- the next wanted element, or the part's end, before which none is left, in none of which it lies
abbrev pub StepsToPartElement :
    (Tag → Bool) → Option ℕ → Reading → Reading → Reading → Type 0
StepsToPartElement wanted None first old new =
    first.source.is_visible ≡ true →
    EndsPart first new × (outermost wanted (section_ahead 0 old) ≡ [])
    × (unclosed wanted (section_ahead 0 old) ≡ None)
StepsToPartElement wanted (Some place) first old new =
    StepsToElement wanted 0 (Some place) first old new
