-- The merged cells of a sheet (ECMA-376 part 1, section 18.3.1.55).
use Rattle.std.specs.Prelude.{ℕ, List, [], ◌∷◌, Bool, if◌then◌else◌, codes, Option, Some, None}
use Rattle.std.specs.Prelude.{Result, Ok, Err, option_and_then}
use Rattle.attr_text.specs.Words.{value_of}
use Rattle.cell_refs.specs.Words.{area}
use Rattle.cell_refs.specs.declared.dimensions.Dimensions.{Dimensions}
use Rattle.part_events.specs.Words.{Tag, Event, Part, part_of, PlacedTag, starts_by, is_named}
use Rattle.xlsx_sections.specs.Words.{some_answers, PartSection, section_in, inside_of, has_end}
use Rattle.xlsx_sections.specs.Words.{named_by, Refusal}
use Rattle.xlsx_parts.specs.Words.{section_said_or, whole_said}

-- a start of the element `mergeCell`, an area of merged cells
abbrev pub is_merge : Tag → Bool
is_merge tag = is_named (codes "mergeCell" ∷ []) tag

-- the area of a start; one without `ref` is passed over
abbrev pub merge_of : PlacedTag → Result (Option Dimensions) Refusal
merge_of start = named_by area (value_of (codes "ref") start.tag.attributes)

-- the areas of the merged cells among these events, in order
abbrev pub merges_in : List Event → Result (List Dimensions) Refusal
merges_in events = some_answers merge_of (starts_by is_merge events)

-- the areas of the first `mergeCells` of a part, and none of a part without one
abbrev pub merges_of : List Event → Option (List Dimensions)
merges_of events = section_said_or [] (codes "mergeCells") merges_in events

-- the areas of the first `mergeCells` of the part at a path
abbrev pub merges_at : List Part → List ℕ → Option (List Dimensions)
merges_at parts path = option_and_then merges_of (part_of parts path)

-- the areas of merged cells of a whole part, wherever they stand in it
abbrev pub regions_of : List Event → Option (List Dimensions)
regions_of events = whole_said merges_in events

-- the regions of the part at a path
abbrev pub regions_at : List Part → List ℕ → Option (List Dimensions)
regions_at parts path = option_and_then regions_of (part_of parts path)

-- areas, or none where they are refused
abbrev pub or_none : {A : Type 0} → Result (List A) Refusal → List A
or_none (Ok areas) = areas
or_none (Err refusal) = []

-- What counts of a section for the call that takes a faulty one for none: all its areas where an
-- end closes it and none is refused.
abbrev pub merges_or_none : PartSection → List Dimensions
merges_or_none s = if has_end s then or_none (merges_in (inside_of s)) else []

-- the areas of a section, or where there is none what the whole part says
abbrev pub of_section : Option PartSection → Option (List Dimensions) → Option (List Dimensions)
of_section None whole = whole
of_section (Some s) whole = Some (merges_or_none s)

-- the merged cells of a part for the call that takes a faulty section for none; no answer where its
-- nesting breaks before the first section
abbrev pub merges_or_none_of : List Event → Option (List Dimensions)
merges_or_none_of events =
    of_section (section_in (codes "mergeCells") events) (section_said_or [] (codes "mergeCells")
    merges_in events)

-- the merged cells of the part at a path, none where they are refused
abbrev pub merges_or_none_at : List Part → List ℕ → Option (List Dimensions)
merges_or_none_at parts path = option_and_then merges_or_none_of (part_of parts path)
