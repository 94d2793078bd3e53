-- The name that the part of a pivot table says (ECMA-376 part 1, section 18.10.1.73).
use Rattle.std.specs.Prelude.{ℕ, List, [], ◌∷◌, length, Bool, codes, Option, None, Result}
use Rattle.part_events.specs.Words.{Tag, Event, PlacedTag, starts_by, is_named}
use Rattle.xlsx_sections.specs.Words.{all_changes, changed_by, name_by, Refusal, placed_at}
use Rattle.looks.specs.Words.{EventsAsk, Look, asks, in_first_element, needing, of_part}
use Rattle.xlsx_pivots.specs.Singles.{single_kept_by, TellsLack}
use Rattle.xlsx_pivots.specs.declared.single.Single.TheVariants as single

-- a start of the element `pivotTableDefinition`, a pivot table
abbrev pub is_pivot : Tag → Bool
is_pivot tag = is_named (codes "pivotTableDefinition" ∷ []) tag

-- one more name, if the start has one
abbrev pub name_kept : PlacedTag → Option (List ℕ) → Result (Option (List ℕ)) Refusal
name_kept start kept = single_kept_by single.Name kept (name_by start)

-- the name that was kept, or that of the only start among these events that has one
abbrev pub name_behind : Option (List ℕ) → List Event → Result (Option (List ℕ)) Refusal
name_behind kept inside = all_changes name_kept (starts_by is_pivot inside) kept

-- the name of a pivot table: its own start counts, and so do those that stand in it
abbrev pub name_said : Tag → List Event → Result (Option (List ℕ)) Refusal
name_said tag inside =
    changed_by (λ kept. name_behind kept inside) (name_kept (placed_at tag (length inside)) None)

-- what is asked of the events of such a part: the name of its first pivot table, which has to have
-- one
abbrev pub name_ask : EventsAsk (List ℕ)
name_ask =
    let name = codes "pivotTableDefinition" in
    needing (TellsLack single.Name) (in_first_element name name name_said)

-- the name of the pivot table whose part is at a path
abbrev pub name_look : List ℕ → Look (List ℕ)
name_look path = asks path (of_part path name_ask)
