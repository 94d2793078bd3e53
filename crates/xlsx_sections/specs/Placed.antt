-- What the references in attributes name.
use Rattle.std.specs.Prelude.{ℕ, List, Option, Some, None, Result, Ok, Err}
use Rattle.attr_text.specs.declared.fault.AttrFault.{AttrFault}
use Rattle.cell_refs.specs.declared.error.RefError.{RefError}
use Rattle.xlsx_sections.specs.Refusal.{Refusal, plain, lookup_fault, misplaced}

-- what a text names that has to be there
abbrev pub placed : {A : Type 0} → Result A RefError → Result A Refusal
placed (Ok place) = Ok place
placed (Err fault) = Err (plain (misplaced fault))

-- a place that was read, its fault as a refusal
abbrev pub some_placed : {A : Type 0} → Result A RefError → Result (Option A) Refusal
some_placed (Ok place) = Ok (Some place)
some_placed (Err fault) = Err (plain (misplaced fault))

-- what an attribute names that may be absent
abbrev pub named_by :
    {A : Type 0} → (List ℕ → Result A RefError) → Result (Option (List ℕ)) AttrFault →
    Result (Option A) Refusal
named_by read (Ok None) = Ok None
named_by read (Ok (Some written)) = some_placed (read written)
named_by read (Err fault) = Err (plain (lookup_fault fault))
