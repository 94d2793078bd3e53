-- What is made of a value by many elements, one after the other, of which one may be refused.
use Rattle.std.specs.Prelude.{List, [], ◌∷◌, Result, Ok, Err}
use Rattle.attr_text.specs.declared.fault.AttrFault.{AttrFault}
use Rattle.xlsx_sections.specs.Refusal.{Refusal, plain, lookup_fault}

-- a change of what was answered
abbrev pub changed_by : {A : Type 0} → (A → Result A Refusal) → Result A Refusal → Result A Refusal
changed_by change (Ok a) = change a
changed_by change (Err refusal) = Err refusal

-- each changes what those before it made, or the first refusal
abbrev pub all_changes : {X A : Type 0} → (X → A → Result A Refusal) → List X → A → Result A Refusal
all_changes change [] a = Ok a
all_changes change (x ∷ xs) a = changed_by (all_changes change xs) (change x a)

-- the answer of a lookup, its fault as a refusal
abbrev pub or_fault : {A : Type 0} → Result A AttrFault → Result A Refusal
or_fault (Ok a) = Ok a
or_fault (Err fault) = Err (plain (lookup_fault fault))

-- a change by what was looked up
abbrev pub changed_with : {A B : Type 0} → (A → B → A) → A → Result B AttrFault → Result A AttrFault
changed_with change a (Ok b) = Ok (change a b)
changed_with change a (Err fault) = Err fault
