-- What the elements of a list say, and how the end of its part is told.
use Rattle.std.specs.Prelude.{ℕ, List, Bool, Option, Result}
use Rattle.part_events.specs.Words.{Tag, Event, Element, outermost}
use Rattle.xlsx_sections.specs.Answers.{all_answers}
use Rattle.xlsx_sections.specs.Elements.{end_among}
use Rattle.xlsx_sections.specs.Refusal.{Refusal, in_element}

-- what an element means, by its start and what stands in it
abbrev pub element_said :
    {A : Type 0} → (Tag → List Event → Result A Refusal) → Element → Result A Refusal
element_said meaning element = in_element element (meaning element.tag element.inside)

-- The list that an element adds: what each outermost wanted element in it says, by its start and
-- what stands in it, in order, or the first refusal.
abbrev pub list_said :
    {A : Type 0} → (Tag → Bool) → (Tag → List Event → Result A Refusal) → List Event
    → Result (List A) Refusal
list_said wanted meaning inside = all_answers (element_said meaning) (outermost wanted inside)

-- the end that is told missing inside an element, by its start and what stands in it
abbrev pub end_inside : (Tag → List Event → Option (List ℕ)) → Element → Option (List ℕ)
end_inside ending element = ending element.tag element.inside

-- how the end of the part is told in a list of this name: in one of its elements by its start and
-- what stands in it, and elsewhere by the list's name
abbrev pub end_in_elements :
    (Tag → Bool) → List ℕ → (Tag → List Event → Option (List ℕ)) → List Event → Option (List ℕ)
end_in_elements wanted name ending inside = end_among wanted name (end_inside ending) inside

-- how the end of the part is told in a list of this name whose elements all tell it in one way
abbrev pub end_in_list :
    (Tag → Bool) → List ℕ → (List Event → Option (List ℕ)) → List Event → Option (List ℕ)
end_in_list wanted name ending inside = end_in_elements wanted name (λ tag. ending) inside
