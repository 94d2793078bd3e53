-- How a list is read element by element.
use Rattle.std.proofs.Common.{◌≡◌, ℕ, List, [], ◌∷◌, ◌++◌, length, true, Bool, Option, Result, Some}
use Rattle.std.proofs.Common.{Ok, ap}
use Rattle.part_events.specs.Words.{Tag, Event, start, PackageState, Reading, PassesElement, ahead}
use Rattle.part_events.specs.Words.{Element, content, section_ahead, element_at}
use Rattle.xlsx_error.specs.declared.error.XlsxError.{XlsxError}
use Rattle.xlsx_sections.specs.Answers.{prepended, all_answers, and_others}
use Rattle.xlsx_sections.specs.ElementLists.{element_said, list_said, end_inside, end_in_elements}
use Rattle.xlsx_sections.specs.Elements.{KeepsElements, IsInsideRefused, end_among}
use Rattle.xlsx_sections.specs.PartSection.{Ending, Never, inside_of, section_left}
use Rattle.xlsx_sections.specs.Refusal.{Refusal, in_element}
use Rattle.xlsx_sections.proofs.ElementsSaid.{KeepsElementsSaid, StepsFrom, elements_further}
use Rattle.xlsx_sections.proofs.ElementsSaid.{elements_refused, found_there}
use Rattle.xlsx_sections.proofs.Kept.{behind_refused, prepended-and_others}
use Rattle.xlsx_sections.proofs.Refused.{refused_as}
use Rattle.xlsx_sections.proofs.StartsSaid.{FailsFrom, section_stopped}

-- the elements of a list were read up to here, and what they say was put behind what was kept
-- before
pub record KeepsList {A : Type 0} (wanted : Tag → Bool) (meaning : Tag → List Event
    → Result A Refusal) (base : ℕ) (before kept : List A) (first now : Reading) : Type 0 where
  pub keeps : KeepsElements wanted base first now
  pub said :
      first.source.is_visible ≡ true →
      prepended kept (list_said wanted meaning (section_ahead base now))
      ≡ prepended before (list_said wanted meaning (section_ahead base first))

-- what the elements of a list say, behind what was kept of those before them
abbrev pub list_behind : {A : Type 0} → (Tag → List Event → Result A Refusal) → List A
    → List Element → Result (List A) Refusal
list_behind meaning kept elements = prepended kept (all_answers (element_said meaning) elements)

-- and all of them, behind what was kept before
abbrev pub list_from : {A : Type 0} → (Tag → Bool) → (Tag → List Event → Result A Refusal) → List A
    → List Event → Result (List A) Refusal
list_from wanted meaning before inside = prepended before (list_said wanted meaning inside)

list_kept : {A : Type 0} {wanted : Tag → Bool} {meaning : Tag → List Event → Result A Refusal}
    {base : ℕ} {before kept : List A} {first now : Reading}
    → KeepsList wanted meaning base before kept first now
    → KeepsElementsSaid wanted (list_behind meaning) (list_from wanted meaning before) base kept
    first now
list_kept list = record { keeps = list.keeps; same = list.said }

-- one more element was read, and what it says was put behind what was kept
pub list_added : {A : Type 0} {wanted : Tag → Bool} {meaning : Tag → List Event → Result A Refusal}
    {base place : ℕ} {step : Option ℕ} {before kept : List A} {first old new after : Reading}
    (own : A) → step ≡ Some place → KeepsList wanted meaning base before kept first old
    → StepsFrom wanted base step old new → PassesElement new after
    → (new.source.is_visible ≡ true → (tag : Tag) → start tag ≡ new.source.current
    → meaning tag (content 0 (ahead new)) ≡ Ok own)
    → KeepsList wanted meaning base before (kept ++ own ∷ []) first after
list_added {wanted = wanted} {meaning = meaning} {base = base} {kept = kept} {new =
    new} own is list steps passes says =
    let found = found_there is list.keeps steps in
    let here = element_at base found.0 new in
    let more = elements_further {next = kept ++ own ∷ []} (list_behind meaning) (list_kept list)
    found.2 passes
    (λ told rest. prepended-and_others kept own (element_said meaning here)
    (all_answers (element_said meaning) rest)
    (ap (in_element here) (says told found.0 found.1)))
    in
    record { keeps = more.keeps; said = more.same }

-- one of them is refused, and so is the list
pub list_refused : {A : Type 0} {wanted : Tag → Bool}
    {meaning : Tag → List Event → Result A Refusal} {base place : ℕ} {step : Option ℕ}
    {before kept : List A} {first old : Reading} (name : List ℕ) (ending : Tag → Ending)
    (new : Reading)
    (last : PackageState) (error : XlsxError) → step ≡ Some place
    → KeepsList wanted meaning base before kept first old → StepsFrom wanted base step old new
    → ((tag : Tag) → start tag ≡ new.source.current
    → FailsFrom (ending tag) (IsInsideRefused (meaning tag)) (length new.names) new last error)
    → FailsFrom (end_in_elements wanted name ending)
    (IsInsideRefused (list_said wanted meaning)) base
    first last error
list_refused {wanted = wanted} {meaning = meaning} {base = base} {before = before} {kept =
    kept} {first = first} name ending new last error is list steps fails =
    let found = found_there is list.keeps steps in
    refused_as base first (end_in_elements wanted name ending)
    (IsInsideRefused (list_from wanted meaning before))
    (IsInsideRefused (list_said wanted meaning)) (record first { source = last }) error
    (λ refusal refuses. behind_refused before
    (list_said wanted meaning (inside_of (section_left base first))) refuses)
    (elements_refused name ending (meaning found.0) (list_behind meaning) last error
    (list_kept list) found.2
    (λ rest refusal refuses. ap (λ (answer : Result _ Refusal).
    prepended kept (and_others answer (all_answers (element_said meaning) rest))) refuses)
    (fails found.0 found.1))

-- the step to the next one is refused, and so is the list
pub list_stopped : {A : Type 0} {wanted : Tag → Bool}
    {meaning : Tag → List Event → Result A Refusal} {base : ℕ} {before kept : List A}
    {first old : Reading} (name : List ℕ) (ending : Tag → Ending) (last : PackageState)
    (error : XlsxError) → KeepsList wanted meaning base before kept first old
    → ((from : Reading) (inner : Element → Option (List ℕ)) → KeepsElements wanted base from old
    → FailsFrom (end_among wanted name inner) Never base from last error)
    → FailsFrom (end_in_elements wanted name ending)
    (IsInsideRefused (list_said wanted meaning)) base
    first last error
list_stopped {wanted = wanted} {meaning = meaning} {base = base} {first =
    first} name ending last error list fails =
    section_stopped base first (end_in_elements wanted name ending)
    (IsInsideRefused (list_said wanted meaning)) last error
    (fails first (end_inside ending) list.keeps)
