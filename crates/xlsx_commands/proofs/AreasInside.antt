-- The areas that a sheet's part names lie in a worksheet.
use Rattle.std.proofs.Common.{◌≡◌, ℕ, List, [], ◌∷◌, Bool, true, false, Option, Some, None, Result}
use Rattle.std.proofs.Common.{Ok, Err, refl, subst, codes}
use Rattle.std.specs.Prelude.{if◌then◌else◌, option_and_then, All}
use Rattle.std.specs.List.{AllByRecursion}
use Rattle.std.proofs.lemmas.List.Elements.{All-from_recursion}
use Rattle.attr_text.specs.Words.{value_of}
use Rattle.attr_text.specs.declared.fault.AttrFault.{AttrFault}
use Rattle.cell_refs.specs.Words.{area_of, corner, corners, parts, with_corner}
use Rattle.cell_refs.specs.A1.{area}
use Rattle.cell_refs.specs.declared.dimensions.Dimensions.{Dimensions}
use Rattle.cell_refs.specs.declared.error.RefError.{RefError}
use Rattle.cell_refs.proofs.Inside.{corner_inside}
use Rattle.part_events.specs.Words.{Tag, Event, PlacedTag, starts_by}
use Rattle.list_lines.specs.Inside.{IsCellOfWorksheet, LiesInWorksheet}
use Rattle.xlsx_sections.specs.Words.{and_others_if, some_answers, PartSection, closed_section}
use Rattle.xlsx_sections.specs.Words.{section_in, named_by, some_placed, Refusal}
use Rattle.xlsx_parts.specs.Words.{ok_or_none, is_whole, lacking_or, section_said, section_said_or}
use Rattle.xlsx_areas.specs.MergedCells.{is_merge, merge_of, merges_of}

-- ---- the area of a text

joined_inside : (first : Result (ℕ × ℕ) RefError) (others : Result (List (ℕ × ℕ)) RefError)
    (found : List (ℕ × ℕ)) → ((one : ℕ × ℕ) → first ≡ Ok one → IsCellOfWorksheet one)
    → ((more : List (ℕ × ℕ)) → others ≡ Ok more → AllByRecursion IsCellOfWorksheet more)
    → with_corner first others ≡ Ok found → AllByRecursion IsCellOfWorksheet found
joined_inside (Err e) others found one more is = absurd (cc)
joined_inside (Ok first) (Err e) found one more is = absurd (cc)
joined_inside (Ok first) (Ok others) found one more is =
    let same : first ∷ others ≡ found = cc in
    subst (AllByRecursion IsCellOfWorksheet) same (one first refl, more others refl)

corners_inside : (texts : List (List ℕ)) (found : List (ℕ × ℕ)) → corners texts ≡ Ok found
    → AllByRecursion IsCellOfWorksheet found
corners_inside [] found is =
    let same : [] ≡ found = cc in subst (AllByRecursion IsCellOfWorksheet) same tt
corners_inside (text ∷ texts) found is =
    joined_inside (corner text) (corners texts) found (corner_inside text) (corners_inside texts) is

ends_inside : (found : Result (List (ℕ × ℕ)) RefError) (own : Dimensions)
    → ((more : List (ℕ × ℕ)) → found ≡ Ok more → AllByRecursion IsCellOfWorksheet more)
    → area_of found ≡ Ok own → LiesInWorksheet own
ends_inside (Err e) own inside is = absurd (cc)
ends_inside (Ok []) own inside is = absurd (cc)
ends_inside (Ok (only ∷ [])) own inside is =
    let here = (inside (only ∷ []) refl).0 in
    let one : Dimensions = record { start = only; end = only } in
    let same : one ≡ own = cc in
    subst LiesInWorksheet same (here, here)
ends_inside (Ok (first ∷ second ∷ [])) own inside is =
    let both = inside (first ∷ second ∷ []) refl in
    let one : Dimensions = record { start = first; end = second } in
    let same : one ≡ own = cc in
    subst LiesInWorksheet same (both.0, both.1.0)
ends_inside (Ok (first ∷ second ∷ third ∷ more)) own inside is = absurd (cc)

pub area_inside : (text : List ℕ) (own : Dimensions) → area text ≡ Ok own → LiesInWorksheet own
unfolding area
area_inside text own is =
    ends_inside (corners (parts text)) own (corners_inside (parts text)) is

-- ---- the areas of a section

others_are : {A : Type 0} (P : A → Type 0) (first : Result (Option A) Refusal)
    (others : Result (List A) Refusal) (found : List A)
    → ((own : A) → first ≡ Ok (Some own) → P own)
    → ((more : List A) → others ≡ Ok more → AllByRecursion P more)
    → and_others_if first others ≡ Ok found → AllByRecursion P found
others_are P (Ok (Some own)) (Ok more) found one all is =
    let same : own ∷ more ≡ found = cc in
    subst (AllByRecursion P) same (one own refl, all more refl)
others_are P (Ok (Some own)) (Err refusal) found one all is = absurd (cc)
others_are P (Ok None) others found one all is = all found is
others_are P (Err refusal) others found one all is = absurd (cc)

pub some_answers_are : {X A : Type 0} (P : A → Type 0) (answer : X → Result (Option A) Refusal)
    (xs : List X) (found : List A) → ((x : X) (own : A) → answer x ≡ Ok (Some own) → P own)
    → some_answers answer xs ≡ Ok found → AllByRecursion P found
some_answers_are P answer [] found each is =
    let same : [] ≡ found = cc in subst (AllByRecursion P) same tt
some_answers_are P answer (x ∷ xs) found each is =
    others_are P (answer x) (some_answers answer xs) found (each x)
    (λ more. some_answers_are P answer xs more each) is

named_inside : (found : Result Dimensions RefError) (own : Dimensions)
    → ((one : Dimensions) → found ≡ Ok one → LiesInWorksheet one)
    → some_placed found ≡ Ok (Some own) → LiesInWorksheet own
named_inside (Ok found) own inside is =
    let same : found ≡ own = cc in subst LiesInWorksheet same (inside found refl)
named_inside (Err fault) own inside is = absurd (cc)

looked_up_inside : (looked : Result (Option (List ℕ)) AttrFault) (own : Dimensions)
    → named_by area looked ≡ Ok (Some own) → LiesInWorksheet own
looked_up_inside (Ok None) own is = absurd (cc)
looked_up_inside (Ok (Some written)) own is =
    named_inside (area written) own (area_inside written) is
looked_up_inside (Err fault) own is = absurd (cc)

-- ---- what a part says

pub ok_are : {A : Type 0} (P : A → Type 0) (answer : Result (List A) Refusal) (found : List A)
    → ((more : List A) → answer ≡ Ok more → AllByRecursion P more)
    → ok_or_none answer ≡ Some found → AllByRecursion P found
ok_are P (Ok more) found all is =
    let same : more ≡ found = cc in subst (AllByRecursion P) same (all more refl)
ok_are P (Err refusal) found all is = absurd (cc)

said_are : {A : Type 0} (P : A → Type 0) (meaning : List Event → Result (List A) Refusal)
    (closed : Option (List Event)) (found : List A)
    → ((inside : List Event) (more : List A) → meaning inside ≡ Ok more → AllByRecursion P more)
    → option_and_then (λ (inside : List Event). ok_or_none (meaning inside)) closed ≡ Some found
    → AllByRecursion P found
said_are P meaning None found all is = absurd (cc)
said_are P meaning (Some inside) found all is = ok_are P (meaning inside) found (all inside) is

none_are : {A : Type 0} (P : A → Type 0) (b : Bool) (found : List A)
    → (if b then Some [] else None) ≡ Some found → AllByRecursion P found
none_are P true found is = let same : [] ≡ found = cc in subst (AllByRecursion P) same tt
none_are P false found is = absurd (cc)

lacking_are : {A : Type 0} (P : A → Type 0) (events : List Event) (section : Option PartSection)
    (said : Option (List A)) (found : List A)
    → ((more : List A) → said ≡ Some more → AllByRecursion P more)
    → lacking_or [] events section said ≡ Some found → AllByRecursion P found
lacking_are P events None said found all is = none_are P (is_whole events) found is
lacking_are P events (Some section) said found all is = all found is

-- what each start says in a section that a part may lack
pub section_are : {A : Type 0} (P : A → Type 0) (name : List ℕ) (wanted : Tag → Bool)
    (answer : PlacedTag → Result (Option A) Refusal) (events : List Event) (found : List A)
    → ((start : PlacedTag) (own : A) → answer start ≡ Ok (Some own) → P own)
    → section_said_or [] name (λ inside. some_answers answer (starts_by wanted inside)) events
    ≡ Some found → AllByRecursion P found
section_are {A = A} P name wanted answer events found each is =
    let meaning : List Event → Result (List A) Refusal =
    λ inside. some_answers answer (starts_by wanted inside) in
    lacking_are P events (section_in name events) (section_said name meaning events) found
    (λ more. said_are P meaning (closed_section name events) more
    (λ inside all. some_answers_are P answer (starts_by wanted inside) all each)) is

-- ---- merged cells

part_inside : (events : List Event) (areas : List Dimensions) → merges_of events ≡ Some areas
    → AllByRecursion LiesInWorksheet areas
part_inside events areas is =
    section_are LiesInWorksheet (codes "mergeCells") is_merge merge_of events areas
    (λ start own. looked_up_inside (value_of (codes "ref") start.tag.attributes) own) is

pub merges_lie_inside : (events : Option (List Event)) (areas : List Dimensions)
    → option_and_then merges_of events ≡ Some areas → All LiesInWorksheet areas
merges_lie_inside None areas is = absurd (cc)
merges_lie_inside (Some events) areas is =
    All-from_recursion LiesInWorksheet areas (part_inside events areas is)
