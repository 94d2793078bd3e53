-- How the items of a field are read event by event.
use Rattle.std.proofs.Common.{◌≡◌, ℕ, ◌-◌, List, [], ◌∷◌, length, refl, sym, ap, ◌∙◌, Option}
use Rattle.std.proofs.Common.{Result, Err, arith}
use Rattle.part_events.specs.Words.{Tag, Event, start, end, leaf, names_behind, IsEnclosed}
use Rattle.cell_data.specs.Words.{CellValue}
use Rattle.xlsx_error.specs.declared.error.XlsxError.{XlsxError}
use Rattle.xlsx_sections.specs.Words.{prepended, and_others_if, Refusal, ElementFails}
use Rattle.xlsx_sections.proofs.Refused.{refused_at_weaker}
use Rattle.xlsx_pivot_cache.specs.CacheFields.{some_item, item_said, field_named}
use Rattle.xlsx_pivot_cache.specs.FieldEvents.{cache_items_behind, items_from_place, depth_before}
use Rattle.xlsx_pivot_cache.specs.declared.contents.ItemsPlace.{ItemsPlace}
use Rattle.xlsx_pivot_cache.specs.declared.contents.ItemsPlace.TheVariants.{Within}

-- an answer that stands on another one is refused as that one is
fails_as : {A B : Type 0} (at behind : ℕ) (own : Result A Refusal) (all : Result B Refusal)
    (error : XlsxError) → ((refusal : Refusal) → own ≡ Err refusal → all ≡ Err refusal)
    → ElementFails own at behind error → ElementFails all at behind error
fails_as at behind own all error weaker fails =
    refused_at_weaker at behind (λ (refusal : Refusal). all ≡ Err refusal)
    (λ (refusal : Refusal). own ≡ Err refusal) error weaker fails

-- a name that doesn't decode refuses its field
pub name_fails : (at behind : ℕ) (formula : Option (List ℕ)) (inside : List Event)
    (name : Result (List ℕ) Refusal) (error : XlsxError) → ElementFails name at behind error
    → ElementFails (field_named formula inside name) at behind error
name_fails at behind formula inside name error fails =
    fails_as at behind name (field_named formula inside name) error
    (λ refusal is. ap (field_named formula inside) is) fails

pub value_fails : (at behind : ℕ) (own : Result CellValue Refusal) (error : XlsxError)
    → ElementFails own at behind error → ElementFails (some_item own) at behind error
value_fails at behind own error fails =
    fails_as at behind own (some_item own) error (λ refusal is. ap some_item is) fails

-- a child of `sharedItems` comes next
pub child_first : (base depth : ℕ) (tag : Tag) (events : List Event) → depth - base ≡ 0
    → items_from_place (Within base) depth (start tag ∷ events)
    ≡ and_others_if (item_said tag) (cache_items_behind 1 events)
child_first base depth tag events none = rw none refl

-- and is refused
pub child_fails : (base depth at behind : ℕ) (tag : Tag) (events : List Event)
    (error : XlsxError) → depth - base ≡ 0 → ElementFails (item_said tag) at behind error
    → ElementFails (items_from_place (Within base) depth (start tag ∷ events)) at behind error
child_fails base depth at behind tag events error none fails =
    fails_as at behind (item_said tag) (items_from_place (Within base) depth (start tag ∷ events))
    error (λ refusal is. child_first base depth tag events none
    ∙ ap (λ (own : Result (Option CellValue) Refusal).
    and_others_if own (cache_items_behind 1 events))
    is) fails

opened_before : (event : Event) (names : List (List ℕ)) → IsEnclosed event names
    → depth_before event (length (names_behind event names)) ≡ length names
opened_before (start tag) names is = omega arith
opened_before (end name) [] is = absurd (omega (arith, is))
opened_before (end name) (first ∷ names) is = refl
opened_before (leaf kind) names is = refl

-- how many elements were open before an event
-- how many elements are open before an event, behind which so many are
pub depth_there : (event : Event) (depth : ℕ) (old new : List (List ℕ)) → depth ≡ length new
    → new ≡ names_behind event old → IsEnclosed event old → depth_before event depth ≡ length old
depth_there event depth old new is takes enclosed =
    ap (depth_before event) (is ∙ ap length takes) ∙ opened_before event old enclosed

-- the next event is refused
pub items_refused : (place : ItemsPlace) (kept : List CellValue) (event : Event) (depth : ℕ)
    {before : ℕ} {ahead left : List Event} {all : Result (List CellValue) Refusal}
    {refusal : Refusal} → depth_before event depth ≡ before → ahead ≡ event ∷ left
    → items_from_place place (depth_before event depth) (event ∷ left) ≡ Err refusal
    → prepended kept (items_from_place place before ahead) ≡ all → all ≡ Err refusal
items_refused place kept event depth {before = before} {left =
    left} same comes refuses holds =
    sym holds
    ∙ ap (λ (events : List Event). prepended kept (items_from_place place before events)) comes
    ∙ ap (λ (n : ℕ). prepended kept (items_from_place place n (event ∷ left))) (sym same)
    ∙ ap (prepended kept) refuses
