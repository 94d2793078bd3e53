-- What is said of all keys, part by part.
use Rattle.std.proofs.Common.{◌≡◌, ◌∙◌, ℕ, List, length, Bool, true, Option, Some, None, Result, Ok}
use Rattle.std.proofs.Common.{Err, refl, sym, ap, subst}
use mathlib.Core.Path.{fun_ext}
use Rattle.std.specs.Option.{option_or}
use Rattle.std.specs.Prelude.{if◌then◌else◌}
use Rattle.part_events.specs.Words.{Event, whole}
use Rattle.xlsx_sections.specs.Words.{or_earlier, Refusal}
use Rattle.xlsx_parts.proofs.SaidRead.{whole_there}
use Rattle.xlsx_properties.specs.ByKeys.{said_or_none, once_answered, of_all_keys, if_there_by_keys}
use Rattle.xlsx_properties.specs.Kept.{AreSame, held, custom_held, properties_kept}
use Rattle.xlsx_properties.specs.Parts.{IsWholeIfThere, later_texts, properties_with, said_by}
use Rattle.xlsx_properties.specs.Said.{Saying}
use Rattle.xlsx_properties.specs.declared.property.Property.{Property}
use Rattle.xlsx_properties.specs.declared.workbook_properties.WorkbookProperties.{
  WorkbookProperties,
}

-- what is answered of each key is what is said of all
answered : {K A : Type 0} (saying : Saying K A) (any : K) (events : List Event) (own : K → Option A)
    → ((key : K) → saying key events ≡ Ok (own key))
    → of_all_keys saying any events ≡ Ok own
answered {K = K} {A = A} saying any events own is =
    ap (once_answered saying events) (is any)
    ∙ ap (λ (all : K → Option A). Ok all) (fun_ext (λ key. ap said_or_none (is key)))

pub said_by_keys : {K A : Type 0} (saying : Saying K A) (any : K) (part : Option (List Event))
    (own : K → Option A) → IsWholeIfThere part
    → ((key : K) → said_by saying key part ≡ Ok (own key))
    → (if_there_by_keys saying any).said part ≡ Some own
said_by_keys {K = K} {A = A} saying any None own whole is =
    ap (λ (all : K → Option A). Some all)
    (fun_ext (λ key. ap said_or_none (is key)))
said_by_keys saying any (Some events) own same is =
    whole_there (of_all_keys saying any) same
    (ap (of_all_keys saying any) same ∙ answered saying any events own is)

-- what a part says behind what was kept before is what is kept then
one_later : {A : Type 0} (kept : Option A) (answer : Result (Option A) Refusal) (last : Option A)
    → or_earlier kept answer ≡ Ok last
    → (answer ≡ Ok (said_or_none answer)) × (last ≡ option_or (said_or_none answer) kept)
one_later kept (Ok None) last is = (refl, sym (cc))
one_later kept (Ok (Some text)) last is = (refl, sym (cc))
one_later kept (Err refusal) last is = absurd (cc)

-- what two parts say of all keys, the second behind the first
pub both_by_keys : {K A : Type 0} (saying later : Saying K A) (any : K)
    (first second : Option (List Event)) (kept last : K → Option A)
    → IsWholeIfThere first → IsWholeIfThere second
    → ((key : K) → said_by saying key first ≡ Ok (kept key))
    → ((key : K) → or_earlier (kept key) (said_by later key second) ≡ Ok (last key))
    → (own : K → Option A) × ((if_there_by_keys saying any).said first ≡ Some kept)
    × ((if_there_by_keys later any).said second ≡ Some own) × (later_texts kept own ≡ last)
both_by_keys {K = K} saying later any first second kept last one two says follows =
    let own = λ (key : K). said_or_none (said_by later key second) in (
      own,
      said_by_keys saying any first kept one says,
      said_by_keys later any second own two
          (λ key. (one_later (kept key) (said_by later key second) (last key) (follows key)).0),
      fun_ext (λ key. sym
          (one_later (kept key) (said_by later key second) (last key) (follows key)).1),
    )

-- properties that have the same texts are kept alike
pub kept_alike : (one other : WorkbookProperties) → AreSame one other
    → properties_kept one ≡ properties_kept other
kept_alike one other same =
    ap (λ (texts : Property → Option (List ℕ)).
    properties_with texts (λ name. custom_held name one)) (fun_ext (λ own. same.held own))
    ∙ ap (properties_with (λ own. held own other)) (fun_ext (λ name. same.named name))
