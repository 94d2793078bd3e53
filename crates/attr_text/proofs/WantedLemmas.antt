-- The lookup of one key, by what its items say.
use Rattle.std.proofs.Common.{◌≡◌, ℕ, true, false, List, Ok, Err, Option, Some, None, refl, ap, ◌∙◌}
use Rattle.std.specs.Prelude.{is_some}
use Rattle.attr_text.specs.Attributes.{first_value, ending_fault, answer, items, value_of}
use Rattle.attr_text.specs.Attributes.{value_of_local}
use Rattle.attr_text.specs.Wanted.{accepts, answer_of}
use Rattle.attr_text.specs.declared.fault.AttrFault.{AttrFault}
use Rattle.attr_text.specs.declared.lookup.Wanted.{Wanted}
use Rattle.attr_text.specs.declared.lookup.Wanted.TheVariants.{Key, LocalName}

-- where a value was found for each wanted key, a fault in which the items end is no refusal
pub answer-found : {A : Type 0} (found : A) (fault : Option AttrFault) →
    answer found true fault ≡ Ok found
answer-found found None = refl
answer-found found (Some f) = refl

answer_of-is : (wanted : Wanted) (text : List ℕ) →
    let value = first_value (accepts wanted) (items text) in
    answer_of wanted text ≡ answer value (is_some value) (ending_fault (items text))
unfolding value_of value_of_local
answer_of-is (Key wanted) text = refl
answer_of-is (LocalName wanted) text = refl

pub answer_of-found : (wanted : Wanted) (text value : List ℕ) →
    first_value (accepts wanted) (items text) ≡ Some value → answer_of wanted text ≡ Ok (Some value)
answer_of-found wanted text value e =
    answer_of-is wanted text
    ∙ ap (λ (v : Option (List ℕ)). answer v (is_some v) (ending_fault (items text))) e
    ∙ answer-found (Some value) (ending_fault (items text))

pub answer_of-refused : (wanted : Wanted) (text : List ℕ) (fault : AttrFault) →
    first_value (accepts wanted) (items text) ≡ None
    → ending_fault (items text) ≡ Some fault → answer_of wanted text ≡ Err fault
answer_of-refused wanted text fault e f =
    answer_of-is wanted text
    ∙ ap (λ (v : Option (List ℕ)). answer v (is_some v) (ending_fault (items text))) e
    ∙ ap (λ (o : Option AttrFault). answer {A = Option (List ℕ)} None false o) f

pub answer_of-none : (wanted : Wanted) (text : List ℕ) →
    first_value (accepts wanted) (items text) ≡ None
    → ending_fault (items text) ≡ None → answer_of wanted text ≡ Ok None
answer_of-none wanted text e f =
    answer_of-is wanted text
    ∙ ap (λ (v : Option (List ℕ)). answer v (is_some v) (ending_fault (items text))) e
    ∙ ap (λ (o : Option AttrFault). answer {A = Option (List ℕ)} None false o) f
