-- What is read of the parts that the relationships of one type lead to.
use Rattle.std.specs.Prelude.{ℕ, List, [], codes}
use Rattle.xlsx_sections.specs.Words.{Ask, always}
use Rattle.looks.specs.Words.{Look, and_then, asks, for_each, look_ask, section_or}
use Rattle.xlsx_relationships.specs.Paths.{relationships_beside}
use Rattle.xlsx_relationships.specs.RelatedParts.{all_lead_to}
use Rattle.xlsx_relationships.specs.RelationshipErrors.{IsRelatedError}

-- where the relationships of one type lead that are beside the part at a path; a part without
-- relationships leads nowhere
abbrev pub related_look : List ℕ → List ℕ → Look (List (List ℕ))
related_look wanted path =
    let name = codes "Relationships" in
    asks (relationships_beside path) (section_or [] name (always name) (all_lead_to path wanted))

-- what is asked for where they lead
abbrev pub related_ask : List ℕ → List ℕ → Ask (List (List ℕ))
related_ask wanted path = look_ask IsRelatedError (related_look wanted path)

-- what each part says to which the relationships of one type lead that are beside the part at a
-- path, one after the other
abbrev pub each_related : {A : Type 0} → (List ℕ → Look (List A)) → List ℕ → List ℕ → Look (List A)
each_related look wanted path =
    and_then (related_look wanted path) (λ (paths : List (List ℕ)). for_each look paths)
