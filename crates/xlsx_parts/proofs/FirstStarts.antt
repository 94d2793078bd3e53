-- The first element of a name, by its start and by what stands behind that.
use Rattle.std.proofs.Common.{◌≡◌, ℕ, List, [], ◌∷◌, Bool, true, false, Some, None, refl, sym, ◌∙◌}
use Rattle.std.proofs.Common.{ap, length}
use Rattle.std.specs.Prelude.{option_map, if◌then◌else◌}
use Rattle.part_events.specs.Words.{Tag, Event, start, end, leaf, whole, PlacedTag, starts_by}
use Rattle.part_events.specs.Words.{behind_start, is_named}
use Rattle.xlsx_sections.specs.Words.{PartSection, section_from, section_in, placed_at}
use Rattle.xlsx_parts.specs.FirstElement.{StartAhead, first_start, element_with, element_from}
use Rattle.xlsx_parts.specs.FirstElement.{element_in}

abbrev start_ahead : Tag → List Event → StartAhead
start_ahead tag ahead = record { tag = tag; ahead = ahead }

-- the tag of the first start that passes a test, and what stands behind it
pub first_start_is : (wanted : Tag → Bool) (events ahead : List Event) (first : PlacedTag)
    (others : List PlacedTag) → starts_by wanted events ≡ first ∷ others
    → behind_start wanted events ≡ Some ahead
    → first_start wanted events ≡ Some (start_ahead first.tag ahead)
first_start_is wanted [] ahead first others starts behind = absurd (cc)
first_start_is wanted (start tag ∷ events) ahead first others starts behind =
    elim (wanted tag) as (λ b.
    (if b then placed_at tag (length events) ∷ starts_by wanted events
    else starts_by wanted events) ≡ first ∷ others
    → (if b then Some events else behind_start wanted events) ≡ Some ahead
    → (if b then Some (start_ahead tag events) else first_start wanted events)
    ≡ Some (start_ahead first.tag ahead)) [
      | true ↦ λ same next.
          let placed : placed_at tag (length events) ≡ first = cc in
          let here : events ≡ ahead = cc in
          ap (λ (own : List Event). Some (start_ahead tag own)) here
          ∙ ap (λ (own : PlacedTag). Some (start_ahead own.tag ahead)) placed
      | false ↦ λ same next. first_start_is wanted events ahead first others same next
    ] starts behind
first_start_is wanted (end name ∷ events) ahead first others starts behind =
    first_start_is wanted events ahead first others starts behind
first_start_is wanted (leaf kind ∷ events) ahead first others starts behind =
    first_start_is wanted events ahead first others starts behind

-- none passes it
pub first_start_none : (wanted : Tag → Bool) (events : List Event)
    → behind_start wanted events ≡ None → first_start wanted events ≡ None
first_start_none wanted [] none = refl
first_start_none wanted (start tag ∷ events) none =
    elim (wanted tag) as (λ b. (if b then Some events else behind_start wanted events) ≡ None
    → (if b then Some (start_ahead tag events) else first_start wanted events) ≡ None) [
      | true ↦ λ never. absurd (cc)
      | false ↦ λ next. first_start_none wanted events next
    ] none
first_start_none wanted (end name ∷ events) none = first_start_none wanted events none
first_start_none wanted (leaf kind ∷ events) none = first_start_none wanted events none

-- where the first section of a name begins, its element begins
pub element_there : (name : List ℕ) (events ahead : List Event) (tag : Tag) (s : PartSection)
    → first_start (is_named (name ∷ [])) (whole events) ≡ Some (start_ahead tag ahead)
    → behind_start (is_named (name ∷ [])) (whole events) ≡ Some ahead
    → section_in name events ≡ Some s → element_in name events ≡ Some (element_with tag s)
element_there name events ahead tag s first behind there =
    let own : Some (section_from events ahead) ≡ Some s =
    sym (ap (option_map (section_from events)) behind) ∙ there in
    let same : section_from events ahead ≡ s = cc in
    ap (option_map (element_from events)) first
    ∙ ap (λ (section : PartSection). Some (element_with tag section)) same
