-- Parts that have to be there, and what has to be said: what is said so has no cause of a refusal.
use Rattle.std.proofs.Common.{◌≡◌, ◌⊎◌, ℕ, List, Option, Some, None, refl, inl, inr, string_bytes}
use Rattle.std.specs.Prelude.{option_and_then}
use Rattle.part_events.specs.Words.{Event}
use Rattle.xlsx_error.specs.declared.error.XlsxError.{XlsxError}
use Rattle.xlsx_error.specs.declared.error.XlsxError.TheVariants.{FileNotFound}
use Rattle.xlsx_parts.specs.Words.{IfThere, unless_absent}

-- the part at this path is looked for in vain
abbrev pub IsLacking : List ℕ → Option (List Event) → XlsxError → Type 0
IsLacking path part (FileNotFound wanted) = (string_bytes wanted ≡ path) × (part ≡ None)
IsLacking path part _ = ⊥

-- what is said, if it isn't nothing
abbrev pub if_needed : {A : Type 0} → Option (Option A) → Option A
if_needed None = None
if_needed (Some own) = own

-- what says something isn't refused for saying nothing
pub needed_sound : {A : Type 0} (said : Option (Option A)) (needed : A) (cause lack : Type 0)
    → ((some : A) → said ≡ Some (Some some) → cause → ⊥)
    → if_needed said ≡ Some needed → cause ⊎ ((said ≡ Some None) × lack) → ⊥
needed_sound None needed cause lack sound says is = absurd (cc)
needed_sound (Some None) needed cause lack sound says is = absurd (cc)
needed_sound (Some (Some own)) needed cause lack sound says (inl is) = sound own refl is
needed_sound (Some (Some own)) needed cause lack sound says (inr is) =
    let none = is.0 in
    absurd (cc)

-- a part that may be absent has no cause where it says something
pub absent_sound : {A : Type 0} (absent : A) (said : List Event → Option A)
    (cause : List Event → XlsxError → Type 0)
    → ((events : List Event) (own : A) (error : XlsxError) → said events ≡ Some own
    → cause events error → ⊥)
    → (part : Option (List Event)) (own : A) (error : XlsxError)
    → unless_absent absent part (option_and_then said part) ≡ Some own
    → IfThere cause part error → ⊥
absent_sound absent said cause sound None own error says is = is
absent_sound absent said cause sound (Some events) own error says is =
    sound events own error says is

lacks_nothing : (path : List ℕ) (events : List Event) (error : XlsxError)
    → IsLacking path (Some events) error → ⊥
lacks_nothing path events (FileNotFound wanted) lacks = let none = lacks.1 in absurd (cc)
lacks_nothing path events _ lacks = lacks

-- nor has one that has to be there
pub required_sound : {A : Type 0} (path : List ℕ) (said : List Event → Option A)
    (cause : List Event → XlsxError → Type 0)
    → ((events : List Event) (own : A) (error : XlsxError) → said events ≡ Some own
    → cause events error → ⊥)
    → (part : Option (List Event)) (own : A) (error : XlsxError)
    → option_and_then said part ≡ Some own
    → IsLacking path part error ⊎ IfThere cause part error → ⊥
required_sound path said cause sound None own error says is = absurd (cc)
required_sound path said cause sound (Some events) own error says (inl lacks) =
    lacks_nothing path events error lacks
required_sound path said cause sound (Some events) own error says (inr is) =
    sound events own error says is
