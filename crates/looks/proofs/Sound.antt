-- What is said by a look has no cause of a refusal.
use Rattle.std.proofs.Common.{◌≡◌, List, Option, Some, None, inl, inr, refl}
use Rattle.std.specs.Prelude.{◌⊎◌, option_map, option_and_then, MatchOption}
use Rattle.part_events.specs.Words.{Part, part_of}
use Rattle.xlsx_error.specs.declared.error.XlsxError.{XlsxError}
use Rattle.xlsx_parts.proofs.ManySaid.{no_some_cause}
use Rattle.looks.specs.Look.{Look, says, refuses, asks, and_then, both, for_each, mapped}
use Rattle.looks.specs.Look.{paired_said, look_said, LookCause}

behind_sound : {A B : Type 0} (first : Option A) (next : A → Option B) (own : Type 0)
    (cause : A → Type 0) (b : B) → ((a : A) → first ≡ Some a → own → ⊥)
    → ((a : A) → next a ≡ Some b → cause a → ⊥)
    → option_and_then next first ≡ Some b → own ⊎ MatchOption first ⊥ cause → ⊥
behind_sound None next own cause b first behind is fails = absurd (cc)
behind_sound (Some a) next own cause b first behind is (inl fails) = first a refl fails
behind_sound (Some a) next own cause b first behind is (inr fails) = behind a is fails

both_sound : {A B C : Type 0} (f : A → B → C) (first : Option A) (second : Option B)
    (one two : Type 0) (c : C) → ((a : A) → first ≡ Some a → one → ⊥)
    → ((b : B) → second ≡ Some b → two → ⊥) → paired_said f first second ≡ Some c
    → one ⊎ two → ⊥
both_sound f None second one two c never_one never_two is fails = absurd (cc)
both_sound f (Some a) None one two c never_one never_two is fails = absurd (cc)
both_sound f (Some a) (Some b) one two c never_one never_two is (inl fails) =
    never_one a refl fails
both_sound f (Some a) (Some b) one two c never_one never_two is (inr fails) =
    never_two b refl fails

map_sound : {A B : Type 0} (f : A → B) (said : Option A) (own : Type 0) (b : B)
    → ((a : A) → said ≡ Some a → own → ⊥) → option_map f said ≡ Some b → own → ⊥
map_sound f None own b sound is cause = absurd (cc)
map_sound f (Some a) own b sound is cause = sound a refl cause

pub said_has_no_cause : {A : Type 0} (look : Look A) (parts : List Part) (own : A)
    (error : XlsxError) → look_said look parts ≡ Some own → LookCause look parts error → ⊥
said_has_no_cause (says a) parts own error is cause = cause
said_has_no_cause (refuses why) parts own error is cause = absurd (cc)
said_has_no_cause (asks path ask) parts own error is cause =
    ask.sound (part_of parts path) own error is cause
said_has_no_cause (and_then {A = A} first next) parts own error is cause =
    behind_sound (look_said first parts) (λ (a : A). look_said (next a) parts)
    (LookCause first parts error) (λ (a : A). LookCause (next a) parts error) own
    (λ a. said_has_no_cause first parts a error)
    (λ a. said_has_no_cause (next a) parts own error) is cause
said_has_no_cause (both f first second) parts own error is cause =
    both_sound f (look_said first parts) (look_said second parts) (LookCause first parts error)
    (LookCause second parts error) own (λ a. said_has_no_cause first parts a error)
    (λ b. said_has_no_cause second parts b error) is cause
said_has_no_cause (for_each {X = X} look xs) parts own error is cause =
    no_some_cause (λ (x : X). look_said (look x) parts) (λ (x : X). LookCause (look x) parts) xs error
    own (λ x found. said_has_no_cause (look x) parts found error) is cause
said_has_no_cause (mapped f look) parts own error is cause =
    map_sound f (look_said look parts) (LookCause look parts error) own
    (λ a. said_has_no_cause look parts a error) is cause
