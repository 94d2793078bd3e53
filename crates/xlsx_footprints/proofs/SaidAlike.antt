-- What is said of several parts, one after the other, by packages that agree on each.
use Rattle.std.proofs.Common.{◌≡◌, List, [], ◌∷◌, Option, Some, None, refl, ◌∙◌, ap, inl, inr}
use Rattle.std.specs.Prelude.{MatchOption, option_and_then}
use Rattle.part_events.specs.Words.{Part}
use Rattle.xlsx_error.specs.declared.error.XlsxError.{XlsxError}
use Rattle.xlsx_parts.specs.Words.{all_said, put_together, SomeCause}
use Rattle.looks.specs.Words.{Look, for_each, look_said, LookCause, HaveSameLook}
use Rattle.looks.proofs.Alike.{said_alike, cause_alike}
use Rattle.xlsx_footprints.specs.Footprints.{Each}

pub each_over : {X : Type 0} (one two : X → Type 0) (xs : List X) → ((x : X) → one x → two x)
    → Each one xs → Each two xs
each_over one two [] over each = tt
each_over one two (x ∷ xs) over each =
    (over x each.0, each_over one two xs over each.1)

pub said_over : {X A : Type 0} (one two : X → Option (List A)) (xs : List X)
    → Each (λ x. one x ≡ two x) xs → all_said one xs ≡ all_said two xs
said_over one two [] each = refl
said_over one two (x ∷ xs) each =
    ap (λ own. put_together own (all_said one xs)) each.0
    ∙ ap (put_together (two x)) (said_over one two xs each.1)

pub some_over : {X : Type 0} (one two : X → XlsxError → Type 0) (xs : List X) (error : XlsxError)
    → Each (λ x. one x error → two x error) xs → SomeCause one xs error → SomeCause two xs error
some_over one two [] error each cause = cause
some_over one two (x ∷ xs) error each (inl cause) = inl (each.0 cause)
some_over one two (x ∷ xs) error each (inr cause) = inr (some_over one two xs error each.1 cause)

-- what goes on from something
pub then_over : {X A : Type 0} (found : Option X) (one two : X → Option A)
    → ((x : X) → found ≡ Some x → one x ≡ two x)
    → option_and_then one found ≡ option_and_then two found
then_over None one two same = refl
then_over (Some x) one two same = same x refl

pub cause_over : {X : Type 0} (found : Option X) (one two : X → Type 0)
    → ((x : X) → found ≡ Some x → one x → two x) → MatchOption found ⊥ one
    → MatchOption found ⊥ two
cause_over None one two over cause = cause
cause_over (Some x) one two over cause = over x refl cause

-- what is read for each of several, one after the other
module _ {X A : Type 0} (look : X → Look (List A)) (one two : List Part) where
  -- two packages have the same parts where one of these looks goes
  abbrev same : X → Type 0
  same x = HaveSameLook (look x) one two

  pub looks_over : (xs : List X) → Each same xs
      → look_said (for_each look xs) one ≡ look_said (for_each look xs) two
  looks_over xs each =
      said_over (λ x. look_said (look x) one) (λ x. look_said (look x) two) xs
      (each_over same (λ x. look_said (look x) one ≡ look_said (look x) two) xs
      (λ x own. said_alike (look x) one two own) each)

  pub looks_cause_over : (xs : List X) (error : XlsxError) → Each same xs
      → LookCause (for_each look xs) one error → LookCause (for_each look xs) two error
  looks_cause_over xs error each cause =
      some_over (λ x. LookCause (look x) one) (λ x. LookCause (look x) two) xs error
      (each_over same (λ x. LookCause (look x) one error → LookCause (look x) two error) xs
      (λ x own. cause_alike (look x) one two error own) each) cause
