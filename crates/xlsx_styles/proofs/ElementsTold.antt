-- What a call says that reads an element, by what the call says that it hands on.
use Rattle.std.proofs.Common.{◌≡◌, true, List, Result, Ok, Err, sym, subst}
use Rattle.std.specs.Prelude.{IsErrAnd}
use Rattle.part_events.specs.Words.{Event, Reading, PassesElement, LeavesPart, ahead, content}
use Rattle.xlsx_error.specs.declared.error.XlsxError.{XlsxError}
use Rattle.xlsx_error.specs.declared.error.XlsxError.TheVariants.{Io}
use Rattle.xlsx_sections.specs.Words.{ElementReadFails, Ending, Refusal}
use Rattle.xlsx_styles.specs.ReadElements.{ReadsInside}

-- what stands in the element was answered
pub told_inside : {A B : Type 0} {meaning : List Event → Result B Refusal} {said : A → B}
    {ending : Ending} {Kind : XlsxError → Type 0} {old new : Reading} (own : A)
    → PassesElement old new
    → (old.source.is_visible ≡ true → meaning (content 0 (ahead old)) ≡ Ok (said own))
    → ReadsInside meaning said ending Kind (Ok own) old new
told_inside own passes says = record { reads = passes; says = says; err = tt; kind = tt }

-- a `?` gives back why the element is refused
pub refused_inside : {A B : Type 0} {meaning : List Event → Result B Refusal} {said : A → B}
    {ending : Ending} {Kind : XlsxError → Type 0} {old new : Reading} {error : XlsxError}
    (result : Result A XlsxError) → IsErrAnd result (λ own. own ≡ error)
    → LeavesPart Io old new error → ElementReadFails ending meaning old new error → Kind error
    → ReadsInside meaning said ending Kind result old new
refused_inside (Ok own) is leaves fails kind = absurd is
refused_inside {meaning = meaning} {said = said} {ending = ending} {Kind = Kind} {old = old}
    {new = new} {error = error} (Err own) is leaves fails kind =
    let same : error ≡ own = sym is in
    record {
      reads = subst (λ e. LeavesPart Io old new e) same leaves;
      says = λ _. tt;
      err = subst (λ e. ElementReadFails ending meaning old new e) same fails;
      kind = subst (λ e. Kind e) same kind;
    }
