-- How calls that were answered by looks answer another one.
use Rattle.std.proofs.Common.{◌≡◌, ℕ, List, [], Option, Some, Ok, Err, sym, ◌∙◌, ap, append-nil}
use Rattle.std.proofs.Common.{subst, inl, inr, arith}
use Rattle.std.specs.Prelude.{option_and_then, MatchOption}
use Rattle.std.specs.List.{sum_by}
use Rattle.std.specs.Option.{option_map_or}
use Rattle.part_events.specs.Words.{PackageState}
use Rattle.part_events.proofs.Uses.{same_further}
use Rattle.xlsx_error.specs.declared.error.XlsxError.{XlsxError}
use Rattle.xlsx_sections.specs.Words.{Answers}
use Rattle.xlsx_sections.proofs.Failing.{fails_by_weaker, same_parts}
use Rattle.xlsx_parts.specs.Words.{Leads, all_said}
use Rattle.xlsx_parts.proofs.ManySaid.{said_before}
use Rattle.looks.specs.Look.{Look, and_then, for_each, look_ask, look_said, LookCause, look_most}
use Rattle.looks.specs.Look.{look_exact}

counted : {A : Type 0} (count : A → ℕ) (found : Option A) (a : A) → found ≡ Some a
    → count a ≡ option_map_or count found 0
counted count found a is = ap (λ (own : Option _). option_map_or count own 0) (sym is)

-- the first of two steps is refused
pub then_refused : {A B TA TB : Type 0} {own kind : XlsxError → Type 0} {view : TA → A}
    {error : XlsxError} {old new : PackageState} (first : Look A) (next : A → Look B)
    (seen : TB → B) → ((e : XlsxError) → own e → kind e)
    → Answers {A = TA} (look_ask own first) view (Err error) old new
    → Answers {A = TB} (look_ask kind (and_then first next)) seen (Err error) old new
then_refused {A = A} {error = error} {old = old} {new = new} first next seen kinds one = record {
  uses = record {
    parts = one.uses.parts;
    faults = one.uses.faults;
    forward = one.uses.forward;
    taken = λ told.
        let bound = one.uses.taken told in
        omega (arith, bound);
  };
  to_end = λ told. tt;
  said = λ told. tt;
  err = fails_by_weaker (LookCause (and_then first next) old.parts) (LookCause first old.parts) new
      error (same_parts old) (λ told cause. inl cause) one.err;
  kind = kinds error one.kind;
}

-- the second is refused
pub next_refused : {A B TA TB : Type 0} {own other kind : XlsxError → Type 0} {view : TA → A}
    {a : TA} {error : XlsxError} {old mid new : PackageState} (first : Look A) (next : A → Look B)
    (seen : TB → B) → ((e : XlsxError) → other e → kind e)
    → Answers (look_ask own first) view (Ok a) old mid
    → Answers {A = TB} (look_ask other (next (view a))) seen (Err error) mid new
    → Answers {A = TB} (look_ask kind (and_then first next)) seen (Err error) old new
next_refused {A = A} {view = view} {a = a} {error = error} {old = old} {mid = mid} {new = new} first
    next seen kinds one two = record {
      uses = record {
        parts = same_further one.uses.parts two.uses.parts;
        faults = λ fault. two.uses.faults fault ∙ one.uses.faults;
        forward = omega (arith, one.uses.forward, two.uses.forward);
        taken = λ told.
            let count : A → ℕ = λ (x : A). look_most (next x) old.parts in
            let same = counted count (look_said first old.parts) (view a) (one.said told) in
            let bound = one.uses.taken told in
            let more = rw one.uses.parts.parts at (two.uses.taken (one.uses.parts.is_visible ∙ told)) in
            omega (arith, same, bound, more);
      };
      to_end = λ told. tt;
      said = λ told. tt;
      err = fails_by_weaker (LookCause (and_then first next) old.parts)
          (LookCause (next (view a)) mid.parts) new error one.uses.parts
          (λ told cause.
          inr (subst (λ (found : Option A).
          MatchOption found ⊥ (λ (x : A). LookCause (next x) old.parts error)) (sym (one.said told))
          (rw one.uses.parts.parts at cause))) two.err;
      kind = kinds error two.kind;
    }

-- none is
pub next_said : {A B TA TB : Type 0} {own other kind : XlsxError → Type 0} {view : TA → A}
    {a : TA} {b : TB} {old mid new : PackageState} (first : Look A) (next : A → Look B)
    (seen : TB → B) → Answers (look_ask own first) view (Ok a) old mid
    → Answers (look_ask other (next (view a))) seen (Ok b) mid new
    → Answers (look_ask kind (and_then first next)) seen (Ok b) old new
next_said {A = A} {B = B} {view = view} {a = a} {old = old} {mid = mid} {new = new} first next seen
    one two = record {
      uses = record {
        parts = same_further one.uses.parts two.uses.parts;
        faults = two.uses.faults ∙ one.uses.faults;
        forward = omega (arith, one.uses.forward, two.uses.forward);
        taken = λ told.
            let count : A → ℕ = λ (x : A). look_most (next x) old.parts in
            let same = counted count (look_said first old.parts) (view a) (one.said told) in
            let bound = one.uses.taken told in
            let more = rw one.uses.parts.parts at (two.uses.taken (one.uses.parts.is_visible ∙ told)) in
            omega (arith, same, bound, more);
      };
      to_end = λ told.
          let count : A → ℕ = λ (x : A). look_exact (next x) old.parts in
          let same = counted count (look_said first old.parts) (view a) (one.said told) in
          let exact = one.to_end told in
          let more = rw one.uses.parts.parts at (two.to_end (one.uses.parts.is_visible ∙ told)) in
          omega (arith, same, exact, more);
      said = λ told.
          ap (option_and_then (λ (x : A). look_said (next x) old.parts)) (one.said told)
          ∙ rw one.uses.parts.parts at (two.said (one.uses.parts.is_visible ∙ told));
      err = tt;
      kind = tt;
    }

-- what is read one by one is known, and each of it is still to be asked
pub each_leads : {X A T : Type 0} {own kind : XlsxError → Type 0} {view : T → List X} {answer : T}
    {before : List A} {old mid : PackageState} (first : Look (List X)) (look : X → Look (List A))
    → Answers (look_ask own first) view (Ok answer) old mid
    → Leads (look_ask kind (for_each look (view answer))) before mid
    (look_ask kind (and_then first (λ (xs : List X). for_each look xs))) before old
each_leads {X = X} {A = A} {view = view} {answer = answer} {before = before} {old = old} first look
    one =
    let said : X → Option (List A) = λ (x : X). look_said (look x) old.parts in
    record {
      same = one.uses.parts;
      faults = one.uses.faults;
      forward = one.uses.forward;
      most = λ told.
          let count : List X → ℕ = sum_by (λ (x : X). look_most (look x) old.parts) in
          let same = counted count (look_said first old.parts) (view answer) (one.said told) in
          let bound = one.uses.taken told in
          omega (arith, same, bound);
      exact = λ told.
          let count : List X → ℕ = sum_by (λ (x : X). look_exact (look x) old.parts) in
          let same = counted count (look_said first old.parts) (view answer) (one.said told) in
          let exact = one.to_end told in
          omega (arith, same, exact);
      said = λ told. (
        [],
        sym (append-nil before),
        said_before (all_said said (view answer))
            ∙ ap (option_and_then (all_said said)) (sym (one.said told)),
      );
      cause = λ told error cause. inr (rw (one.said told) cause);
    }
