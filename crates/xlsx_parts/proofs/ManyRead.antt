-- How calls for each of many lead to one that asks all of them.
use Rattle.std.proofs.Common.{◌≡◌, ◌+◌, ◌≤◌, ℕ, List, [], ◌∷◌, ◌++◌, Some, Ok, Err, refl, sym, ◌∙◌}
use Rattle.std.proofs.Common.{ap, append_assoc, append-nil, arith, inl, inr}
use Rattle.std.proofs.lemmas.List.Sums.{sum_by-cons}
use Rattle.std.specs.List.{sum_by}
use Rattle.part_events.specs.Words.{PackageState, CountsUp}
use Rattle.part_events.proofs.Uses.{same_further}
use Rattle.xlsx_error.specs.declared.error.XlsxError.{XlsxError}
use Rattle.xlsx_sections.specs.Words.{Ask, Answers}
use Rattle.xlsx_sections.proofs.Failing.{fails_by_weaker, same_parts}
use Rattle.xlsx_parts.specs.ManyAsked.{Appends, Leads, each}
use Rattle.xlsx_parts.proofs.ManySaid.{said_of_one, said_of_none, said_before}

-- what is kept behind what was kept behind something
pub kept_behind : {A : Type 0} (before kept after first found : List A) → kept ≡ before ++ first
    → after ≡ kept ++ found → after ≡ before ++ (first ++ found)
kept_behind before kept after first found was is =
    is ∙ ap (λ (own : List _). own ++ found) was ∙ append_assoc before first found

-- one more of many is read, of which so many events may be taken
sum_further : {X : Type 0} (count : X → ℕ) (x : X) (xs : List X) (before now new all : ℕ)
    → now + sum_by count (x ∷ xs) ≤ before + all → new ≤ now + count x
    → new + sum_by count xs ≤ before + all
sum_further count x xs before now new all so_far step =
    let first = sum_by-cons count x xs in
    omega (arith, first, so_far, step)

-- and so many are
counts_further : {X : Type 0} (count : X → ℕ) (x : X) (xs : List X) (before now new all : ℕ)
    → CountsUp all before (now + sum_by count (x ∷ xs)) → CountsUp (count x) now new
    → CountsUp all before (new + sum_by count xs)
counts_further count x xs before now new all so_far step =
    let first = sum_by-cons count x xs in
    omega (arith, first, so_far, step)

-- before the first of them
pub leads_first : {A : Type 0} (ask : Ask (List A)) (before : List A) (first : PackageState)
    → Leads ask before first ask before first
leads_first ask before first = record {
  same = same_parts first;
  faults = refl;
  forward = omega arith;
  most = λ told. omega arith;
  exact = λ told. refl;
  said = λ told. ([], sym (append-nil before), said_before (ask.said first.parts));
  cause = λ told error cause. cause;
}

-- behind one more
pub leads_on : {X A R : Type 0} {kind : XlsxError → Type 0} {whole : Ask (List A)}
    {before now next : List A} {first here new : PackageState} {answer : R} (ask : X → Ask (List A))
    (x : X) (xs : List X) → Leads (each kind ask (x ∷ xs)) now here whole before first
    → Appends (ask x) now next (Ok answer) here new
    → Leads (each kind ask xs) next new whole before first
leads_on {X = X} {whole = whole} {before = before} {now = now} {next = next} {first = first}
    {here = here} {new = new} ask x xs leads step = record {
      same = same_further leads.same step.uses.parts;
      faults = step.uses.faults ∙ leads.faults;
      forward = omega (arith, leads.forward, step.uses.forward);
      most = λ told.
          sum_further (λ (own : X). (ask own).most first.parts) x xs first.taken here.taken
          new.taken (whole.most first.parts) (leads.most told)
          (rw leads.same.parts at (step.uses.taken (leads.same.is_visible ∙ told)));
      exact = λ told.
          counts_further (λ (own : X). (ask own).exact first.parts) x xs first.taken here.taken
          new.taken (whole.exact first.parts) (leads.exact told)
          (rw leads.same.parts at (step.to_end (leads.same.is_visible ∙ told)));
      said = λ told.
          let so_far = leads.said told in
          let own = step.said (leads.same.is_visible ∙ told) in (
            so_far.0 ++ own.0,
            kept_behind before now next so_far.0 own.0 so_far.1 own.2,
            said_of_one (λ (each : X). (ask each).said first.parts) so_far.0 own.0 x xs
                (rw leads.same.parts at own.1) ∙ so_far.2,
          );
      cause = λ told error cause. leads.cause told error (inr cause);
    }

-- one of them is refused, and so is what was asked
pub leads_refused : {X A R T : Type 0} {kind : XlsxError → Type 0} {whole : Ask (List A)}
    {before now next : List A} {first here new : PackageState} {error : XlsxError}
    (ask : X → Ask (List A)) (x : X) (xs : List X) (after : List A)
    → ((ask x).kind error → whole.kind error)
    → Leads (each kind ask (x ∷ xs)) now here whole before first
    → Appends {R = R} (ask x) now next (Err error) here new
    → Appends {R = T} whole before after (Err error) first new
leads_refused {X = X} {whole = whole} {first = first} {here = here} {new = new} {error = error} ask
    x xs after kinds leads step = record {
      uses = record {
        parts = same_further leads.same step.uses.parts;
        faults = λ other. step.uses.faults other ∙ leads.faults;
        forward = omega (arith, leads.forward, step.uses.forward);
        taken = λ told.
            let count : X → ℕ = λ (own : X). (ask own).most first.parts in
            let both = sum_by-cons count x xs in
            let so_far = leads.most told in
            let own = rw leads.same.parts at (step.uses.taken (leads.same.is_visible ∙ told)) in
            omega (arith, both, so_far, own);
      };
      to_end = λ told. tt;
      said = λ told. tt;
      err =
          fails_by_weaker (whole.cause first.parts) ((ask x).cause here.parts) new error leads.same
          (λ told cause. leads.cause told error (inl (rw leads.same.parts at cause))) step.err;
      kind = kinds step.kind;
    }

-- none is left
pub leads_done : {X A T : Type 0} {kind : XlsxError → Type 0} {whole : Ask (List A)}
    {before now : List A} {first here : PackageState} {answer : T} (ask : X → Ask (List A))
    → Leads (each kind ask []) now here whole before first
    → Appends whole before now (Ok answer) first here
leads_done {X = X} {first = first} ask leads = record {
  uses = record {
    parts = leads.same;
    faults = leads.faults;
    forward = leads.forward;
    taken = λ told. omega (arith, leads.most told);
  };
  to_end = λ told. let exact = leads.exact told in omega (arith, exact);
  said = λ told.
      let so_far = leads.said told in (
        so_far.0,
        sym so_far.2 ∙ said_of_none (λ (own : X). (ask own).said first.parts) so_far.0,
        so_far.1,
      );
  err = tt;
  kind = tt;
}

-- what was kept behind nothing is what is said
pub answers_all : {A T : Type 0} {ask : Ask (List A)} {after : List A} {old new : PackageState}
    (view : T → List A) (value : T) → after ≡ view value
    → Appends {R = Unit {0}} ask [] after (Ok tt) old new → Answers ask view (Ok value) old new
answers_all {ask = ask} {old = old} view value same kept = record {
  uses = kept.uses;
  to_end = kept.to_end;
  said = λ told.
      let found = kept.said told in
      found.1 ∙ ap (λ (all : List _). Some all) (sym found.2 ∙ same);
  err = tt;
  kind = tt;
}

-- and a refusal is one of it
pub answers_refused : {A T : Type 0} {ask : Ask (List A)} {before after : List A}
    {old new : PackageState} {error : XlsxError} (view : T → List A)
    → Appends {R = Unit {0}} ask before after (Err error) old new
    → Answers ask view (Err error) old new
answers_refused view kept = record {
  uses = kept.uses;
  to_end = λ told. tt;
  said = λ told. tt;
  err = kept.err;
  kind = kept.kind;
}
