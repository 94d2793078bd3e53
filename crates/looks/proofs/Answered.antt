-- How what a call was answered by a look is put in another way.
use Rattle.std.proofs.Common.{◌≡◌, ◌∙◌, Option, Some, Ok, Err, refl, ap, arith}
use Rattle.std.specs.Prelude.{option_map}
use Rattle.part_events.specs.Words.{PackageState}
use Rattle.xlsx_error.specs.declared.error.XlsxError.{XlsxError}
use Rattle.xlsx_error.specs.declared.error.XlsxError.TheVariants.{OutOfMemory}
use Rattle.xlsx_sections.specs.Words.{Answers, Ask}
use Rattle.xlsx_sections.proofs.Failing.{same_parts}
use Rattle.looks.specs.Look.{Look, look_ask, mapped, paired_said, says}

-- what is known takes nothing
pub says_answered : {A T : Type 0} {kind : XlsxError → Type 0} (a : A) (seen : T → A) (own : T)
    (state : PackageState) → a ≡ seen own
    → Answers (look_ask kind (says a)) seen (Ok own) state state
says_answered a seen own state same = record {
  uses = record {
    parts = same_parts state;
    faults = refl;
    forward = omega arith;
    taken = λ told. omega arith;
  };
  to_end = λ told. omega arith;
  said = λ told. ap (λ (own : _). Some own) same;
  err = tt;
  kind = tt;
}

-- nor does what is refused at once for want of memory
pub refused_at_once : {A T : Type 0} (ask : Ask A) (seen : T → A) (state : PackageState)
    → ask.kind OutOfMemory → Answers ask seen (Err OutOfMemory) state state
refused_at_once ask seen state kind = record {
  uses = record {
    parts = same_parts state;
    faults = λ other. refl;
    forward = omega arith;
    taken = λ told. omega arith;
  };
  to_end = λ told. tt;
  said = λ told. tt;
  err = tt;
  kind = kind;
}

-- memory is wanted behind what was answered
pub refused_behind : {A TA TB : Type 0} {ask : Ask A} {view : TA → A} {a : TA}
    {old new : PackageState} (seen : TB → A) → ask.kind OutOfMemory
    → Answers ask view (Ok a) old new → Answers ask seen (Err OutOfMemory) old new
refused_behind seen kind one = record {
  uses = record {
    parts = one.uses.parts;
    faults = λ other. one.uses.faults;
    forward = one.uses.forward;
    taken = one.uses.taken;
  };
  to_end = λ told. tt;
  said = λ told. tt;
  err = tt;
  kind = kind;
}

-- what was said is put in another way
pub mapped_said : {A B TA TB : Type 0} {own kind : XlsxError → Type 0} {view : TA → A} {a : TA}
    {b : TB} {old new : PackageState} (f : A → B) (look : Look A) (seen : TB → B)
    → f (view a) ≡ seen b → Answers (look_ask own look) view (Ok a) old new
    → Answers (look_ask kind (mapped f look)) seen (Ok b) old new
mapped_said f look seen same one = record {
  uses = one.uses;
  to_end = one.to_end;
  said = λ told. ap (option_map f) (one.said told) ∙ ap (λ (own : _). Some own) same;
  err = tt;
  kind = tt;
}

-- and what was refused
pub mapped_refused : {A B TA TB : Type 0} {own kind : XlsxError → Type 0} {view : TA → A}
    {error : XlsxError} {old new : PackageState} (f : A → B) (look : Look A) (seen : TB → B)
    → (own error → kind error) → Answers (look_ask own look) view (Err error) old new
    → Answers (look_ask kind (mapped f look)) seen (Err error) old new
mapped_refused f look seen kinds one = record {
  uses = one.uses;
  to_end = λ told. tt;
  said = λ told. tt;
  err = one.err;
  kind = kinds one.kind;
}

-- what two looks say, put together
pub paired_is : {A B C : Type 0} (f : A → B → C) (first : Option A) (second : Option B) (a : A)
    (b : B) → first ≡ Some a → second ≡ Some b → paired_said f first second ≡ Some (f a b)
paired_is f first second a b one two =
    ap (λ (own : Option _). paired_said f own second) one ∙ ap (option_map (f a)) two
