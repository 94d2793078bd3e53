-- Calls on a package that keep what it says behind what was kept, one for each of many.
use Rattle.std.specs.Prelude.{◌≡◌, ◌+◌, ◌≤◌, List, ◌++◌, map, true, Some, option_map, Result, OnOk}
use Rattle.std.specs.Prelude.{IfErr}
use Rattle.std.specs.List.{sum_by}
use Rattle.part_events.specs.Words.{PackageState, SameParts, Uses, NeverFalls, CountsUp}
use Rattle.xlsx_error.specs.declared.error.XlsxError.{XlsxError}
use Rattle.xlsx_error.specs.declared.error.XlsxError.TheVariants.{Io}
use Rattle.xlsx_sections.specs.Words.{Ask, FailsBy}
use Rattle.xlsx_parts.specs.PartSaid.{put_together, all_said}
use Rattle.xlsx_parts.specs.WholePart.{SomeCause}

-- a call that asks this was answered, and put what it says behind what was kept before
pub record Appends {A R : Type 0} (ask : Ask (List A)) (before after : List A)
    (result : Result R XlsxError) (old new : PackageState) : Type 0 where
  pub uses : Uses (ask.most old.parts) Io result old new
  pub to_end :
      old.is_visible ≡ true → OnOk result (CountsUp (ask.exact old.parts) old.taken new.taken)
  pub said :
      old.is_visible ≡ true → OnOk result ((found : List A) × (ask.said old.parts ≡ Some found)
      × (after ≡ before ++ found))
  pub err : IfErr result (FailsBy (ask.cause old.parts) old new)
  pub kind : IfErr result ask.kind

-- what is asked by one call for each of many, one behind the other, with refusals of one kind
abbrev pub each : {X A : Type 0} → (XlsxError → Type 0) → (X → Ask (List A)) → List X → Ask (List A)
each {X = X} kind ask xs = record {
  most = λ parts. sum_by (λ (x : X). (ask x).most parts) xs;
  exact = λ parts. sum_by (λ (x : X). (ask x).exact parts) xs;
  said = λ parts. all_said (λ (x : X). (ask x).said parts) xs;
  cause = λ parts. SomeCause (λ (x : X). (ask x).cause parts) xs;
  kind = kind;
}

-- what is asked for a list, each entry of what is said of it put in another way
abbrev pub map_each : {A B : Type 0} → (A → B) → Ask (List A) → Ask (List B)
map_each f ask = record {
  most = ask.most;
  exact = ask.exact;
  said = λ parts. option_map (map f) (ask.said parts);
  cause = ask.cause;
  kind = ask.kind;
}

-- what is left to ask, behind what was kept by now, leads to what was asked first
pub record Leads {A : Type 0} (left : Ask (List A)) (now : List A) (here : PackageState)
    (whole : Ask (List A)) (before : List A) (first : PackageState) : Type 0 where
  pub same : SameParts first here
  pub faults : here.faults ≡ first.faults
  pub forward : NeverFalls first.taken here.taken
  pub most :
      first.is_visible ≡ true →
      here.taken + left.most first.parts ≤ first.taken + whole.most first.parts
  pub exact :
      first.is_visible ≡ true →
      CountsUp (whole.exact first.parts) first.taken (here.taken + left.exact first.parts)
  pub said :
      first.is_visible ≡ true → (found : List A) × (now ≡ before ++ found)
      × (put_together (Some found) (left.said first.parts) ≡ whole.said first.parts)
  pub cause :
      first.is_visible ≡ true → (error : XlsxError) → left.cause first.parts error →
      whole.cause first.parts error
