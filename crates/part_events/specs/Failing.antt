-- A package in memory some calls of which fail: which ones, and what a call counts.
use Rattle.std.specs.Prelude.{◌≡◌, ℕ, ◌+◌, ◌-◌, ◌^◌, min, List, Bool, ◌==◌, if◌then◌else◌}
use Rattle.std.specs.List.{list_any}
use Rattle.part_events.specs.Memory.{Contents, state_of}
use Rattle.part_events.specs.Package.{PackageState}

-- the package, the numbers of the calls that fail, how many calls were made, and how many of them
-- failed
pub record Planned : Type 0 where
  pub inner : Contents
  pub calls : List ℕ
  pub made : ℕ
  pub faults : ℕ

-- the state of a package whose calls fail by a plan: that of the package inside, with the faults
-- of the plan
abbrev pub planned_state : Planned → PackageState
planned_state held = record (state_of held.inner) { faults = held.faults }

-- the next call is one of those that fail by the plan
abbrev pub fails_next : Planned → Bool
fails_next held = list_any (λ call. call == held.made) held.calls

-- what a call of a package whose calls fail by a plan counts; both counts stop at their last value
pub record CountsCall (is_refused : Bool) (old new : Planned) : Type 0 where
  pub refused : is_refused ≡ fails_next old
  pub calls : new.calls ≡ old.calls
  pub made : new.made ≡ min (old.made + 1) (2 ^ 64 - 1)
  pub faults : new.faults ≡ (if is_refused then min (old.faults + 1) (2 ^ 64 - 1) else old.faults)
