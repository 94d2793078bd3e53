-- How calls on a package follow one another.
use Rattle.std.proofs.Common.{◌+◌, ◌≤◌, ℕ, Result, Ok, Err, ◌∙◌, arith}
use Rattle.part_events.specs.Package.{PackageState, SameParts, UsesPackage, LeavesPackage, Uses}

-- one call behind another
pub same_further : {old mid new : PackageState} → SameParts old mid → SameParts mid new
    → SameParts old new
same_further first second = record {
  is_visible = second.is_visible ∙ first.is_visible;
  parts = second.parts ∙ first.parts;
  faults = omega (arith, first.faults, second.faults);
  takes_memory = second.takes_memory ∙ first.takes_memory;
}

pub uses_then : {few more most : ℕ} {old mid new : PackageState} → few + more ≤ most
    → UsesPackage few old mid → UsesPackage more mid new → UsesPackage most old new
uses_then less first second = record {
  parts = same_further first.parts second.parts;
  faults = second.faults ∙ first.faults;
  forward = omega (arith, first.forward, second.forward);
  taken = λ told. omega (
    arith,
    less,
    first.taken told,
    second.taken (first.parts.is_visible
        ∙ told),
  );
}

pub leaves_then : {E : Type 0} {fault error : E} {few more most : ℕ} {old mid new : PackageState}
    → few + more ≤ most → UsesPackage few old mid → LeavesPackage more fault mid new error
    → LeavesPackage most fault old new error
leaves_then less first second = record {
  parts = same_further first.parts second.parts;
  faults = λ other. second.faults other ∙ first.faults;
  forward = omega (arith, first.forward, second.forward);
  taken = λ told. omega (
    arith,
    less,
    first.taken told,
    second.taken (first.parts.is_visible
        ∙ told),
  );
}

-- what a call takes behind another one, whatever it answers
pub uses_behind : {A E : Type 0} (fault : E) (result : Result A E) (few more most : ℕ)
    (old mid new : PackageState) → few + more ≤ most → UsesPackage few old mid
    → Uses more fault result mid new → Uses most fault result old new
uses_behind fault (Ok value) few more most old mid new less first second =
    uses_then less first second
uses_behind fault (Err error) few more most old mid new less first second =
    leaves_then less first second
