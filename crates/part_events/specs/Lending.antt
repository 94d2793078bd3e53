-- What a call that lends its package can say of a fault. A refusal doesn't hand the package back,
-- so nothing is said of what it is then.
use Rattle.std.specs.Prelude.{◌≡◌}
use Rattle.part_events.specs.Package.{PackageState, SameParts, HasCause}

-- the package has a state of the same parts in which its count of faults rose, or stands at its end
pub record MeetsFault {P : Type 0} (state : P → PackageState) (old : PackageState) : Type 0 where
  pub met : P
  pub parts : SameParts old (state met)
  pub cause : HasCause old (state met)

-- a call to which a package is lent is refused by this fault only where the package had a fault
abbrev pub LentFails :
    {E P : Type 0} → E → (P → PackageState) → PackageState → E → Type 0
LentFails fault state old error = error ≡ fault → MeetsFault state old
