-- What says something is said from something.
use Rattle.std.proofs.Common.{◌≡◌, Option, Some, None, refl}
use Rattle.std.specs.Prelude.{option_map, option_and_then}

pub mapped_from : {A B : Type 0} (f : A → B) (found : Option A) (all : B)
    → option_map f found ≡ Some all → (own : A) × (found ≡ Some own)
mapped_from f None all is = absurd (cc)
mapped_from f (Some own) all is = (own, refl)

pub and_then_from : {A B : Type 0} (f : A → Option B) (found : Option A) (all : B)
    → option_and_then f found ≡ Some all → (own : A) × (found ≡ Some own) × (f own ≡ Some all)
and_then_from f None all is = absurd (cc)
and_then_from f (Some own) all is = (own, refl, is)
