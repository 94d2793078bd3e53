-- What an option was made of.
use Rattle.std.proofs.Common.{◌≡◌, Some, None, Option, refl}
use Rattle.std.specs.Prelude.{option_map, option_and_then}

pub record CameFrom {A : Type 0} (o : Option A) (holds : A → Type 0) : Type 0 where
  pub value : A
  pub was : o ≡ Some value
  pub is : holds value

module _ {A B : Type 0} where
  pub mapped_from : (f : A → B) (o : Option A) (b : B) → option_map f o ≡ Some b →
      CameFrom o (λ a. f a ≡ b)
  mapped_from f None b is = absurd (cc)
  mapped_from f (Some a) b is = record { value = a; was = refl; is = cc }

  pub taken_from : (f : A → Option B) (o : Option A) (b : B) → option_and_then f o ≡ Some b →
      CameFrom o (λ a. f a ≡ Some b)
  taken_from f None b is = absurd (cc)
  taken_from f (Some a) b is = record { value = a; was = refl; is = is }
