-- When a comparison answers that two values are the same, and when a copy is what was copied.
use Rattle.std.specs.Prelude.{◌≡◌, ◌↔◌, Bool, true}

-- the comparison holds of two values exactly where they are the same
abbrev pub IsEquality : {X : Type 0} → (X → X → Bool) → Type 0
IsEquality {X} eq = (a b : X) → (eq a b ≡ true) ↔ (a ≡ b)

-- the comparison holds of two values exactly where what is seen of them is the same
abbrev pub IsEqualityBy : {X Y : Type 0} → (X → Y) → (X → X → Bool) → Type 0
IsEqualityBy {X} seen eq = (a b : X) → (eq a b ≡ true) ↔ (seen a ≡ seen b)

-- every copy of a value is that value, and making one doesn't fail
abbrev pub CopiesItself : {X : Type 0} → (X → X → Type 0) → (X → Type 0) → Type 0
CopiesItself {X} is_clone is_infallible =
    ((value copy : X) → is_clone value copy → copy ≡ value) × ((value : X) → is_infallible value)
