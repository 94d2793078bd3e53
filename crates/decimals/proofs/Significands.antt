-- What is kept of digits is what the definition of a decimal says of them.
use Rattle.std.proofs.Common.{◌≡◌, ℕ, zero, suc, ◌+◌, ◌-◌, ◌*◌, ◌%◌, ◌^◌, ◌<◌, ◌≤◌, ◌==◌, Bool}
use Rattle.std.proofs.Common.{true, false, cond, ◌&&◌, List, [], ◌∷◌, ◌++◌, length, take, refl, sym}
use Rattle.std.proofs.Common.{ap, ◌∙◌, subst, arith, length-append, append_assoc}
use Rattle.std.specs.Char.{is_ascii_digit, digit_value}
use Rattle.std.specs.List.{prefix_len, take_while}
use Rattle.std.specs.Str.{all_ascii_digits}
use Rattle.std.specs.Str.Parse.{digits_value}
use Rattle.std.proofs.lemmas.Bool.Decides.{nat_tests}
use Rattle.std.proofs.lemmas.Grind.{pow_more}
use Rattle.std.proofs.lemmas.Int.Digits.{digits_value_push}
use Rattle.std.proofs.lemmas.List.{reverse-append, take-append-le, append-nil}
use Rattle.std.proofs.lemmas.List.Sums.{suffix_len-le-length, take_while-cons}
use Rattle.decimals.specs.declared.significand.Significand.{Significand}
use Rattle.decimals.specs.Decimals.{trailing_zeros, without_trailing_zeros}
use Rattle.decimals.specs.Significand.{digit_added, digits_added}

-- s is what is kept of the digits
pub record Keeps (s : Significand) (digits : List ℕ) : Type 0 where
  pub number : s.number ≡ digits_value 10 (without_trailing_zeros digits)
  pub zeros : s.zeros ≡ trailing_zeros digits
  pub count : s.count ≡ length digits
  pub value : s.number * 10 ^ s.zeros ≡ digits_value 10 digits
  pub trimmed : s.number % 10 ≡ 0 → s.number ≡ 0

-- the zeros that end digits, with one digit more
zeros_behind : (digits : List ℕ) (b : ℕ) →
    trailing_zeros (digits ++ b ∷ []) ≡ cond (b == 48) (1 + trailing_zeros digits) 0
zeros_behind digits b = ap (prefix_len (λ c. c == 48)) (reverse-append digits (b ∷ []))

-- a zero more changes nothing but their number
kept_behind_zero : (digits : List ℕ) →
    without_trailing_zeros (digits ++ 48 ∷ []) ≡ without_trailing_zeros digits
kept_behind_zero digits =
    let within = suffix_len-le-length (λ b. b == 48) digits in
    let places : length (digits ++ 48 ∷ []) - trailing_zeros
    (digits ++ 48 ∷ []) ≡ length digits - trailing_zeros digits =
    omega (arith, zeros_behind digits 48, length-append digits (48 ∷ []), within) in
    ap (λ k. take k (digits ++ 48 ∷ [])) places
    ∙ take-append-le (length digits - trailing_zeros digits) digits (48 ∷ []) (omega arith)

pub take_whole : (xs : List ℕ) → take (length xs) xs ≡ xs
take_whole [] = refl
take_whole (x ∷ xs) = ap (λ ys. x ∷ ys) (take_whole xs)

-- any other digit is kept, with all before it
kept_behind_digit : (digits : List ℕ) (b : ℕ) → (b == 48) ≡ false →
    without_trailing_zeros (digits ++ b ∷ []) ≡ digits ++ b ∷ []
kept_behind_digit digits b other =
    let none : trailing_zeros (digits ++ b ∷ []) ≡ 0 =
    zeros_behind digits b ∙ ap (λ t. cond t (1 + trailing_zeros digits) 0) other in
    let places : length (digits ++ b ∷ []) - trailing_zeros (digits ++ b ∷ []) ≡ length
    (digits ++ b ∷ []) = omega (arith, none) in
    ap (λ k. take k (digits ++ b ∷ [])) places ∙ take_whole (digits ++ b ∷ [])

keeps_zero : (s : Significand) (digits : List ℕ) → Keeps s digits →
    Keeps (digit_added s 0) (digits ++ 48 ∷ [])
keeps_zero s digits keeps =
    let push = digits_value_push 10 digits 48 in
    let step = pow_more 10 s.zeros in
    record {
      number = keeps.number ∙ ap (digits_value 10) (sym (kept_behind_zero digits));
      zeros = omega (arith, keeps.zeros, zeros_behind digits 48);
      count = omega (arith, keeps.count, length-append digits (48 ∷ []));
      value = rw step (omega (arith, keeps.value, push));
      trimmed = keeps.trimmed;
    }

last_digit : (n v : ℕ) → 0 < v → v < 10 → (n * 10 + v) % 10 ≡ 0 → n * 10 + v ≡ 0
last_digit n v some small ends = omega arith

keeps_digit : (s : Significand) (digits : List ℕ) (v : ℕ) → 0 < v → v < 10 → Keeps s digits →
    Keeps (record { number = s.number * 10 ^ (s.zeros + 1) + v; zeros = 0; count = s.count + 1 })
    (digits ++ (48 + v) ∷ [])
keeps_digit s digits v some small keeps =
    let other : ((48 + v) == 48) ≡ false = grind (arith, nat_tests) in
    let push = digits_value_push 10 digits (48 + v) in
    let digit : digit_value (48 + v) ≡ v = grind (arith, nat_tests) in
    let step : s.number * 10 ^ (s.zeros + 1) ≡ s.number * 10 ^ s.zeros * 10 =
    rw (pow_more 10 s.zeros) (omega arith) in
    let total : s.number * 10 ^ (s.zeros + 1) + v ≡ digits_value 10 (digits ++ (48 + v) ∷ []) =
    omega (arith, step, keeps.value, push, digit) in
    record {
      number = total ∙ ap (digits_value 10) (sym (kept_behind_digit digits (48 + v) other));
      zeros = sym
          (zeros_behind digits (48 + v) ∙ ap (λ t. cond t (1 + trailing_zeros digits) 0) other);
      count = omega (arith, keeps.count, length-append digits ((48 + v) ∷ []));
      value = omega (arith, total);
      trimmed =
          λ ends. omega
          (arith, step, last_digit (s.number * 10 ^ s.zeros) v some small (rw step at ends));
    }

keeps_value : (s : Significand) (digits : List ℕ) (v : ℕ) → v < 10 → Keeps s digits →
    Keeps (digit_added s v) (digits ++ (48 + v) ∷ [])
keeps_value s digits zero small keeps = keeps_zero s digits keeps
keeps_value s digits (suc v) small keeps =
    let some : (suc v == 0) ≡ false = grind (arith, nat_tests) in
    subst (λ (t : Bool). Keeps
    (cond {A = Significand} t
    (record { number = s.number; zeros = s.zeros + 1; count = s.count + 1 })
    (record { number = s.number * 10 ^ (s.zeros + 1) + suc v; zeros = 0; count = s.count + 1 }))
    (digits ++ (48 + suc v) ∷ []))
    (sym some) (keeps_digit s digits (suc v) (omega arith) small keeps)

keeps_one : (s : Significand) (digits : List ℕ) (b : ℕ) → is_ascii_digit b ≡ true → Keeps s digits →
    Keeps (digit_added s (b - 48)) (digits ++ b ∷ [])
keeps_one s digits b digit keeps =
    let range : (48 ≤ b) × (b ≤ 57) = (grind (arith, nat_tests), grind (arith, nat_tests)) in
    let same : 48 + (b - 48) ≡ b = omega arith in
    subst (λ (c : ℕ). Keeps (digit_added s (b - 48)) (digits ++ c ∷ [])) same
    (keeps_value s digits (b - 48) (omega arith) keeps)

and_true : (a b : Bool) → (a && b) ≡ true → (a ≡ true) × (b ≡ true)
and_true true b both = (refl, both)
and_true false b both = (both, absurd (cc))

-- digits more
pub keeps_added : (s : Significand) (digits more : List ℕ) → all_ascii_digits more ≡ true →
    Keeps s digits → Keeps (digits_added s more) (digits ++ more)
keeps_added s digits [] all keeps = subst (Keeps s) (sym (append-nil digits)) keeps
keeps_added s digits (b ∷ bs) all keeps =
    let (digit, rest) = and_true (is_ascii_digit b) (all_ascii_digits bs) all in
    subst (Keeps (digits_added (digit_added s (b - 48)) bs)) (append_assoc digits (b ∷ []) bs)
    (keeps_added (digit_added s (b - 48)) (digits ++ b ∷ []) bs rest
    (keeps_one s digits b digit keeps))

pub keeps_none : Keeps (record { number = 0; zeros = 0; count = 0 }) []
keeps_none = record { number = refl; zeros = refl; count = refl; value = refl; trimmed = λ _. refl }

front_from : (b : ℕ) (bs : List ℕ) (test : Bool) → is_ascii_digit b ≡ test →
    all_ascii_digits (take_while is_ascii_digit bs) ≡ true →
    all_ascii_digits (cond test (b ∷ take_while is_ascii_digit bs) []) ≡ true
front_from b bs true digit rest =
    ap (λ t. t && all_ascii_digits (take_while is_ascii_digit bs)) digit ∙ rest
front_from b bs false digit rest = refl

-- the digits in front are digits
pub front_digits : (text : List ℕ) → all_ascii_digits (take_while is_ascii_digit text) ≡ true
front_digits [] = refl
front_digits (b ∷ bs) =
    ap all_ascii_digits (take_while-cons is_ascii_digit b bs)
    ∙ front_from b bs (is_ascii_digit b) refl (front_digits bs)
