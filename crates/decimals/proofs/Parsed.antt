-- The number that a decimal's text writes, by what is kept of its digits.
use Rattle.std.proofs.Common.{◌≡◌, ℕ, zero, suc, ◌+◌, ◌-◌, ◌*◌, ◌^◌, ◌<◌, ◌≤◌, ◌==◌, Bool, true}
use Rattle.std.proofs.Common.{false, cond, ◌&&◌, List, [], ◌∷◌, ◌++◌, length, min, Some, None}
use Rattle.std.proofs.Common.{Option, ℤ, pos, negsuc, ◌+ℤ◌, ◌-ℤ◌, ◌≤ℤ◌, refl, sym, ap, ◌∙◌, arith}
use Rattle.std.proofs.Common.{length-append, inl, inr}
use Rattle.std.specs.Prelude.{if◌then◌else◌}
use Rattle.std.specs.Option.{option_map, option_and_then}
use Rattle.std.specs.Str.{all_ascii_digits}
use Rattle.std.specs.Str.Parse.{digits_value, starts_with_minus, without_leading_sign}
use Rattle.std.proofs.Math.Nat.{one-le-pow, le-mul_of_pos_right}
use Rattle.std.proofs.lemmas.Bool.{cases_lt}
use Rattle.std.proofs.lemmas.Bool.Decides.{nat_tests}
use Rattle.std.proofs.lemmas.Int.{ints}
use Rattle.decimals.specs.declared.significand.Significand.{Significand}
use Rattle.decimals.specs.Decimals.{digits_in_front, behind_digits, is_point, fraction_digits}
use Rattle.decimals.specs.Decimals.{behind_fraction, power_of, with_sign, number_of_digits}
use Rattle.decimals.specs.Decimals.{has_bits, fitting, unsigned_decimal, decimal_of}
use Rattle.decimals.specs.Powers.{near}
use Rattle.decimals.specs.Significand.{digits_added}
use Rattle.decimals.proofs.Digits.{digits_grow}
use Rattle.decimals.proofs.Significands.{Keeps, keeps_added, keeps_none, front_digits}

-- nothing read yet
abbrev nothing : Significand
nothing = record { number = 0; zeros = 0; count = 0 }

fraction_from : (b : ℕ) (bs : List ℕ) (test : Bool) →
    all_ascii_digits (cond test (digits_in_front bs) []) ≡ true
fraction_from b bs true = front_digits bs
fraction_from b bs false = refl

fraction_all : (text : List ℕ) → all_ascii_digits (fraction_digits text) ≡ true
fraction_all [] = refl
fraction_all (b ∷ bs) = fraction_from b bs (is_point b)

-- what is kept of the digits of a text, with the digits behind the point
pub keeps_text : (text behind : List ℕ) →
    Keeps (digits_added
    (digits_added (record { number = 0; zeros = 0; count = 0 }) (digits_in_front text))
    (fraction_digits behind)) (digits_in_front text ++ fraction_digits behind)
keeps_text text behind =
    keeps_added (digits_added nothing (digits_in_front text)) (digits_in_front text)
    (fraction_digits behind) (fraction_all behind)
    (keeps_added nothing [] (digits_in_front text) (front_digits text) keeps_none)

-- a number is 0 exactly where what is kept of it is
zero_alike : (n power : ℕ) → (n * 10 ^ power == 0) ≡ (n == 0)
zero_alike zero power = grind (arith, nat_tests)
zero_alike (suc n) power =
    let some : suc n ≤ suc n * 10 ^ power =
    le-mul_of_pos_right (suc n) (one-le-pow power 10 (omega arith)) in
    grind (arith, nat_tests, some)

pub number_is : (negative : Bool) (digits : List ℕ) (power : ℤ) (s : Significand) → Keeps s digits →
    number_of_digits negative digits power ≡
    (if s.number == 0 then (pos 0, pos 0) else (with_sign negative s.number, power +ℤ pos s.zeros))
number_is negative digits power s keeps =
    let test : (digits_value 10 digits == 0) ≡ (s.number == 0) =
    ap (λ n. n == 0) (sym keeps.value) ∙ zero_alike s.number s.zeros in
    rw (test, ← keeps.number, ← keeps.zeros) refl

too_long : (negative : Bool) (n : ℕ) → 2 ^ 128 ≤ n → has_bits 127 (with_sign negative n) ≡ false
too_long true zero over = absurd (omega arith)
too_long true (suc n) over = grind (arith, nat_tests)
too_long false n over = grind (arith, nat_tests)

none_fits : (negative : Bool) (n : ℕ) (power : ℤ) → 2 ^ 128 ≤ n →
    fitting (with_sign negative n, power) ≡ None
none_fits negative n power over =
    ap (λ t. cond (t && has_bits 31 power) (Some (with_sign negative n, power)) None)
    (too_long negative n over)

none_of : (power : Option ℤ) (f : ℤ → Option (ℤ × ℤ)) → ((z : ℤ) → f z ≡ None) →
    option_and_then f power ≡ None
none_of None f none = refl
none_of (Some z) f none = none z

none_unless : (test : Bool) (o : Option (ℤ × ℤ)) → o ≡ None → cond test None o ≡ None
none_unless true o none = refl
none_unless false o none = none

number_over : (negative : Bool) (digits : List ℕ) (power : ℤ) (s : Significand) → Keeps s digits →
    2 ^ 128 ≤ s.number → fitting (number_of_digits negative digits power) ≡ None
number_over negative digits power s keeps over =
    let some : (s.number == 0) ≡ false = grind (arith, nat_tests) in
    ap fitting (number_is negative digits power s keeps)
    ∙ (ap (λ t. fitting (cond t (pos 0, pos 0) (with_sign negative s.number, power +ℤ pos s.zeros)))
    some
    ∙ none_fits negative s.number (power +ℤ pos s.zeros) over)

-- digits that are too many are no number
pub unsigned_over : (negative : Bool) (whole behind : List ℕ) (s : Significand) →
    Keeps s (whole ++ fraction_digits behind) → 2 ^ 128 ≤ s.number →
    unsigned_decimal negative whole behind ≡ None
unsigned_over negative whole behind s keeps over =
    none_unless (length (whole ++ fraction_digits behind) == 0) _
    (none_of (power_of (behind_fraction behind)) _
    (λ z. number_over negative (whole ++ fraction_digits behind)
    (z -ℤ pos (length (fraction_digits behind))) s keeps over))

text_over : (text : List ℕ) →
    2 ^ 128 ≤
    (digits_added
    (digits_added (record { number = 0; zeros = 0; count = 0 })
    (digits_in_front (without_leading_sign text)))
    (fraction_digits (behind_digits (without_leading_sign text)))).number → decimal_of text ≡ None
unfolding decimal_of
text_over text over =
    unsigned_over (starts_with_minus text) (digits_in_front (without_leading_sign text))
    (behind_digits (without_leading_sign text)) _
    (keeps_text (without_leading_sign text) (behind_digits (without_leading_sign text))) over

whole_over : (text : List ℕ) →
    2 ^ 128 ≤
    (digits_added (record { number = 0; zeros = 0; count = 0 })
    (digits_in_front (without_leading_sign text))).number → decimal_of text ≡ None
whole_over text over =
    let grows =
    digits_grow (digits_added nothing (digits_in_front (without_leading_sign text)))
    (fraction_digits (behind_digits (without_leading_sign text))) in
    text_over text (omega (arith, over, grows))

-- what was read of a text, up to the exponent
pub record ReadsText (text : List ℕ) (whole digits : Significand) (rest : List ℕ) : Type 0 where
  pub keeps : Keeps digits
      (digits_in_front (without_leading_sign text) ++ fraction_digits
      (behind_digits (without_leading_sign text)))
  pub places : digits.count ≡ whole.count + length
      (fraction_digits (behind_digits (without_leading_sign text)))
  pub behind : rest ≡ behind_fraction (behind_digits (without_leading_sign text))

pub reads_text : (text body behind rest : List ℕ) (whole digits : Significand) →
    body ≡ without_leading_sign text →
    whole ≡ digits_added (record { number = 0; zeros = 0; count = 0 }) (digits_in_front body) →
    behind ≡ behind_digits body → digits ≡ digits_added whole (fraction_digits behind) →
    rest ≡ behind_fraction behind → ReadsText text whole digits rest
reads_text text body behind rest whole digits body_is whole_is behind_is digits_is rest_is =
    let keeps_whole : Keeps whole (digits_in_front (without_leading_sign text)) =
    rw (whole_is, body_is)
    (keeps_added nothing [] (digits_in_front (without_leading_sign text))
    (front_digits (without_leading_sign text)) keeps_none) in
    let keeps_all : Keeps digits
    (digits_in_front (without_leading_sign text) ++ fraction_digits
    (behind_digits (without_leading_sign text))) =
    rw (digits_is, whole_is, behind_is, body_is)
    (keeps_text (without_leading_sign text) (behind_digits (without_leading_sign text))) in
    record {
      keeps = keeps_all;
      places = omega (
        arith,
        keeps_all.count,
        keeps_whole.count,
        length-append
            (digits_in_front (without_leading_sign text))
            (fraction_digits (behind_digits (without_leading_sign text))),
      );
      behind = rest_is
          ∙ (ap behind_fraction behind_is ∙ ap (λ b. behind_fraction (behind_digits b)) body_is);
    }

too_high : (p : ℤ) → pos (2 ^ 31) ≤ℤ p → has_bits 31 p ≡ false
too_high (pos n) above = grind (arith, nat_tests, ints)
too_high (negsuc n) above = absurd (omega (arith, ints))

too_low : (p : ℤ) → p ≤ℤ negsuc (2 ^ 31) → has_bits 31 p ≡ false
too_low (pos n) below = absurd (omega (arith, ints))
too_low (negsuc n) below = grind (arith, nat_tests, ints)

none_both : (test : Bool) (number : ℤ × ℤ) →
    cond {A = Option (ℤ × ℤ)} (test && false) (Some number) None ≡ None
none_both true number = refl
none_both false number = refl

unfit : (m p : ℤ) → has_bits 31 p ≡ false → fitting (m, p) ≡ None
unfit m p none =
    let number : ℤ × ℤ = (m, p) in
    ap (λ t. cond {A = Option (ℤ × ℤ)} (has_bits 127 m && t) (Some number) None) none
    ∙ none_both (has_bits 127 m) number

-- a power that is cut at the limit fits as little as before
near_fitting : (m p : ℤ) (zeros places : ℕ) → zeros < 2 ^ 64 → places < 2 ^ 64 →
    fitting (m, (near p +ℤ pos zeros) -ℤ pos places) ≡ fitting (m, (p -ℤ pos places) +ℤ pos zeros)
near_fitting m (pos n) zeros places few_zeros few_places = elim (cases_lt n (2 ^ 100)) [
  | inl within ↦
      let same : (pos (min n (2 ^ 100)) +ℤ pos zeros) -ℤ pos places ≡
      (pos n -ℤ pos places) +ℤ pos zeros = omega (arith, ints) in
      ap (λ q. fitting (m, q)) same
  | inr above ↦
      unfit m ((pos (min n (2 ^ 100)) +ℤ pos zeros) -ℤ pos places)
      (too_high ((pos (min n (2 ^ 100)) +ℤ pos zeros) -ℤ pos places) (omega (arith, ints)))
      ∙ sym (unfit m ((pos n -ℤ pos places) +ℤ pos zeros)
      (too_high ((pos n -ℤ pos places) +ℤ pos zeros) (omega (arith, ints))))
]
near_fitting m (negsuc n) zeros places few_zeros few_places = elim (cases_lt n (2 ^ 100 - 1)) [
  | inl within ↦
      let same : (negsuc (min n (2 ^ 100 - 1)) +ℤ pos zeros) -ℤ pos places ≡
      (negsuc n -ℤ pos places) +ℤ pos zeros = omega (arith, ints) in
      ap (λ q. fitting (m, q)) same
  | inr above ↦
      unfit m ((negsuc (min n (2 ^ 100 - 1)) +ℤ pos zeros) -ℤ pos places)
      (too_low ((negsuc (min n (2 ^ 100 - 1)) +ℤ pos zeros) -ℤ pos places)
      (omega (arith, ints)))
      ∙ sym (unfit m ((negsuc n -ℤ pos places) +ℤ pos zeros)
      (too_low ((negsuc n -ℤ pos places) +ℤ pos zeros) (omega (arith, ints))))
]

zero_or_fitting : (test : Bool) (number : ℤ × ℤ) →
    fitting (cond test (pos 0, pos 0) number) ≡ cond test (Some (pos 0, pos 0)) (fitting number)
zero_or_fitting true number = refl
zero_or_fitting false number = refl

with_power : (negative : Bool) (digits : List ℕ) (s : Significand) (places : ℕ) (power : ℤ)
    (written : Option ℤ) → Keeps s digits → s.zeros < 2 ^ 64 → places < 2 ^ 64 →
    Some power ≡ option_map near written →
    (if s.number == 0 then Some (pos 0, pos 0) else fitting
    (with_sign negative s.number, (power +ℤ pos s.zeros) -ℤ pos places)) ≡ option_and_then
    (λ z. fitting (number_of_digits negative digits (z -ℤ pos places))) written
with_power negative digits s places power None keeps few_zeros few_places known = absurd (cc)
with_power negative digits s places power (Some z) keeps few_zeros few_places known =
    let same : power ≡ near z = cc in
    let near_it =
    near_fitting (with_sign negative s.number) z s.zeros places few_zeros few_places in
    ap (λ q. if s.number == 0 then Some (pos 0, pos 0) else fitting
    (with_sign negative s.number, (q +ℤ pos s.zeros) -ℤ pos places)) same
    ∙ (ap (λ o. if s.number == 0 then Some (pos 0, pos 0) else o) near_it
    ∙ (sym (zero_or_fitting (s.number == 0)
    (with_sign negative s.number, (z -ℤ pos places) +ℤ pos s.zeros))
    ∙ sym (ap fitting (number_is negative digits (z -ℤ pos places) s keeps))))

some_digits : (test : Bool) (o p : Option (ℤ × ℤ)) → test ≡ false → o ≡ p → o ≡ cond test None p
some_digits true o p none same = absurd (cc)
some_digits false o p none same = same

-- the number that a text writes
pub parsed : (text rest : List ℕ) (whole digits : Significand) (negative : Bool) (power q : ℤ) →
    ReadsText text whole digits rest → negative ≡ starts_with_minus text → (digits.count ≡ 0 → ⊥) →
    digits.zeros < 2 ^ 64 → digits.count < 2 ^ 64 → Some power ≡ option_map near (power_of rest) →
    q ≡ (power +ℤ pos digits.zeros) -ℤ pos (digits.count - whole.count) →
    (if digits.number == 0 then Some (pos 0, pos 0) else fitting
    (with_sign negative digits.number, q)) ≡ decimal_of text
unfolding decimal_of
parsed text rest whole digits negative power q reads minus some few_zeros few known q_is =
    let places : digits.count - whole.count ≡ length
    (fraction_digits (behind_digits (without_leading_sign text))) =
    omega (arith, reads.places) in
    let count = reads.keeps.count in
    let power_is : Some power ≡ option_map near
    (power_of (behind_fraction (behind_digits (without_leading_sign text)))) =
    known ∙ ap (λ r. option_map near (power_of r)) reads.behind in
    rw (q_is, places, minus)
    (some_digits
    (length (digits_in_front (without_leading_sign text) ++ fraction_digits
    (behind_digits (without_leading_sign text))) == 0) _ _ (grind (arith, nat_tests, count))
    (with_power (starts_with_minus text)
    (digits_in_front (without_leading_sign text) ++ fraction_digits
    (behind_digits (without_leading_sign text))) digits
    (length (fraction_digits (behind_digits (without_leading_sign text)))) power _ reads.keeps
    few_zeros (omega arith) power_is))

-- a text without digits, or without a power, writes none
none_written : (test : Bool) (o : Option (ℤ × ℤ)) → test ≡ true → None ≡ cond test None o
none_written true o empty = refl
none_written false o empty = absurd (cc)

pub no_digits : (text rest : List ℕ) (whole digits : Significand) →
    ReadsText text whole digits rest → digits.count ≡ 0 → None ≡ decimal_of text
unfolding decimal_of
no_digits text rest whole digits reads none =
    let count = reads.keeps.count in
    let empty :
    (length (digits_in_front (without_leading_sign text) ++ fraction_digits
    (behind_digits (without_leading_sign text))) == 0) ≡ true =
    grind (arith, nat_tests, count) in
    none_written _ _ empty

no_number : (written : Option ℤ) (f : ℤ → Option (ℤ × ℤ)) → None ≡ option_map near written →
    None ≡ option_and_then f written
no_number None f none = refl
no_number (Some z) f none = absurd (cc)

none_always : (test : Bool) (o : Option (ℤ × ℤ)) → None ≡ o → None ≡ cond test None o
none_always true o none = refl
none_always false o none = none

pub no_power : (text rest : List ℕ) (whole digits : Significand) →
    ReadsText text whole digits rest → None ≡ option_map near (power_of rest) →
    None ≡ decimal_of text
unfolding decimal_of
no_power text rest whole digits reads none =
    let power_is : None ≡ option_map near
    (power_of (behind_fraction (behind_digits (without_leading_sign text)))) =
    none ∙ ap (λ r. option_map near (power_of r)) reads.behind in
    none_always _ _ (no_number _ _ power_is)

-- digits that are too many are no number, wherever they end
pub pieces_over : (text body behind : List ℕ) (whole : Significand) →
    body ≡ without_leading_sign text →
    whole ≡ digits_added (record { number = 0; zeros = 0; count = 0 }) (digits_in_front body) →
    behind ≡ behind_digits body → 2 ^ 128 ≤ (digits_added whole (fraction_digits behind)).number →
    decimal_of text ≡ None
pieces_over text body behind whole body_is whole_is behind_is over =
    text_over text (rw (whole_is, behind_is, body_is) at over)

pub front_of_text_over : (text body : List ℕ) → body ≡ without_leading_sign text →
    2 ^ 128 ≤
    (digits_added (record { number = 0; zeros = 0; count = 0 }) (digits_in_front body)).number →
    decimal_of text ≡ None
front_of_text_over text body body_is over = whole_over text (rw body_is at over)
