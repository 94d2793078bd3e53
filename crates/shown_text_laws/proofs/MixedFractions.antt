-- A whole number and a fraction, as they are shown.
use Rattle.shown_text_laws.proofs.Tests.{and_false, and_true, both_hold, is_within}
use Rattle.std.proofs.Common.{◌≡◌, ◌∙◌, ◌++◌, ◌+◌, ◌-◌, ◌*◌, ◌/◌, ◌%◌, ◌^◌, ◌<◌, ◌≤◌, ◌==◌, ◌&&◌, ℕ}
use Rattle.std.proofs.Common.{zero, suc, ℤ, negsuc, Bool, true, false, cond, List, [], ◌∷◌, codes}
use Rattle.std.proofs.Common.{refl, ap, sym, arith, inl, inr, append_assoc, append-nil, replicate}
use lib.Utf8.{encode}
use Rattle.std.specs.Prelude.{nat_lt, nat_le, nat_abs}
use Rattle.std.specs.Fmt.{decimal, sign_text}
use Rattle.std.specs.Int.{is_negative}
use Rattle.std.proofs.Common.{length, length-append, pos}
use Rattle.std.proofs.Math.Nat.{pow-le-pow_right, mul-le-mul_right, le_of_mul-le-mul_right}
use Rattle.std.proofs.lemmas.Bool.{cases_lt, eqb-true}
use Rattle.std.proofs.lemmas.Bool.Decides.{nat_tests}
use Rattle.std.proofs.lemmas.Fmt.{decimal_digit}
use Rattle.cell_data.specs.Words.{number}
use Rattle.decimals.proofs.Rounded.{unit_some}
use Rattle.excel_dates.proofs.SerialSteps.{by_true, by_false}
use Rattle.format_codes.specs.Choosing.{is_supported, number_section}
use Rattle.format_codes.specs.Kinds.{section_kind}
use Rattle.format_codes.specs.Sections.{code_pieces}
use Rattle.format_codes.specs.declared.kind.SectionKind.TheVariants as kind
use Rattle.format_codes.specs.declared.piece.CodePiece.{CodePiece}
use Rattle.format_codes.specs.declared.piece.CodePiece.TheVariants as piece
use Rattle.format_codes.specs.declared.piece.Filler.TheVariants.{Zero}
use Rattle.shown_text.specs.Words.{with_digits, distance, FractionParts, fraction_parts, mixed}
use Rattle.shown_text.specs.Words.{nearest_fraction, unit_parts, parts_text, unparted, whole_digits}
use Rattle.shown_text.specs.Words.{general_text, shown_digits, most_power, sized_text}
use Rattle.shown_text.specs.FractionTexts.{fraction_shown}
use Rattle.shown_text.specs.ShownText.{shown_text}
use Rattle.shown_text.specs.declared.fractions.Fraction.{Fraction}
use Rattle.shown_text_laws.specs.NearFractions.{HasNoneNearer, IsNearestMixed}
use Rattle.shown_text_laws.proofs.NearPlaces.{at_most_fifteen}
use Rattle.shown_text_laws.proofs.NearFractions.{none_nearer}
use Rattle.shown_text_laws.proofs.OnePlace.{decimal_some, in_one_place, number_in_place}
use Rattle.shown_text_laws.specs.NumberCodes.{IsShownBySection}

abbrev mixed_pieces : List CodePiece
mixed_pieces =
    piece.Digit Zero ∷ piece.Literal 32 ∷ piece.Digit Zero ∷ piece.Slash ∷ piece.Digit Zero ∷ []

under_mixed : (is_1904 : Bool) (exact : ℤ × ℤ)
    → shown_text is_1904 (codes "0 0/0") (number exact)
    ≡ sized_text (record { kind = kind.Fraction; pieces = mixed_pieces; unsigned = false }) exact
unfolding shown_text number_section is_supported code_pieces section_kind
under_mixed is_1904 exact = refl

abbrev parts : FractionParts
parts = fraction_parts mixed_pieces

never : (zero_whole none : Bool) → (zero_whole && cond none false false) ≡ false
never true true = refl
never true false = refl
never false none = refl

pick : (test gone : Bool) (x y z w : List ℕ) → test ≡ false → gone ≡ false
    → cond test x (cond gone y z ++ w) ≡ z ++ w
pick true gone x y z w first second = absurd (cc)
pick false true x y z w first second = absurd (cc)
pick false false x y z w first second = refl

-- digits in the places of the parts
mixed_places : (w k : ℕ) (f : Fraction)
    → mixed parts w k f
    ≡ (with_digits false false [] (whole_digits w k) (piece.Digit Zero ∷ []) ++ 32 ∷ [])
    ++ (with_digits false false [] (decimal f.over) (piece.Digit Zero ∷ [])
    ++ 47 ∷ with_digits false false [] (decimal f.under) (piece.Digit Zero ∷ []))
unfolding encode
mixed_places w k f =
    pick ((f.over == 0) && false) ((w == 0) && cond (f.over == 0) false false) _ _ _ _
    (and_false (f.over == 0)) (never (w == 0) (f.over == 0))

whole_plain : (w : ℕ) → whole_digits w 0 ≡ decimal w
whole_plain zero = sym (decimal_digit 0 (omega arith))
whole_plain (suc w) =
    let other : (suc w == 0) ≡ false = grind (arith, nat_tests) in
    by_false (suc w == 0) (48 ∷ []) (decimal (suc w) ++ replicate 0 48) other
    ∙ append-nil (decimal (suc w))

mixed_text : (w : ℕ) (f : Fraction)
    → mixed parts w 0 f ≡ decimal w ++ 32 ∷ (decimal f.over ++ 47 ∷ decimal f.under)
mixed_text w f =
    mixed_places w 0 f
    ∙ ap (λ ds. (with_digits false false [] ds (piece.Digit Zero ∷ []) ++ 32 ∷ [])
    ++ (with_digits false false [] (decimal f.over) (piece.Digit Zero ∷ [])
    ++ 47 ∷ with_digits false false [] (decimal f.under) (piece.Digit Zero ∷ [])))
    (whole_plain w)
    ∙ (λ i. (number_in_place w i ++ 32 ∷ [])
    ++ (number_in_place f.over i ++ 47 ∷ number_in_place f.under i))
    ∙ append_assoc (decimal w) (32 ∷ []) (decimal f.over ++ 47 ∷ decimal f.under)

same_distance : (n unit r w over under : ℕ) → n ≡ w * unit + r
    → distance n unit (w * under + over) under ≡ distance r unit over under
same_distance n unit r w over under split =
    let product : n * under ≡ (w * unit + r) * under = ap (λ k. k * under) split in
    omega (arith, product)

below_whole : (n unit r w over under : ℕ) → n ≡ w * unit + r → over ≤ w * under
    → distance r unit 0 under ≤ distance n unit over under
below_whole n unit r w over under split few =
    let product : n * under ≡ (w * unit + r) * under = ap (λ k. k * under) split in
    let less : over * unit ≤ w * under * unit = mul-le-mul_right unit few in
    omega (arith, product, less)

-- a fraction behind the whole number is one of all
moved : (n unit r w : ℕ) (f : Fraction) → n ≡ w * unit + r → HasNoneNearer r unit 9 f
    → HasNoneNearer n unit 9 (record { over = w * f.under + f.over; under = f.under })
moved n unit r w f split near = record {
  positive = near.positive;
  within = near.within;
  none_nearer = λ over under any few.
      let same = same_distance n unit r w f.over f.under split in
      let scaled : distance n unit (w * f.under + f.over) f.under * under
      ≡ distance r unit f.over f.under * under = ap (λ k. k * under) same in
      elim (cases_lt over (w * under)) [
        | inl below ↦
            let least = near.none_nearer 0 under any few in
            let less : over ≤ w * under = omega arith in
            let nearer : distance r unit 0 under * f.under ≤ distance n unit over under * f.under =
            mul-le-mul_right f.under (below_whole n unit r w over under split less) in
            omega (arith, scaled, least, nearer)
        | inr past ↦
            let rest = over - w * under in
            let least = near.none_nearer rest under any few in
            let sum : over ≡ w * under + rest = omega (arith, past) in
            let other : distance n unit over under ≡ distance r unit rest under =
            ap (λ k. distance n unit k under) sum ∙ same_distance n unit r w rest under split in
            let product : distance n unit over under * f.under
            ≡ distance r unit rest under * f.under = ap (λ k. k * f.under) other in
            omega (arith, scaled, least, product)
      ];
}

units : (n unit k under : ℕ)
    → distance n unit (k * under) under ≡ distance n unit (k * 1 + 0) 1 * under
units n unit k under = elim (cases_lt n (k * unit)) [
  | inl below ↦
      let less : n * under ≤ k * unit * under =
      mul-le-mul_right under (let h : n ≤ k * unit = omega arith in h) in
      let gap : k * unit ≡ n + (k * unit - n) = omega (arith, below) in
      let product : k * unit * under ≡ (n + (k * unit - n)) * under = ap (λ j. j * under) gap in
      let first : distance n unit (k * under) under ≡ (k * unit - n) * under =
      omega (arith, less, product) in
      let second : distance n unit (k * 1 + 0) 1 ≡ k * unit - n = omega (arith, below) in
      first ∙ sym (ap (λ j. j * under) second)
  | inr past ↦
      let less : k * unit * under ≤ n * under = mul-le-mul_right under past in
      let gap : n ≡ k * unit + (n - k * unit) = omega (arith, past) in
      let product : n * under ≡ (k * unit + (n - k * unit)) * under = ap (λ j. j * under) gap in
      let first : distance n unit (k * under) under ≡ (n - k * unit) * under =
      omega (arith, less, product) in
      let second : distance n unit (k * 1 + 0) 1 ≡ n - k * unit = omega (arith, past) in
      first ∙ sym (ap (λ j. j * under) second)
]

-- a fraction that is 1 is one more of the whole number
carried_one : (n unit w : ℕ) (f : Fraction) → f.over ≡ f.under
    → HasNoneNearer n unit 9 (record { over = w * f.under + f.over; under = f.under })
    → HasNoneNearer n unit 9 (record { over = (w + 1) * 1 + 0; under = 1 })
carried_one n unit w f is near = record {
  positive = omega arith;
  within = omega arith;
  none_nearer = λ over under any few.
      let least = near.none_nearer over under any few in
      let whole : w * f.under + f.over ≡ (w + 1) * f.under = omega (arith, is) in
      let told : distance n unit (w * f.under + f.over) f.under
      ≡ distance n unit ((w + 1) * 1 + 0) 1 * f.under =
      ap (λ k. distance n unit k f.under) whole ∙ units n unit (w + 1) f.under in
      let product = ap (λ k. k * under) told in
      let cross : distance n unit ((w + 1) * 1 + 0) 1 * under * f.under
      ≤ distance n unit over under * 1 * f.under = omega (arith, least, product) in
      le_of_mul-le-mul_right cross near.positive;
}

divided : (n unit : ℕ) → 0 < unit → n ≡ n / unit * unit + n % unit
divided n unit positive = omega (arith, positive)

-- the text of n / unit
chosen_mixed : (n unit w : ℕ) (test : Bool) (f : Fraction) → (test ≡ true → f.over ≡ f.under)
    → HasNoneNearer n unit 9 (record { over = w * f.under + f.over; under = f.under })
    → IsNearestMixed n unit
    (cond test (mixed parts (w + 1) 0 (record { over = 0; under = 1 })) (mixed parts w 0 f))
chosen_mixed n unit w true f is near = record {
  whole = w + 1;
  over = 0;
  under = 1;
  written = mixed_text (w + 1) (record { over = 0; under = 1 });
  nearest = carried_one n unit w f (is refl) near;
}
chosen_mixed n unit w false f is near = record {
  whole = w;
  over = f.over;
  under = f.under;
  written = mixed_text w f;
  nearest = near;
}

parted_mixed : (n unit : ℕ) → 0 < unit → IsNearestMixed n unit (unit_parts parts n unit)
parted_mixed n unit positive =
    let f = nearest_fraction (n % unit) unit 9 in
    chosen_mixed n unit (n / unit) (f.over == f.under) f (eqb-true f.over f.under)
    (moved n unit (n % unit) (n / unit) f (divided n unit positive)
    (none_nearer (n % unit) unit 9 positive (omega arith)))

-- a number that is far below 1 is nearest to 0
tiny_near : (n unit : ℕ) → n * 18 ≤ unit
    → HasNoneNearer n unit 9 (record { over = 0 * 1 + 0; under = 1 })
tiny_near n unit far = record {
  positive = omega arith;
  within = omega arith;
  none_nearer = λ over under any few.
      let gap : distance n unit (0 * 1 + 0) 1 ≡ n = omega arith in
      let told : distance n unit (0 * 1 + 0) 1 * under ≡ n * under = ap (λ k. k * under) gap in
      elim (cases_lt 0 over) [
        | inl more ↦
            let least : 1 * unit ≤ over * unit = mul-le-mul_right unit more in
            let most : under * n ≤ 9 * n = mul-le-mul_right n few in
            omega (arith, told, least, most, far)
        | inr none ↦
            let zero_over : over ≡ 0 = omega (arith, none) in
            let product : over * unit ≡ 0 * unit = ap (λ k. k * unit) zero_over in
            omega (arith, told, product)
      ];
}

near_chosen : (n unit : ℕ) (test : Bool) → 0 < unit → (test ≡ false → n * 18 ≤ unit)
    → IsNearestMixed n unit (cond test (unit_parts parts n unit) (unparted parts 0 0))
near_chosen n unit true positive far = parted_mixed n unit positive
near_chosen n unit false positive far = record {
  whole = 0;
  over = 0;
  under = 1;
  written = mixed_text 0 (record { over = 0; under = 1 });
  nearest = tiny_near n unit (far refl);
}

many_places : (places : ℕ) → nat_lt places 30 ≡ false → 30 ≤ places
many_places places fails = grind (arith, nat_tests)

parts_near : (n places : ℕ) → n ≤ 10 ^ 15
    → IsNearestMixed n (10 ^ (places + 1)) (parts_text parts n (negsuc places))
parts_near n places few =
    near_chosen n (10 ^ (places + 1)) (nat_lt places 30) (unit_some (places + 1))
    (λ fails.
    let many : 30 ≤ places = many_places places fails in
    let more : 30 ≤ places + 1 = omega (arith, many) in
    let power : 10 ^ 30 ≤ 10 ^ (places + 1) = pow-le-pow_right (omega arith) more in
    omega (arith, power, few))

-- what is shown of a number by its power
by_parts : (is_1904 : Bool) (exact : ℤ × ℤ) → IsShownBySection exact
    → shown_text is_1904 (codes "0 0/0") (number exact)
    ≡ sign_text (is_negative exact.0)
    ++ parts_text parts (nat_abs (shown_digits exact).0) (shown_digits exact).1
unfolding fraction_shown
by_parts is_1904 exact sized =
    let n = nat_abs (shown_digits exact).0 in
    let sign = sign_text (is_negative exact.0 && true) in
    let text = parts_text parts n (shown_digits exact).1 in
    under_mixed is_1904 exact
    ∙ by_true (nat_le (nat_abs (shown_digits exact).1) most_power && true) (sign ++ (text ++ []))
    (general_text exact)
    (both_hold _ _ (is_within (nat_abs (shown_digits exact).1) most_power sized) refl)
    ∙ (λ i. sign_text (and_true (is_negative exact.0) i) ++ append-nil text i)

pub mixed_shown : (is_1904 : Bool) (exact : ℤ × ℤ) (places : ℕ) → nat_abs exact.0 < 2 ^ 128
    → IsShownBySection exact → (shown_digits exact).1 ≡ negsuc places
    → (text : List ℕ) × IsNearestMixed (nat_abs (shown_digits exact).0) (10 ^ (places + 1)) text
    × (shown_text is_1904 (codes "0 0/0") (number exact) ≡ sign_text (is_negative exact.0) ++ text)
mixed_shown is_1904 exact places small sized power =
    let n = nat_abs (shown_digits exact).0 in
    let few : n ≤ 10 ^ 15 = at_most_fifteen exact small in (
      parts_text parts n (negsuc places),
      parts_near n places few,
      by_parts is_1904 exact sized
          ∙ ap (λ p. sign_text (is_negative exact.0) ++ parts_text parts n p) power,
    )

chosen_digits : (test : Bool) (n k : ℕ)
    → 0 < length (cond test (48 ∷ []) (decimal n ++ replicate k 48))
chosen_digits true n k = omega arith
chosen_digits false n k =
    omega (arith, decimal_some n, length-append (decimal n) (replicate {A = ℕ} k 48))

-- a whole number
pub whole_shown : (is_1904 : Bool) (exact : ℤ × ℤ) (zeros : ℕ) → IsShownBySection exact
    → (shown_digits exact).1 ≡ pos zeros
    → shown_text is_1904 (codes "0 0/0") (number exact)
    ≡ sign_text (is_negative exact.0)
    ++ (whole_digits (nat_abs (shown_digits exact).0) zeros ++ codes " 0/1")
whole_shown is_1904 exact zeros sized power =
    let n = nat_abs (shown_digits exact).0 in
    let whole = whole_digits n zeros in
    by_parts is_1904 exact sized
    ∙ ap (λ p. sign_text (is_negative exact.0) ++ parts_text parts n p) power
    ∙ ap (λ text. sign_text (is_negative exact.0) ++ text)
    (mixed_places n zeros (record { over = 0; under = 1 })
    ∙ (λ i. (in_one_place whole (chosen_digits (n == 0) n zeros) i ++ 32 ∷ [])
    ++ (number_in_place 0 i ++ 47 ∷ number_in_place 1 i))
    ∙ (λ i. (whole ++ 32 ∷ [])
    ++ (decimal_digit 0 (omega arith) i ++ 47 ∷ decimal_digit 1 (omega arith) i))
    ∙ append_assoc whole (32 ∷ []) (48 ∷ 47 ∷ 49 ∷ []))
