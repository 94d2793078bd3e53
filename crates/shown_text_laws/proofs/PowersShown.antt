-- Numbers with a power of ten are read back in six digits.
use Rattle.std.proofs.Common.{◌≡◌, ◌∙◌, ◌++◌, ◌+◌, ◌-◌, ◌*◌, ◌^◌, ◌<◌, ◌≤◌, ◌==◌, ◌&&◌, ℕ, ℤ, pos}
use Rattle.std.proofs.Common.{negsuc, ◌+ℤ◌, ◌-ℤ◌, Bool, true, false, cond, List, [], ◌∷◌, codes}
use Rattle.std.proofs.Common.{Some, None, length, take, refl, ap, sym, subst, arith, append_assoc}
use Rattle.std.proofs.Common.{inl, inr}
use Rattle.std.specs.Prelude.{nat_abs, nat_le, nat_lt, ◌||◌, drop}
use Rattle.std.specs.Fmt.{decimal, sign_text}
use Rattle.std.proofs.Math.Utf8.{encode}
use Rattle.std.specs.List.{before_first, position_or_len}
use Rattle.std.specs.Int.{is_negative}
use Rattle.std.specs.Str.Parse.{digits_value}
use Rattle.std.proofs.lemmas.Bool.{cases_lt}
use Rattle.std.proofs.lemmas.Bool.Decides.{nat_tests}
use Rattle.std.proofs.lemmas.Fmt.{decimal_digit}
use Rattle.std.proofs.lemmas.Int.{ints}
use Rattle.cell_data.specs.Words.{number}
use Rattle.decimals.specs.Words.{fitting, number_of_digits, with_sign, digit_count, digits_behind}
use Rattle.decimals.specs.Words.{nearest}
use Rattle.decimals.specs.Decimals.{decimal_from, decimal_of}
use Rattle.decimals.specs.Rounding.{rounded_number}
use Rattle.decimals.proofs.Nearest.{some, times}
use Rattle.decimals.proofs.ReadsBack.{Writes, decimal_writes}
use Rattle.decimals.proofs.Rounded.{few_digits, size_signed}
use Rattle.decimals.proofs.RoundedLaws.{nearest_zero}
use Rattle.excel_dates.proofs.SerialSteps.{by_true, by_false, is_less, not_less}
use Rattle.format_codes.specs.Words.{ShownSection, is_exponent}
use Rattle.format_codes.specs.Choosing.{is_supported, number_section}
use Rattle.format_codes.specs.Kinds.{section_kind}
use Rattle.format_codes.specs.Sections.{code_pieces}
use Rattle.format_codes.specs.declared.kind.SectionKind.TheVariants as kind
use Rattle.format_codes.specs.declared.piece.CodePiece.{CodePiece}
use Rattle.format_codes.specs.declared.piece.CodePiece.TheVariants as piece
use Rattle.format_codes.specs.declared.piece.Filler.TheVariants.{Zero}
use Rattle.shown_text.specs.Words.{digits_above_0, laid_out, nearest_digits, exponent_sign}
use Rattle.shown_text.specs.Words.{first_power, general_places, general_size, has_nine_places}
use Rattle.shown_text.specs.Words.{scientific, shown_digits, text_in_places, power_in, power_over}
use Rattle.shown_text.specs.Words.{power_behind, power_front, power_parts, shown_power, is_sized}
use Rattle.shown_text.specs.Words.{most_pieces, signed_text, sized_text}
use Rattle.shown_text.specs.GeneralText.{general_text}
use Rattle.shown_text.specs.NumberTexts.{power_text}
use Rattle.shown_text.specs.ShownText.{shown_text}
use Rattle.shown_text_laws.specs.ReadNumbers.{IsReadInDigits}
use Rattle.shown_text_laws.proofs.Literals.{power_of}
use Rattle.shown_text_laws.proofs.ManyPlaces.{places, pointed}
use Rattle.shown_text_laws.proofs.NearPlaces.{at_most_fifteen, nearest_within, signed_size}
use Rattle.shown_text_laws.proofs.ReadBack.{all_parts, laid_is}
use Rattle.shown_text_laws.proofs.ReadPlaces.{last_count, last_digits, placed, whole_place}
use Rattle.shown_text_laws.proofs.ReadPowers.{decimal_spells, in_two_places, pointed_read}
use Rattle.shown_text_laws.proofs.ReadPowers.{scientific_read, two_spell}
use Rattle.shown_text_laws.proofs.ReadTexts.{exponent_read}
use Rattle.shown_text_laws.proofs.SixDigits.{one_number, six_digits, six_shown}
use Rattle.shown_text_laws.proofs.Tests.{and_true, both_hold, is_within}

abbrev powers : List CodePiece
powers =
    piece.Digit Zero ∷ piece.Point ∷ piece.Digit Zero ∷ piece.Digit Zero ∷ piece.Digit Zero
    ∷ piece.Digit Zero ∷ piece.Digit Zero ∷ piece.Exponent 69 true ∷ piece.Digit Zero
    ∷ piece.Digit Zero ∷ []

abbrev section : ShownSection
section = record { kind = kind.Power; pieces = powers; unsigned = false }

under_powers : (is_1904 : Bool) (exact : ℤ × ℤ)
    → shown_text is_1904 (codes "0.00000E+00") (number exact) ≡ sized_text section exact
unfolding shown_text number_section is_supported code_pieces section_kind
under_powers is_1904 exact = refl

-- the text of a size with its power
abbrev over_power : ℕ → ℤ → ℤ → List ℕ
over_power n power over =
    laid_out (n == 0) (nearest_digits n (power_over (pointed 5) power over)) (pointed 5)
    ++ 69 ∷ exponent_sign over ∷ in_two_places (decimal (nat_abs over))

sign_is : (below : Bool) (ds : List ℕ)
    → cond below (45 ∷ []) (43 ∷ []) ++ ds ≡ cond below 45 43 ∷ ds
sign_is true ds = refl
sign_is false ds = refl

front_is : before_first is_exponent powers ≡ pointed 5
front_is = refl

behind_is : drop (position_or_len is_exponent powers) powers ≡ piece.Exponent 69 true ∷ places 2
behind_is = refl

exponent_is : (over : ℤ)
    → power_behind (piece.Exponent 69 true ∷ places 2) over
    ≡ 69 ∷ exponent_sign over ∷ in_two_places (decimal (nat_abs over))
unfolding encode
exponent_is over =
    ap (λ rest. 69 ∷ rest) (sign_is (is_negative over) (in_two_places (decimal (nat_abs over))))

power_text_is : (n : ℕ) (power over : ℤ) → power_in (pointed 5) n power ≡ over
    → power_text powers n power ≡ over_power n power over
unfolding power_text
power_text_is n power over is =
    (λ i. power_parts (front_is i) (behind_is i) n power)
    ∙ ap (λ p. power_front (pointed 5) n power p
    ++ power_behind (piece.Exponent 69 true ∷ places 2) p) is
    ∙ ap (λ rest. power_front (pointed 5) n power over ++ rest) (exponent_is over)

-- a number far from 1 has no places under General
no_places : (n : ℕ) (power first : ℤ) → first ≡ first_power n power → 400 < nat_abs power
    → digit_count n ≤ 39 → general_places n power first ≡ None
no_places n power (pos f) is far few =
    by_true (nat_lt 10 f) None (Some (9 - f)) (is_less 10 f (omega (arith, ints, is, far, few)))
no_places n power (negsuc g) is far few =
    let past : 10 ≤ g = omega (arith, ints, is, far, few) in
    (λ i. cond (not_less g 4 (omega (arith, past)) i
    || (not_less g 10 past i && has_nine_places n power)) (Some 9) None)

-- six digits of a number above 0 are read of its text with a power
module _ (negative : Bool) (n : ℕ) (power : ℤ) (positive : 0 < n) (small : n < 2 ^ 128)
    (near : nat_abs power < 2 ^ 127 + 100) where
  is_some : (n == 0) ≡ false
  is_some = grind (arith, nat_tests)

  fits : nearest (digits_behind 6 n) n < 2 ^ 128
  fits = omega (arith, nearest_within (digits_behind 6 n) n, small)

  some_left : 0 < nearest (digits_behind 6 n) n
  some_left =
      let six = six_shown n power positive small in
      omega (
        arith,
        six.rounded,
        six.positive,
        times six.left (let h : 1 ≤ 10 ^ six.j = omega (arith, some six.j) in h),
      )

  section_read : decimal_of (sign_text negative ++ power_text powers n power)
      ≡ decimal_from (rounded_number 6 (with_sign negative n, power))
  section_read =
      let six = six_shown n power positive small in
      let over = six.over in
      let m = nearest (digits_behind 6 n) n in
      let ds = nearest_digits n (power_over (pointed 5) power over) in
      let whole = whole_place (take (length ds - 5) ds) in
      let digits = last_digits ds 5 in
      let exponent = in_two_places (decimal (nat_abs over)) in
      let rest = exponent_sign over ∷ exponent in
      let p = placed ds 5 (six.left * 10 ^ six.i) six.digits in
      let (front, back) = all_parts whole digits p.writes.all in
      let spells = two_spell (decimal (nat_abs over)) (nat_abs over)
      (decimal_spells (nat_abs over) (omega (arith, six.near, near))) in
      let told = exponent_read over exponent spells.some spells.writes in
      let in_power : power_in (pointed 5) n power ≡ over =
      by_false (n == 0) (pos 0) (shown_power (pointed 5) n power) is_some ∙ six.is in
      let text : power_text powers n power ≡ whole ++ 46 ∷ (digits ++ 69 ∷ rest) =
      power_text_is n power over in_power
      ∙ ap (λ forced. laid_out forced ds (pointed 5) ++ 69 ∷ rest) is_some
      ∙ ap (λ before. before ++ 69 ∷ rest) (laid_is ds 5)
      ∙ append_assoc whole (46 ∷ digits) (69 ∷ rest) in
      ap (λ t. decimal_of (sign_text negative ++ t)) text
      ∙ pointed_read negative whole rest over p.some front told digits back
      ∙ ap (λ k. fitting (number_of_digits negative (whole ++ digits) (over -ℤ pos k)))
      (last_count ds 5)
      ∙ ap fitting (one_number negative (whole ++ digits) (decimal m) (over -ℤ pos 5)
      (power +ℤ pos (digits_behind 6 n)) six.left six.i six.j six.positive six.small p.writes
      (subst (Writes (decimal m)) six.rounded (decimal_writes m fits)) six.same)
      ∙ sym (six_digits negative n power positive some_left)

  -- General shows such a number with its power, too, where it is far from 1
  general_read : 400 < nat_abs power
      → decimal_of (sign_text negative ++ general_size n power)
      ≡ decimal_from (rounded_number 6 (with_sign negative n, power))
  general_read far =
      let m = nearest (digits_behind 6 n) n in
      let behind : digits_behind 6 n ≤ 39 = omega (arith, few_digits n small) in
      let text : general_size n power ≡ scientific n power =
      by_false (n == 0) (48 ∷ []) _ is_some
      ∙ ap (text_in_places n power) (no_places n power (first_power n power) refl far
      (few_digits n small)) in
      ap (λ t. decimal_of (sign_text negative ++ t)) text
      ∙ scientific_read negative (decimal m) m (power +ℤ pos (digits_behind 6 n))
      (decimal_spells m fits) some_left fits
      (omega (arith, ints, near, behind, few_digits m fits))
      ∙ sym (six_digits negative n power positive some_left)

-- 0 is read as 0
none_digits : (power : ℤ) → nearest_digits 0 power ≡ []
none_digits (pos k) = refl
none_digits (negsuc k) = ap (λ n. digits_above_0 n 0) (nearest_zero (k + 1))

none_text : (n : ℕ) (power : ℤ) → n ≡ 0 → power_text powers n power ≡ codes "0.00000E+00"
none_text n power none =
    ap (λ n. power_text powers n power) none
    ∙ power_text_is 0 power (pos 0) refl
    ∙ (λ i. laid_out true (none_digits (power_over (pointed 5) power (pos 0)) i) (pointed 5)
    ++ 69 ∷ exponent_sign (pos 0)
    ∷ in_two_places (decimal_digit 0 (let h : 0 < 10 = omega arith in h) i))

none_read : (negative : Bool)
    → decimal_of (sign_text negative ++ codes "0.00000E+00") ≡ Some (pos 0, pos 0)
unfolding decimal_of
none_read true = refl
none_read false = refl

none_of_general : (n : ℕ) (power : ℤ) → n ≡ 0 → general_size n power ≡ codes "0"
none_of_general n power none =
    let test : (n == 0) ≡ true = grind (arith, nat_tests, none) in
    by_true (n == 0) (48 ∷ []) (text_in_places n power (general_places n power
    (first_power n power))) test

none_in_general : (negative : Bool)
    → decimal_of (sign_text negative ++ codes "0") ≡ Some (pos 0, pos 0)
unfolding decimal_of
none_in_general true = refl
none_in_general false = refl

none_form : (x : ℤ × ℤ) → nat_abs x.0 ≡ 0 → decimal_from x ≡ Some (pos 0, pos 0)
unfolding decimal_from
none_form x none =
    let writes = decimal_writes (nat_abs x.0) (omega (arith, none)) in
    let test : (digits_value 10 (decimal (nat_abs x.0)) == 0) ≡ true =
    ap (λ v. v == 0) (writes.value ∙ none) in
    ap fitting (by_true (digits_value 10 (decimal (nat_abs x.0)) == 0) _ _ test)

none_rounded : (x : ℤ × ℤ) → nat_abs x.0 ≡ 0 → nat_abs (rounded_number 6 x).0 ≡ 0
unfolding rounded_number
none_rounded x none =
    size_signed (is_negative x.0) (nearest (digits_behind 6 (nat_abs x.0)) (nat_abs x.0))
    ∙ ap (λ n. nearest (digits_behind 6 n) n) none
    ∙ nearest_zero (digits_behind 6 0)

general_is : (exact : ℤ × ℤ)
    → general_text exact ≡ sign_text (is_negative exact.0)
    ++ general_size (nat_abs (shown_digits exact).0) (shown_digits exact).1
unfolding general_text
general_is exact = refl

pub powers_read : (exact : ℤ × ℤ) → IsReadInDigits (codes "0.00000E+00") 6 exact
powers_read exact = λ is_1904 small low.
    let negative = is_negative exact.0 in
    let n = nat_abs (shown_digits exact).0 in
    let power = (shown_digits exact).1 in
    let few : n < 2 ^ 128 = omega (arith, at_most_fifteen exact small) in
    let near : nat_abs power < 2 ^ 127 + 100 =
    omega (
      arith,
      ints,
      low,
      power_of exact.0 exact.1,
      few_digits (nat_abs exact.0) small,
    ) in
    let sized = is_sized section power in
    let six : (ℤ × ℤ) = (with_sign negative n, power) in
    let same : decimal_from (rounded_number 6 (shown_digits exact))
    ≡ decimal_from (rounded_number 6 six) =
    ap (λ m. decimal_from (rounded_number 6 (m, power))) (signed_size exact) in
    ap decimal_of (under_powers is_1904 exact)
    ∙ elim (cases_lt 400 (nat_abs power)) [
      | inl far ↦
          let fails : sized ≡ false =
          ap (λ test. test && nat_le (length powers) most_pieces)
          (let h : nat_le (nat_abs power) 400 ≡ false = grind (arith, nat_tests, far) in h) in
          let is : sized_text section exact ≡ sign_text negative ++ general_size n power =
          by_false sized (signed_text section negative n power) (general_text exact) fails
          ∙ general_is exact in
          ap decimal_of is
          ∙ elim (cases_lt 0 n) [
            | inl positive ↦ general_read negative n power positive few near far ∙ sym same
            | inr none ↦
                let nothing : n ≡ 0 = omega (arith, none) in
                ap (λ t. decimal_of (sign_text negative ++ t)) (none_of_general n power nothing)
                ∙ none_in_general negative
                ∙ sym (none_form (rounded_number 6 (shown_digits exact))
                (none_rounded (shown_digits exact) nothing))
          ]
      | inr close ↦
          let holds : sized ≡ true =
          both_hold _ _ (is_within (nat_abs power) 400 close) refl in
          let is : sized_text section exact ≡ sign_text negative ++ power_text powers n power =
          by_true sized (signed_text section negative n power) (general_text exact) holds
          ∙ ap (λ sign. sign_text sign ++ power_text powers n power) (and_true negative) in
          ap decimal_of is
          ∙ elim (cases_lt 0 n) [
            | inl positive ↦ section_read negative n power positive few near ∙ sym same
            | inr none ↦
                let nothing : n ≡ 0 = omega (arith, none) in
                ap (λ t. decimal_of (sign_text negative ++ t)) (none_text n power nothing)
                ∙ none_read negative
                ∙ sym (none_form (rounded_number 6 (shown_digits exact))
                (none_rounded (shown_digits exact) nothing))
          ]
    ]
