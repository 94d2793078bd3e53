-- Reading a number format from its left end.
use Rattle.std.proofs.Common.{◌≡◌, ℕ, zero, suc, ◌<◌, ◌≤◌, ◌==◌, ◌||◌, Bool, true, false, cond}
use Rattle.std.proofs.Common.{List, [], ◌∷◌, length, drop, refl, ap, ◌∙◌, arith, length-drop}
use Rattle.std.specs.Prelude.{nat_lt}
use Rattle.std.specs.List.{position_or_len, before_first}
use Rattle.cell_data.specs.declared.format.CellFormat.{CellFormat}
use Rattle.cell_data.specs.declared.format.CellFormat.TheVariants.{Other, DateTime}
use Rattle.cell_data.specs.NumberFormat.{FormatSign, tells, passed, is_date_letter, begins_half_day}
use Rattle.cell_data.specs.NumberFormat.{is_elapsed, group_sign, first_sign, read_on}
use Rattle.cell_data.specs.NumberFormat.{format_with_fuel}

-- what is left is no longer than this
IsWithin : ℕ → FormatSign → Type 0
IsWithin n (tells format) = Unit {0}
IsWithin n (passed rest) = length rest ≤ n

either_within : (n : ℕ) (test : Bool) (s t : FormatSign) → IsWithin n s → IsWithin n t →
    IsWithin n (cond test s t)
either_within n true s t within other = within
either_within n false s t within other = other

behind_within : (n k : ℕ) (bs : List ℕ) → length bs ≤ n → length (drop k bs) ≤ n
behind_within n k bs within = omega (arith, length-drop k bs)

group_within : (n : ℕ) (bs : List ℕ) → length bs ≤ n → IsWithin n (group_sign bs)
unfolding IsWithin
group_within n bs within =
    either_within n (nat_lt (position_or_len (λ c. c == 93) bs) (length bs)) _ _
    (either_within n (is_elapsed (before_first (λ c. c == 93) bs)) _ _ tt
    (behind_within n _ bs within)) tt

sign_within : (b : ℕ) (bs : List ℕ) → IsWithin (length bs) (first_sign b bs)
unfolding IsWithin
sign_within b bs =
    let n = length bs in
    either_within n (b == 92 || b == 95) _ _ (behind_within n 1 bs (omega arith))
    (either_within n (b == 34) _ _ (behind_within n _ bs (omega arith))
    (either_within n (b == 59) _ _ tt
    (either_within n (b == 91) _ _ (group_within n bs (omega arith))
    (either_within n (is_date_letter b || begins_half_day b bs) (tells DateTime) (passed bs) tt
    (omega arith)))))

read_same : (n : ℕ) (s : FormatSign) (read other : List ℕ → CellFormat) → IsWithin n s →
    ((rest : List ℕ) → length rest ≤ n → read rest ≡ other rest) → read_on s read ≡ read_on s other
unfolding IsWithin
read_same n (tells format) read other within same = refl
read_same n (passed rest) read other within same = same rest within

same_fuel : (m n : ℕ) (text : List ℕ) → length text ≤ m → length text ≤ n →
    format_with_fuel m text ≡ format_with_fuel n text
same_fuel zero zero text few_m few_n = refl
same_fuel zero (suc n) [] few_m few_n = refl
same_fuel zero (suc n) (b ∷ bs) few_m few_n = absurd (omega arith)
same_fuel (suc m) zero [] few_m few_n = refl
same_fuel (suc m) zero (b ∷ bs) few_m few_n = absurd (omega arith)
same_fuel (suc m) (suc n) [] few_m few_n = refl
same_fuel (suc m) (suc n) (b ∷ bs) few_m few_n =
    read_same (length bs) (first_sign b bs) (λ rest. format_with_fuel m rest)
    (λ rest. format_with_fuel n rest) (sign_within b bs)
    (λ rest within. same_fuel m n rest (omega (arith, within)) (omega (arith, within)))

told_sign : (s : FormatSign) (format : CellFormat) (read : List ℕ → CellFormat) → tells format ≡ s →
    format ≡ read_on s read
told_sign (tells told) format read same = cc
told_sign (passed rest) format read same = absurd (cc)

left_within : (n : ℕ) (s : FormatSign) (rest : List ℕ) → passed rest ≡ s → IsWithin n s →
    length rest ≤ n
unfolding IsWithin
left_within n (tells format) rest same within = absurd (cc)
left_within n (passed other) rest same within =
    let alike : rest ≡ other = cc in
    rw alike within

left_read : (s : FormatSign) (rest : List ℕ) (read : List ℕ → CellFormat) → passed rest ≡ s →
    read rest ≡ read_on s read
left_read (tells format) rest read same = absurd (cc)
left_read (passed other) rest read same =
    let alike : rest ≡ other = cc in
    ap read alike

-- what a sign tells is what the format says
pub told : (text : List ℕ) (b : ℕ) (bs : List ℕ) (format : CellFormat) → text ≡ b ∷ bs →
    tells format ≡ first_sign b bs → format ≡ format_with_fuel (length text) text
told text b bs format is tells_it =
    rw is (told_sign (first_sign b bs) format (λ rest. format_with_fuel (length bs) rest) tells_it)

-- what is left of the text says the same
pub left_says : (text : List ℕ) (b : ℕ) (bs rest : List ℕ) → text ≡ b ∷ bs →
    passed rest ≡ first_sign b bs →
    format_with_fuel (length rest) rest ≡ format_with_fuel (length text) text
left_says text b bs rest is passes =
    let within = left_within (length bs) (first_sign b bs) rest passes (sign_within b bs) in
    rw is (same_fuel (length rest) (length bs) rest (omega arith) within
    ∙ left_read (first_sign b bs) rest (λ more. format_with_fuel (length bs) more) passes)

pub left_shorter : (text : List ℕ) (b : ℕ) (bs rest : List ℕ) → text ≡ b ∷ bs →
    passed rest ≡ first_sign b bs → length rest < length text
left_shorter text b bs rest is passes =
    let within = left_within (length bs) (first_sign b bs) rest passes (sign_within b bs) in
    rw is (omega (arith, within))

pub nothing_says : (text : List ℕ) → length text ≡ 0 → Other ≡ format_with_fuel (length text) text
nothing_says [] none = refl
nothing_says (b ∷ bs) none = absurd (omega arith)
