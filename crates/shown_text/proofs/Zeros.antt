-- Zeros at the end of digits.
use Rattle.std.proofs.Common.{◌≡◌, ℕ, zero, suc, ◌+◌, ◌-◌, ◌*◌, ◌^◌, ◌<◌, ◌==◌, ◌∷◌, ◌++◌, [], List}
use Rattle.std.proofs.Common.{true, false, length, take, replicate, refl, ap, ◌∙◌, arith}
use Rattle.std.proofs.Common.{length-append, length-take, inl, inr}
use Rattle.std.specs.Fmt.{decimal}
use Rattle.std.specs.Prelude.{reverse}
use Rattle.std.specs.List.{prefix_len}
use Rattle.std.specs.Str.Parse.{digits_value}
use Rattle.std.proofs.Math.Seq.{take-append-add}
use Rattle.std.proofs.lemmas.Bool.{cases_lt}
use Rattle.std.proofs.lemmas.Bool.Decides.{nat_tests}
use Rattle.std.proofs.lemmas.Fmt.{decimal_digit}
use Rattle.std.proofs.lemmas.List.{reverse-append, length-reverse, length-replicate}
use Rattle.std.proofs.lemmas.List.{replicate-append-replicate}
use Rattle.std.proofs.lemmas.List.Folds.{prefix_len-append}
use Rattle.decimals.specs.Words.{trailing_zeros, without_trailing_zeros}
use Rattle.decimals.proofs.OneForm.{value_kept}
use Rattle.decimals.proofs.ReadsBack.{decimal_writes}
use Rattle.excel_dates.specs.Words.{padded}
use Rattle.excel_dates.proofs.SerialSteps.{by_true, by_false}
use Rattle.shown_text.specs.GeneralText.{behind_point}

-- digits that aren't all 0 end as they do behind others
end_kept : (xs ds : List ℕ) → trailing_zeros ds < length ds →
    trailing_zeros (xs ++ ds) ≡ trailing_zeros ds
end_kept xs ds some =
    let other : (trailing_zeros ds == length (reverse ds)) ≡ false =
    grind (arith, nat_tests, length-reverse ds, some) in
    ap (prefix_len (λ b. b == 48)) (reverse-append xs ds)
    ∙ (prefix_len-append (λ b. b == 48) (reverse ds) (reverse xs)
    ∙ by_false (trailing_zeros ds == length (reverse ds)) _ (trailing_zeros ds) other)

pub front_kept : (xs ds : List ℕ) → trailing_zeros ds < length ds →
    without_trailing_zeros (xs ++ ds) ≡ xs ++ without_trailing_zeros ds
front_kept xs ds some =
    let places : length (xs ++ ds) - trailing_zeros (xs ++ ds)
    ≡ length xs + (length ds - trailing_zeros ds) =
    omega (arith, end_kept xs ds some, length-append xs ds, some) in
    ap (λ k. take k (xs ++ ds)) places
    ∙ take-append-add xs ds (length ds - trailing_zeros ds)

-- nothing is left of zeros
all_zeros : (n : ℕ) → trailing_zeros (replicate n 48) ≡ n
all_zeros zero = refl
all_zeros (suc n) =
    let zeros = replicate {A = ℕ} n 48 in
    let whole : (trailing_zeros zeros == length (reverse zeros)) ≡ true =
    grind (arith, nat_tests, length-reverse zeros, length-replicate {A = ℕ} n 48, all_zeros n) in
    ap (prefix_len (λ b. b == 48)) (reverse-append (48 ∷ []) zeros)
    ∙ (prefix_len-append (λ b. b == 48) (reverse zeros) (48 ∷ [])
    ∙ (by_true (trailing_zeros zeros == length (reverse zeros)) (length (reverse zeros) + 1)
    (trailing_zeros zeros) whole
    ∙ (omega (arith, length-reverse zeros, length-replicate {A = ℕ} n 48))))

none_left : (n : ℕ) → without_trailing_zeros (replicate n 48) ≡ []
none_left n =
    let none : length (replicate {A = ℕ} n 48) - trailing_zeros (replicate n 48) ≡ 0 =
    omega (arith, all_zeros n, length-replicate {A = ℕ} n 48) in
    ap (λ k. take k (replicate n 48)) none

pub zero_padded : (width : ℕ) → without_trailing_zeros (padded width 0) ≡ []
zero_padded width =
    let k = width - length (decimal 0) in
    let zeros : replicate k 48 ++ decimal 0 ≡ replicate (k + 1) 48 =
    ap (λ ds. replicate k 48 ++ ds) (decimal_digit 0 (omega arith))
    ∙ replicate-append-replicate k 1 48 in
    ap without_trailing_zeros zeros ∙ none_left (k + 1)

-- a number above 0 isn't written by zeros alone
not_all : (n : ℕ) → n < 2 ^ 128 → 0 < n → trailing_zeros (decimal n) < length (decimal n)
not_all n small positive = elim (cases_lt (trailing_zeros (decimal n)) (length (decimal n))) [
  | inl some ↦ some
  | inr all ↦
      let writes = decimal_writes n small in
      let none : length (decimal n) - trailing_zeros (decimal n) ≡ 0 = omega (arith, all) in
      let value : digits_value 10 (without_trailing_zeros (decimal n)) ≡ 0 =
      ap (λ k. digits_value 10 (take k (decimal n))) none in
      let product = ap (λ v. v * 10 ^ trailing_zeros (decimal n)) value in
      absurd (omega (arith, value_kept (decimal n) writes.all, writes.value, product))
]

pub padded_cut : (width n : ℕ) → n < 2 ^ 128 → 0 < n →
    without_trailing_zeros (padded width n)
    ≡ replicate (width - length (decimal n)) 48 ++ without_trailing_zeros (decimal n)
padded_cut width n small positive =
    front_kept (replicate (width - length (decimal n)) 48) (decimal n) (not_all n small positive)

-- what is left of a number above 0 isn't empty
pub behind_some : (xs : List ℕ) → 0 < length xs → behind_point xs ≡ 46 ∷ xs
behind_some [] some = absurd (omega arith)
behind_some (x ∷ xs) some = refl

pub cut_some : (width n : ℕ) → n < 2 ^ 128 → 0 < n →
    behind_point (without_trailing_zeros (padded width n))
    ≡ 46 ∷ (replicate (width - length (decimal n)) 48 ++ without_trailing_zeros (decimal n))
cut_some width n small positive =
    let zeros = replicate {A = ℕ} (width - length (decimal n)) 48 in
    let digits = without_trailing_zeros (decimal n) in
    let some = not_all n small positive in
    let left : 0 < length digits =
    omega (
      arith,
      length-take (length (decimal n) - trailing_zeros (decimal n)) (decimal n),
      some,
    ) in
    ap behind_point (padded_cut width n small positive)
    ∙ behind_some (zeros ++ digits) (omega (arith, length-append zeros digits, left))

-- no digits, or a number that is 0
pub zero_cut : (width n : ℕ) → n ≡ 0 →
    behind_point (without_trailing_zeros (padded width n)) ≡ []
zero_cut width n is =
    ap (λ k. behind_point (without_trailing_zeros (padded width k))) is
    ∙ ap behind_point (zero_padded width)

-- zeros behind digits
pub zeros_added : (ds : List ℕ) (n : ℕ) →
    trailing_zeros (ds ++ replicate n 48) ≡ n + trailing_zeros ds
zeros_added ds n =
    let zeros = replicate {A = ℕ} n 48 in
    let whole : (trailing_zeros zeros == length (reverse zeros)) ≡ true =
    grind (arith, nat_tests, length-reverse zeros, length-replicate {A = ℕ} n 48, all_zeros n) in
    ap (prefix_len (λ b. b == 48)) (reverse-append ds zeros)
    ∙ (prefix_len-append (λ b. b == 48) (reverse zeros) (reverse ds)
    ∙ (by_true (trailing_zeros zeros == length (reverse zeros))
    (length (reverse zeros) + trailing_zeros ds) (trailing_zeros zeros) whole
    ∙ (omega (arith, length-reverse zeros, length-replicate {A = ℕ} n 48))))
