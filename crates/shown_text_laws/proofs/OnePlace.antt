-- Digits in one place.
use Rattle.std.proofs.Common.{◌≡◌, ◌∙◌, ◌++◌, ◌+◌, ◌-◌, ◌<◌, ◌≤◌, ℕ, zero, suc, Bool, true, false}
use Rattle.std.proofs.Common.{cond, List, [], ◌∷◌, Some, None, length, drop, get_or, ap, sym, arith}
use Rattle.std.proofs.Common.{append-nil, drop-cons}
use Rattle.std.proofs.lemmas.List.{drop_all}
use Rattle.std.specs.Prelude.{nat_lt, nat_le, ◌/◌, ◌%◌, ◌==◌}
use Rattle.std.specs.Fmt.{decimal, digits, digits_onto, digit_glyph}
use Rattle.std.proofs.lemmas.Bool.Decides.{nat_tests}
use Rattle.excel_dates.proofs.SerialSteps.{by_true, is_less}
use Rattle.format_codes.specs.declared.piece.CodePiece.TheVariants as piece
use Rattle.format_codes.specs.declared.piece.Filler.TheVariants.{Zero}
use Rattle.shown_text.specs.Words.{digit_at, place_character, placed_text, surplus, with_digits}
use Rattle.shown_text_laws.proofs.Places.{place_taken}

pub digit_of : (ds : List ℕ) (place : ℕ) → place < length ds
    → digit_at ds place ≡ Some (get_or ds (length ds - (place + 1)) 0)
digit_of ds place inside =
    by_true (nat_lt place (length ds)) (Some (get_or ds (length ds - (place + 1)) 0)) None
    (is_less place (length ds) inside)

-- all digits are too many where there is no place
surplus_all : (ds : List ℕ) (left : ℕ) → left ≤ length ds
    → surplus false ds 0 left ≡ drop (length ds - left) ds
surplus_all ds zero few =
    let all : length ds ≤ length ds - 0 = omega arith in
    sym (drop_all (length ds - 0) ds all)
surplus_all ds (suc left) few =
    let first : nat_le 0 left ≡ true = grind (arith, nat_tests) in
    let inside : left < length ds = omega arith in
    let at = length ds - (left + 1) in
    let within : at < length ds = omega (arith, inside) in
    let next : length ds - left ≡ suc at = omega (arith, inside) in
    let same : length ds - suc left ≡ at = omega arith in
    by_true (nat_le 0 left)
    (placed_text false left (digit_at ds left) ++ surplus false ds 0 left) [] first
    ∙ (λ i. placed_text false left (digit_of ds left inside i)
    ++ surplus_all ds left (let h : left ≤ length ds = omega (arith, inside) in h) i)
    ∙ ap (λ k. get_or ds at 0 ∷ drop k ds) next
    ∙ sym (drop-cons ds at 0 within)
    ∙ ap (λ k. drop k ds) (sym same)

-- digits in one place are the digits
pub in_one_place : (ds : List ℕ) → 0 < length ds
    → with_digits false false [] ds (piece.Digit Zero ∷ []) ≡ ds
in_one_place ds some =
    let last = get_or ds (length ds - 1) 0 in
    let shown : placed_text false 0 (place_character Zero false (digit_at ds 0))
    ≡ placed_text false 0 (digit_at ds 0) =
    ap (λ digit. placed_text false 0 (place_character Zero false digit)) (digit_of ds 0 some)
    ∙ sym (ap (placed_text false 0) (digit_of ds 0 some)) in
    let all : length ds ≤ length ds = omega arith in
    let none : length ds - length ds ≡ 0 = omega arith in
    ap (λ text. surplus false ds 1 (length ds) ++ (text ++ [])) shown
    ∙ place_taken ds 0 []
    ∙ append-nil (surplus false ds 0 (length ds))
    ∙ surplus_all ds (length ds) all
    ∙ ap (λ k. drop k ds) none

chosen_some : (test : Bool) (xs ys : List ℕ) → 0 < length xs → 0 < length ys
    → 0 < length (cond test xs ys)
chosen_some true xs ys first second = first
chosen_some false xs ys first second = second

some_onto : (k n : ℕ) (acc : List ℕ) → 0 < length acc → 0 < length (digits_onto k 10 false n acc)
some_onto zero n acc some = some
some_onto (suc k) n acc some =
    let glyph = digit_glyph false (n % 10) in
    let more : 0 < length (glyph ∷ acc) = omega arith in
    chosen_some (n / 10 == 0) (glyph ∷ acc) (digits_onto k 10 false (n / 10) (glyph ∷ acc)) more
    (some_onto k (n / 10) (glyph ∷ acc) more)

some_first : (k n : ℕ) → 0 < length (digits_onto (suc k) 10 false n [])
some_first k n =
    let glyph = digit_glyph false (n % 10) in
    let more : 0 < length (glyph ∷ []) = omega arith in
    chosen_some (n / 10 == 0) (glyph ∷ []) (digits_onto k 10 false (n / 10) (glyph ∷ [])) more
    (some_onto k (n / 10) (glyph ∷ []) more)

-- a number has a digit
pub decimal_some : (n : ℕ) → 0 < length (decimal n)
unfolding digits
decimal_some n = some_first 63 n

-- a number in one place
pub number_in_place : (n : ℕ)
    → with_digits false false [] (decimal n) (piece.Digit Zero ∷ []) ≡ decimal n
number_in_place n = in_one_place (decimal n) (decimal_some n)
