-- What numbers are written by: digits, and around them no comma.
use Rattle.std.proofs.Common.{◌≡◌, ◌++◌, ◌+◌, ◌-◌, ◌/◌, ◌%◌, ◌<◌, ◌==◌, ℕ, zero, suc, ℤ, pos}
use Rattle.std.proofs.Common.{negsuc, Bool, true, false, cond, List, [], ◌∷◌, Option, Some, None}
use Rattle.std.proofs.Common.{length, take, drop, replicate, refl, ap, arith, not}
use Rattle.std.specs.Prelude.{nat_lt, nat_abs, ◌+ℤ◌, ◌^◌}
use Rattle.decimals.specs.Words.{digits_behind, nearest, without_trailing_zeros, trailing_zeros}
use Rattle.excel_dates.specs.Words.{nearest_at, padded}
use Rattle.std.specs.Fmt.{decimal, digits, digits_onto, digit_glyph, sign_text}
use Rattle.std.specs.Int.{is_negative}
use Rattle.std.specs.List.{All}
use Rattle.std.proofs.lemmas.List.Elements.{All-nil, All-cons, All-append, All-replicate, All-take}
use Rattle.std.proofs.lemmas.List.Elements.{All-drop}
use Rattle.std.proofs.lemmas.Bool.Decides.{nat_tests}
use Rattle.shown_text.specs.Words.{digits_above_0, nearest_digits, behind_point, exponent_sign}
use Rattle.shown_text.specs.Words.{exponent_text, with_power, scientific, with_places}
use Rattle.shown_text.specs.Words.{general_places, text_in_places, general_size, shown_digits}
use Rattle.shown_text.specs.Words.{first_power}
use Rattle.shown_text.specs.GeneralText.{general_text}
use Rattle.shown_text_laws.specs.NumberCodes.{without_commas}

-- a digit, or a byte behind these
abbrev pub IsFigure : ℕ → Type 0
IsFigure c = 47 < c

-- a byte that isn't a comma
abbrev pub IsNoComma : ℕ → Type 0
IsNoComma c = (c == 44) ≡ false

glyph_of : (test : Bool) (d : ℕ) → 47 < cond test (48 + d) (87 + d)
glyph_of true d = omega arith
glyph_of false d = omega arith

pub all_chosen : (P : ℕ → Type 0) (test : Bool) (xs ys : List ℕ) → All P xs → All P ys
    → All P (cond test xs ys)
all_chosen P true xs ys first second = first
all_chosen P false xs ys first second = second

all_onto : (k n : ℕ) (acc : List ℕ) → All IsFigure acc → All IsFigure (digits_onto k 10 false n acc)
all_onto zero n acc all = all
all_onto (suc k) n acc all =
    let glyph = digit_glyph false (n % 10) in
    let more = All-cons IsFigure glyph acc (glyph_of (nat_lt (n % 10) 10) (n % 10)) all in
    all_chosen IsFigure (n / 10 == 0) (glyph ∷ acc) (digits_onto k 10 false (n / 10) (glyph ∷ acc))
    more (all_onto k (n / 10) (glyph ∷ acc) more)

pub decimal_figures : (n : ℕ) → All IsFigure (decimal n)
unfolding digits
decimal_figures n = all_onto 64 n [] (All-nil IsFigure)

above_0_figures : (n zeros : ℕ) → All IsFigure (digits_above_0 n zeros)
above_0_figures n zeros =
    all_chosen IsFigure (n == 0) [] (decimal n ++ replicate zeros 48) (All-nil IsFigure)
    (All-append IsFigure (decimal n) (replicate zeros 48) (decimal_figures n)
    (All-replicate IsFigure zeros 48 (omega arith)))

pub nearest_figures : (n : ℕ) (power : ℤ) → All IsFigure (nearest_digits n power)
nearest_figures n (pos power) = above_0_figures n power
nearest_figures n (negsuc power) = above_0_figures _ 0

pub all_tail : (P : ℕ → Type 0) (x : ℕ) (xs : List ℕ) → All P (x ∷ xs) → All P xs
all_tail P x xs all = λ k d within. all (suc k) d (omega arith)

pub no_comma : (c : ℕ) → 47 < c → (c == 44) ≡ false
no_comma c above = grind (arith, nat_tests)

pub plain_step : (test : Bool) (x : ℕ) (xs ys : List ℕ) → test ≡ false → xs ≡ ys
    → cond (not test) (x ∷ xs) xs ≡ x ∷ ys
plain_step true x xs ys fails same = absurd (cc)
plain_step false x xs ys fails same = ap (λ rest. x ∷ rest) same

-- a text that has no comma
pub without_none : (xs : List ℕ) → All IsNoComma xs → without_commas xs ≡ xs
without_none [] all = refl
without_none (x ∷ xs) all =
    plain_step (x == 44) x _ xs (all 0 0 (omega arith))
    (without_none xs (all_tail IsNoComma x xs all))

pub plain_figures : (xs : List ℕ) → All IsFigure xs → All IsNoComma xs
plain_figures xs all = λ k d within. no_comma _ (all k d within)

-- General shows no comma
plain_decimal : (n : ℕ) → All IsNoComma (decimal n)
plain_decimal n = plain_figures (decimal n) (decimal_figures n)

plain_padded : (width n : ℕ) → All IsNoComma (padded width n)
plain_padded width n =
    All-append IsNoComma (replicate (width - length (decimal n)) 48) (decimal n)
    (All-replicate IsNoComma (width - length (decimal n)) 48 refl) (plain_decimal n)

plain_cut : (xs : List ℕ) → All IsNoComma xs → All IsNoComma (without_trailing_zeros xs)
plain_cut xs all = All-take IsNoComma (length xs - trailing_zeros xs) xs all

plain_behind : (xs : List ℕ) → All IsNoComma xs → All IsNoComma (behind_point xs)
plain_behind [] all = All-nil IsNoComma
plain_behind (b ∷ bs) all = All-cons IsNoComma 46 (b ∷ bs) refl all

plain_sign_of : (negative : Bool) → (cond negative 45 43 == 44) ≡ false
plain_sign_of true = refl
plain_sign_of false = refl

plain_exponent : (power : ℤ) → All IsNoComma (exponent_text power)
plain_exponent power =
    All-cons IsNoComma 69 (exponent_sign power ∷ padded 2 (nat_abs power)) refl
    (All-cons IsNoComma (exponent_sign power) (padded 2 (nat_abs power))
    (plain_sign_of (is_negative power)) (plain_padded 2 (nat_abs power)))

plain_power : (ds : List ℕ) (power : ℤ) → All IsNoComma ds → All IsNoComma (with_power ds power)
plain_power ds power all =
    All-append IsNoComma (take 1 ds) _ (All-take IsNoComma 1 ds all)
    (All-append IsNoComma (behind_point (without_trailing_zeros (drop 1 ds))) _
    (plain_behind _ (plain_cut (drop 1 ds) (All-drop IsNoComma 1 ds all)))
    (plain_exponent (power +ℤ pos (length ds - 1))))

plain_scientific : (n : ℕ) (power : ℤ) → All IsNoComma (scientific n power)
plain_scientific n power =
    plain_power (decimal (nearest (digits_behind 6 n) n)) (power +ℤ pos (digits_behind 6 n))
    (plain_decimal (nearest (digits_behind 6 n) n))

plain_places : (places n : ℕ) → All IsNoComma (with_places places n)
plain_places places n =
    All-append IsNoComma (decimal (n / 10 ^ places)) _ (plain_decimal (n / 10 ^ places))
    (plain_behind _ (plain_cut _ (plain_padded places (n % 10 ^ places))))

plain_in_places : (n : ℕ) (power : ℤ) (places : Option ℕ)
    → All IsNoComma (text_in_places n power places)
plain_in_places n power None = plain_scientific n power
plain_in_places n power (Some places) =
    all_chosen IsNoComma
    (nat_lt (nearest_at n (power +ℤ pos places)) (10 ^ (11 + places)))
    (with_places places (nearest_at n (power +ℤ pos places))) (scientific n power)
    (plain_places places (nearest_at n (power +ℤ pos places))) (plain_scientific n power)

pub plain_sign : (negative : Bool) → All IsNoComma (sign_text negative)
plain_sign true = All-cons IsNoComma 45 [] refl (All-nil IsNoComma)
plain_sign false = All-nil IsNoComma

plain_size : (n : ℕ) (power : ℤ) → All IsNoComma (general_size n power)
plain_size n power =
    all_chosen IsNoComma (n == 0) (48 ∷ []) _
    (All-cons IsNoComma 48 [] refl (All-nil IsNoComma))
    (plain_in_places n power (general_places n power (first_power n power)))

pub plain_general : (exact : ℤ × ℤ) → All IsNoComma (general_text exact)
unfolding general_text
plain_general exact =
    All-append IsNoComma (sign_text (is_negative exact.0)) _ (plain_sign (is_negative exact.0))
    (plain_size (nat_abs (shown_digits exact).0) (shown_digits exact).1)
