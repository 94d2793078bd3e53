-- Digits in the places of `#,##0.00` and of `0.00`.
use Rattle.excel_dates.proofs.SerialSteps.{by_true, by_false}
use Rattle.shown_text_laws.proofs.Tests.{less_told}
use Rattle.std.proofs.Common.{◌≡◌, ◌∙◌, ◌++◌, ◌+◌, ◌-◌, ◌<◌, ◌≤◌, ◌==◌, ℕ, zero, suc, Bool, true}
use Rattle.std.proofs.Common.{false, cond, List, [], ◌∷◌, Option, Some, None, length, get_or, refl}
use Rattle.std.proofs.Common.{ap, sym, subst, arith, not, inl, inr, append_assoc, append-nil}
use Rattle.std.specs.Prelude.{nat_lt, nat_le, unwrap_or, option_to_list}
use Rattle.std.specs.List.{All}
use Rattle.std.proofs.lemmas.List.Elements.{All-nil, All-cons, All-append, All-get_or}
use Rattle.std.proofs.lemmas.List.Elements.{filter-append}
use Rattle.std.proofs.lemmas.Bool.{cases_lt}
use Rattle.std.proofs.lemmas.Bool.Decides.{nat_tests}
use Rattle.format_codes.specs.declared.piece.CodePiece.TheVariants as piece
use Rattle.format_codes.specs.declared.piece.Filler.TheVariants.{Zero, Nothing}
use Rattle.shown_text.specs.Words.{digit_at, place_character, separator, placed_text, surplus}
use Rattle.shown_text.specs.Words.{with_digits, fraction_character, hidden_places, behind_text}
use Rattle.shown_text_laws.specs.NumberCodes.{without_commas}
use Rattle.shown_text_laws.proofs.AllDigits.{plain_step, IsFigure, no_comma}

separated : (test space : Bool) → space ≡ false
    → without_commas (cond test (cond space 32 44 ∷ []) []) ≡ []
separated true true none = absurd (cc)
separated true false none = refl
separated false space none = refl

no_space : (c : ℕ) → 47 < c → (c == 32) ≡ false
no_space c above = grind (arith, nat_tests)

-- a digit with the comma behind it
figure_kept : (place c : ℕ) → 47 < c
    → without_commas (placed_text true place (Some c)) ≡ placed_text false place (Some c)
figure_kept place c above =
    plain_step (c == 44) c (without_commas (separator true place c)) [] (no_comma c above)
    (separated _ (c == 32) (no_space c above))

chosen_kept : (test : Bool) (place c : ℕ) → (test ≡ true → 47 < c)
    → without_commas (placed_text true place (cond test (Some c) None))
    ≡ placed_text false place (cond test (Some c) None)
chosen_kept true place c above = figure_kept place c (above refl)
chosen_kept false place c above = refl

-- the digit of a place with the comma behind it
digit_kept : (ds : List ℕ) (place at : ℕ) → All IsFigure ds
    → without_commas (placed_text true at (digit_at ds place))
    ≡ placed_text false at (digit_at ds place)
digit_kept ds place at all =
    chosen_kept (nat_lt place (length ds)) at (get_or ds (length ds - (place + 1)) 0)
    (λ holds. let inside : place < length ds = less_told place (length ds) holds in
    All-get_or IsFigure ds (length ds - (place + 1)) 0 (omega arith) all)

surplus_step : (test : Bool) (xs ys zs ws : List ℕ) → without_commas xs ≡ zs
    → without_commas ys ≡ ws
    → without_commas (cond test (xs ++ ys) []) ≡ cond test (zs ++ ws) []
surplus_step true xs ys zs ws first second =
    filter-append (λ c. not (c == 44)) xs ys ∙ (λ i. first i ++ second i)
surplus_step false xs ys zs ws first second = refl

surplus_kept : (ds : List ℕ) (places left : ℕ) → All IsFigure ds
    → without_commas (surplus true ds places left) ≡ surplus false ds places left
surplus_kept ds places zero all = refl
surplus_kept ds places (suc left) all =
    surplus_step (nat_le places left) (placed_text true left (digit_at ds left))
    (surplus true ds places left) (placed_text false left (digit_at ds left))
    (surplus false ds places left) (digit_kept ds left left all)
    (surplus_kept ds places left all)

-- no digit is too many where there are as many places
surplus_none : (ds : List ℕ) (places left : ℕ) → left ≤ places → surplus false ds places left ≡ []
surplus_none ds places zero few = refl
surplus_none ds places (suc left) few =
    let none : nat_le places left ≡ false = grind (arith, nat_tests) in
    by_false (nat_le places left) _ _ none

abbrev shown_at : List ℕ → ℕ → List ℕ
shown_at ds p = placed_text false p (digit_at ds p)

-- by where the place stands
more_before : (ds : List ℕ) (p left : ℕ) → left < p
    → surplus false ds p (suc left)
    ≡ surplus false ds (suc p) (suc left) ++ cond (nat_lt p (suc left)) (shown_at ds p) []
more_before ds p left before =
    let none : nat_lt p (suc left) ≡ false = grind (arith, nat_tests) in
    let few : suc left ≤ p = omega arith in
    let fewer : suc left ≤ suc p = omega arith in
    surplus_none ds p (suc left) few
    ∙ sym (λ i. surplus_none ds (suc p) (suc left) fewer i
    ++ by_false (nat_lt p (suc left)) (shown_at ds p) [] none i)

more_at : (ds : List ℕ) (p : ℕ)
    → surplus false ds p (suc p)
    ≡ surplus false ds (suc p) (suc p) ++ cond (nat_lt p (suc p)) (shown_at ds p) []
more_at ds p =
    let first : nat_le p p ≡ true = grind (arith, nat_tests) in
    let last : nat_lt p (suc p) ≡ true = grind (arith, nat_tests) in
    let few : p ≤ p = omega arith in
    let fewer : suc p ≤ suc p = omega arith in
    by_true (nat_le p p) (shown_at ds p ++ surplus false ds p p) [] first
    ∙ ap (λ rest. shown_at ds p ++ rest) (surplus_none ds p p few)
    ∙ append-nil (shown_at ds p)
    ∙ sym (λ i. surplus_none ds (suc p) (suc p) fewer i
    ++ by_true (nat_lt p (suc p)) (shown_at ds p) [] last i)

more_behind : (ds : List ℕ) (p left : ℕ) → p < left
    → surplus false ds p left
    ≡ surplus false ds (suc p) left ++ cond (nat_lt p left) (shown_at ds p) []
    → surplus false ds p (suc left)
    ≡ surplus false ds (suc p) (suc left) ++ cond (nat_lt p (suc left)) (shown_at ds p) []
more_behind ds p left behind rest =
    let here : nat_le p left ≡ true = grind (arith, nat_tests) in
    let there : nat_le (suc p) left ≡ true = grind (arith, nat_tests) in
    let now : nat_lt p left ≡ true = grind (arith, nat_tests) in
    let then_too : nat_lt p (suc left) ≡ true = grind (arith, nat_tests) in
    by_true (nat_le p left) (placed_text false left (digit_at ds left) ++ surplus false ds p left)
    [] here
    ∙ ap (λ more. placed_text false left (digit_at ds left) ++ more)
    (rest ∙ ap (λ more. surplus false ds (suc p) left ++ more)
    (by_true (nat_lt p left) (shown_at ds p) [] now))
    ∙ sym (append_assoc (placed_text false left (digit_at ds left)) (surplus false ds (suc p) left)
    (shown_at ds p))
    ∙ sym (λ i. by_true (nat_le (suc p) left)
    (placed_text false left (digit_at ds left) ++ surplus false ds (suc p) left) [] there i
    ++ by_true (nat_lt p (suc left)) (shown_at ds p) [] then_too i)

-- a place more takes the last of the digits that are too many
one_more : (ds : List ℕ) (p left : ℕ)
    → surplus false ds p left
    ≡ surplus false ds (suc p) left
    ++ cond (nat_lt p left) (shown_at ds p) []
one_more ds p zero =
    let none : nat_lt p 0 ≡ false = grind (arith, nat_tests) in
    sym (by_false (nat_lt p 0) (shown_at ds p) [] none)
one_more ds p (suc left) = elim (cases_lt left p) [
  | inl before ↦ more_before ds p left before
  | inr within ↦ elim (cases_lt p left) [
    | inl behind ↦ more_behind ds p left behind (one_more ds p left)
    | inr past ↦
        let same : left ≡ p = omega arith in
        subst (λ n. surplus false ds p (suc n)
        ≡ surplus false ds (suc p) (suc n) ++ cond (nat_lt p (suc n)) (shown_at ds p) [])
        (sym same) (more_at ds p)
  ]
]

inside : (test : Bool) (place c : ℕ)
    → cond test (placed_text false place (cond test (Some c) None)) []
    ≡ placed_text false place (cond test (Some c) None)
inside true place c = refl
inside false place c = refl

-- a place takes the digit that stands before those of the places behind it
pub place_taken : (ds : List ℕ) (p : ℕ) (others : List ℕ)
    → surplus false ds (suc p) (length ds) ++ (shown_at ds p ++ others)
    ≡ surplus false ds p (length ds) ++ others
place_taken ds p others =
    sym (append_assoc (surplus false ds (suc p) (length ds)) (shown_at ds p) others)
    ∙ ap (λ taken. taken ++ others)
    (sym (one_more ds p (length ds)
    ∙ ap (λ last. surplus false ds (suc p) (length ds) ++ last)
    (inside (nat_lt p (length ds)) p (get_or ds (length ds - (p + 1)) 0))))

nothing_place : (digit : Option ℕ) → place_character Nothing false digit ≡ digit
nothing_place None = refl
nothing_place (Some digit) = refl

empty_kept : (ds : List ℕ) (place : ℕ) → All IsFigure ds
    → without_commas (placed_text true place (place_character Nothing false (digit_at ds place)))
    ≡ shown_at ds place
empty_kept ds place all =
    ap (λ digit. without_commas (placed_text true place digit)) (nothing_place (digit_at ds place))
    ∙ digit_kept ds place place all

zero_chosen : (test : Bool) (place c : ℕ) → (test ≡ true → 47 < c)
    → without_commas (placed_text true place (place_character Zero false (cond test (Some c) None)))
    ≡ placed_text false place (place_character Zero false (cond test (Some c) None))
zero_chosen true place c above = figure_kept place c (above refl)
zero_chosen false place c above = figure_kept place 48 (omega arith)

inside_figure : (ds : List ℕ) (place : ℕ) → All IsFigure ds → nat_lt place (length ds) ≡ true
    → 47 < get_or ds (length ds - (place + 1)) 0
inside_figure ds place all holds =
    let within : place < length ds = less_told place (length ds) holds in
    All-get_or IsFigure ds (length ds - (place + 1)) 0 (omega arith) all

pub without_both : (xs ys zs ws : List ℕ) → without_commas xs ≡ zs → without_commas ys ≡ ws
    → without_commas (xs ++ ys) ≡ zs ++ ws
without_both xs ys zs ws first second =
    filter-append (λ c. not (c == 44)) xs ys ∙ (λ i. first i ++ second i)

-- the digits before the point
pub whole_kept : (ds : List ℕ) → All IsFigure ds
    → without_commas (with_digits true false [] ds (piece.Digit Nothing ∷ piece.Comma
    ∷ piece.Digit Nothing ∷ piece.Digit Nothing ∷ piece.Digit Zero ∷ []))
    ≡ with_digits false false [] ds (piece.Digit Zero ∷ [])
whole_kept ds all =
    let at = λ (place : ℕ).
    placed_text true place (place_character Nothing false (digit_at ds place)) in
    let last = placed_text true 0 (place_character Zero false (digit_at ds 0)) ++ [] in
    let kept = placed_text false 0 (place_character Zero false (digit_at ds 0)) ++ [] in
    without_both (surplus true ds 4 (length ds)) (at 3 ++ (at 2 ++ (at 1 ++ last)))
    (surplus false ds 4 (length ds)) (shown_at ds 3 ++ (shown_at ds 2 ++ (shown_at ds 1 ++ kept)))
    (surplus_kept ds 4 (length ds) all)
    (without_both (at 3) (at 2 ++ (at 1 ++ last)) (shown_at ds 3)
    (shown_at ds 2 ++ (shown_at ds 1 ++ kept)) (empty_kept ds 3 all)
    (without_both (at 2) (at 1 ++ last) (shown_at ds 2) (shown_at ds 1 ++ kept)
    (empty_kept ds 2 all)
    (without_both (at 1) last (shown_at ds 1) kept (empty_kept ds 1 all)
    (without_both (placed_text true 0 (place_character Zero false (digit_at ds 0))) []
    (placed_text false 0 (place_character Zero false (digit_at ds 0))) []
    (zero_chosen (nat_lt 0 (length ds)) 0 (get_or ds (length ds - 1) 0) (inside_figure ds 0 all))
    refl))))
    ∙ place_taken ds 3 (shown_at ds 2 ++ (shown_at ds 1 ++ kept))
    ∙ place_taken ds 2 (shown_at ds 1 ++ kept)
    ∙ place_taken ds 1 kept

figure_or : (test : Bool) (c : ℕ) → (test ≡ true → 47 < c)
    → 47 < unwrap_or (cond test (Some c) None) 48
figure_or true c above = above refl
figure_or false c above = omega arith

one_figure : (test : Bool) (c : ℕ) → 47 < c
    → All IsFigure (option_to_list (cond test (Some 48) (Some c)))
one_figure true c above = All-cons IsFigure 48 [] (omega arith) (All-nil IsFigure)
one_figure false c above = All-cons IsFigure c [] above (All-nil IsFigure)

place_figure : (ds : List ℕ) (hidden place : ℕ) → All IsFigure ds
    → All IsFigure (option_to_list (fraction_character Zero ds hidden place))
place_figure ds hidden place all =
    one_figure (nat_lt place hidden) (unwrap_or (digit_at ds place) 48)
    (figure_or (nat_lt place (length ds)) (get_or ds (length ds - (place + 1)) 0)
    (inside_figure ds place all))

-- the digits behind the point
pub behind_figures : (ds : List ℕ) → All IsFigure ds
    → All IsFigure (behind_text true ds (piece.Digit Zero ∷ piece.Digit Zero ∷ []))
behind_figures ds all =
    let hidden = hidden_places ds (piece.Digit Zero ∷ piece.Digit Zero ∷ []) in
    All-append IsFigure (option_to_list (fraction_character Zero ds hidden 1)) _
    (place_figure ds hidden 1 all)
    (All-append IsFigure (option_to_list (fraction_character Zero ds hidden 0)) []
    (place_figure ds hidden 0 all) (All-nil IsFigure))
