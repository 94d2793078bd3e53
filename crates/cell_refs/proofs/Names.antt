-- The names of columns: how they grow, and that they read back.
use Rattle.std.proofs.Common.{◌≡◌, ℕ, zero, suc, ◌+◌, ◌-◌, ◌*◌, ◌/◌, ◌%◌, ◌<◌, ◌≤◌, List, [], ◌∷◌}
use Rattle.std.proofs.Common.{◌++◌, map, refl, ap, ◌∙◌, arith}
use Rattle.std.specs.Prelude.{All, Result, Ok, Err, MatchResult, IsOk}
use Rattle.std.proofs.lemmas.Bool.Decides.{nat_tests}
use Rattle.std.proofs.lemmas.List.{map_push}
use Rattle.std.proofs.lemmas.List.Elements.{All-nil, All-push, All-weaker}
use Rattle.std.proofs.lemmas.Str.{IsUtf8-from_ascii}
use Rattle.std.proofs.lemmas.Str.Ascii.{IsAscii-from_all}
use Rattle.std.specs.Str.{IsUtf8}
use Rattle.std.proofs.lemmas.Int.Digits.{number_push}
use Rattle.std.specs.Int.Digits.{number_from_digits}
use Rattle.cell_refs.specs.A1.{IsCapital, letter_value, letters_value, capitals_with_fuel}
use Rattle.cell_refs.specs.A1.{column_name}

-- more turns than the number change nothing
capitals_with_fuel_turns : (t u n : ℕ) → n ≤ t → n ≤ u →
    capitals_with_fuel t n ≡ capitals_with_fuel u n
capitals_with_fuel_turns t u zero a b = refl
capitals_with_fuel_turns zero u (suc n) a b = absurd (omega arith)
capitals_with_fuel_turns (suc t) zero (suc n) a b = absurd (omega arith)
capitals_with_fuel_turns (suc t) (suc u) (suc n) a b =
    ap (λ front. front ++ (65 + n % 26) ∷ [])
    (capitals_with_fuel_turns t u (n / 26) (omega arith) (omega arith))

-- the first 26 columns have one letter
pub column_name_one : (n : ℕ) → n < 26 → column_name n ≡ (65 + n) ∷ []
unfolding column_name
column_name_one n h =
    let none : n / 26 ≡ 0 = omega arith in
    let same : n % 26 ≡ n = omega arith in
    ap (λ q. capitals_with_fuel n q ++ (65 + n % 26) ∷ []) none ∙ ap (λ r. (65 + r) ∷ []) same

-- a further column has the name of an earlier one, and a letter
pub column_name_more : (n : ℕ) → 26 ≤ n →
    column_name n ≡ column_name (n / 26 - 1) ++ (65 + n % 26) ∷ []
unfolding column_name
column_name_more n h =
    let next : n / 26 ≡ suc (n / 26 - 1) = omega arith in
    ap (λ front. front ++ (65 + n % 26) ∷ [])
    (ap (capitals_with_fuel n) next
    ∙ capitals_with_fuel_turns n (suc (n / 26 - 1)) (suc (n / 26 - 1)) (omega arith)
    (omega arith))

pub ruleset name_steps = (column_name_one, column_name_more)

letter_value_capital : (r : ℕ) → r < 26 → letter_value (65 + r) ≡ r + 1
letter_value_capital r h = grind (arith, nat_tests)

-- letters with one more behind them
pub letters_value_push : (letters : List ℕ) (b : ℕ) →
    letters_value (letters ++ b ∷ []) ≡ letters_value letters * 26 + letter_value b
letters_value_push letters b = ap (number_from_digits 26) (map_push letter_value letters b)
    ∙ number_push 26 (map letter_value letters) (letter_value b)

letters_value-capitals : (t n : ℕ) → n ≤ t → letters_value (capitals_with_fuel t n) ≡ n
letters_value-capitals t zero h = refl
letters_value-capitals zero (suc n) h = absurd (omega arith)
letters_value-capitals (suc t) (suc n) h =
    let inner : letters_value (capitals_with_fuel t (n / 26)) ≡ n / 26 =
    letters_value-capitals t (n / 26) (omega arith) in
    let last : letter_value (65 + n % 26) ≡ n % 26 + 1 =
    letter_value_capital (n % 26) (omega arith) in
    letters_value_push (capitals_with_fuel t (n / 26)) (65 + n % 26) ∙ omega (arith, inner, last)

-- the name of a column writes its number, counted from 1
pub letters_value-column_name : (n : ℕ) → letters_value (column_name n) ≡ n + 1
unfolding column_name
letters_value-column_name n = letters_value-capitals (suc n) (suc n) (omega arith) ∙ omega arith

capitals-capitals : (t n : ℕ) → All IsCapital (capitals_with_fuel t n)
capitals-capitals t zero = All-nil IsCapital
capitals-capitals zero (suc n) = All-nil IsCapital
capitals-capitals (suc t) (suc n) =
    All-push IsCapital (capitals_with_fuel t (n / 26)) (65 + n % 26) (capitals-capitals t (n / 26))
    (omega arith, omega arith)

-- the name of a column is of capitals
pub All-capital-column_name : (n : ℕ) → All IsCapital (column_name n)
unfolding column_name
All-capital-column_name n = capitals-capitals (suc n) (suc n)

-- capitals are text
pub IsUtf8-from_capitals : (letters : List ℕ) → All IsCapital letters → IsUtf8 letters
IsUtf8-from_capitals letters capitals =
    IsUtf8-from_ascii letters
    (IsAscii-from_all letters
    (All-weaker IsCapital (λ b. b < 128) (λ b capital. omega arith) letters capitals))

-- a call that errs only where U doesn't hold has a value where it does
pub ok_from_no_err : {T E : Type 0} (r : Result T E) (P : T → Type 0) (U : Type 0)
    (V : E → Type 0) → MatchResult r P (λ e. ¬ U × V e) → U → IsOk r
ok_from_no_err (Ok x) P U V h u = refl
ok_from_no_err (Err e) P U V h u = absurd (h.0 u)
