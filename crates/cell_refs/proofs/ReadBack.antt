-- A text of letters and what stands behind them, read from its front.
use Rattle.std.proofs.Common.{◌≡◌, ℕ, ◌+◌, ◌<◌, List, [], ◌∷◌, ◌++◌, length, take, drop, true, refl}
use Rattle.std.proofs.Common.{ap, ◌∙◌, arith}
use Rattle.std.specs.Prelude.{All, Ok, codes}
use Rattle.std.specs.Char.{is_ascii_alphabetic}
use Rattle.std.specs.List.{prefix_len}
use Rattle.std.proofs.lemmas.Bool.Decides.{nat_tests}
use Rattle.std.proofs.lemmas.List.{take_at, drop_at}
use Rattle.std.proofs.lemmas.List.Elements.{All-weaker}
use Rattle.std.proofs.lemmas.List.Folds.{prefix_len-append}
use Rattle.std.proofs.lemmas.List.Sums.{prefix_len_is}
use Rattle.cell_refs.specs.A1.{IsCapital, letters_of, behind_letters, letters_value, column_name}
use Rattle.cell_refs.specs.A1.{corner_from, corner}
use Rattle.cell_refs.proofs.Names.{letters_value-column_name, All-capital-column_name}

-- b is a letter of either case
abbrev IsLetter : ℕ → Type 0
IsLetter b = is_ascii_alphabetic b ≡ true

prefix_len-letters : (letters : List ℕ) → All IsLetter letters →
    prefix_len is_ascii_alphabetic letters ≡ length letters
prefix_len-letters letters all =
    prefix_len_is is_ascii_alphabetic letters (length letters) 0 (omega arith) (λ k h. all k _ h)
    (λ h. absurd (omega arith))

-- letters end where none stands behind them
pub letters_len_is : (letters rest : List ℕ) → All IsLetter letters →
    prefix_len is_ascii_alphabetic rest ≡ 0 →
    prefix_len is_ascii_alphabetic (letters ++ rest) ≡ length letters
letters_len_is letters rest all none =
    let whole = prefix_len-letters letters all in
    prefix_len-append is_ascii_alphabetic letters rest ∙ grind (arith, nat_tests)

pub letters_of-append : (letters rest : List ℕ) → All IsLetter letters →
    prefix_len is_ascii_alphabetic rest ≡ 0 → letters_of (letters ++ rest) ≡ letters
letters_of-append letters rest all none =
    ap (λ n. take n (letters ++ rest)) (letters_len_is letters rest all none)
    ∙ take_at letters rest (length letters) refl

pub behind_letters-append : (letters rest : List ℕ) → All IsLetter letters →
    prefix_len is_ascii_alphabetic rest ≡ 0 → behind_letters (letters ++ rest) ≡ rest
behind_letters-append letters rest all none =
    ap (λ n. drop n (letters ++ rest)) (letters_len_is letters rest all none)
    ∙ drop_at letters rest (length letters) refl

capital_is_letter : (b : ℕ) → IsCapital b → IsLetter b
capital_is_letter b capital = let low = capital.0 in let high = capital.1 in
    grind (arith, nat_tests)

pub letters-column_name : (column : ℕ) → All IsLetter (column_name column)
letters-column_name column =
    All-weaker IsCapital IsLetter capital_is_letter (column_name column)
    (All-capital-column_name column)

-- `corner` of a text with these letters, and this behind them
pub corner_from_parts : (text letters behind : List ℕ) → letters_of text ≡ letters →
    behind_letters text ≡ behind → corner text ≡ corner_from letters behind
unfolding corner
corner_from_parts text letters behind front back =
    ap (λ l. corner_from l (behind_letters text)) front ∙ ap (corner_from letters) back

pub length_from_value : (letters : List ℕ) → 0 < letters_value letters → 0 < length letters
length_from_value [] some = absurd (omega arith)
length_from_value (b ∷ letters) some = omega arith

first_row : (letters : List ℕ) (column : ℕ) → letters_value letters ≡ column + 1 → column < 16384 →
    corner_from letters (codes "1") ≡ Ok (0, column)
first_row letters column value in_columns =
    let some = length_from_value letters (omega arith) in
    grind (arith, nat_tests, value, some)

-- the name of a column with `1` behind it is the column's first cell
pub corner_of_name : (column : ℕ) → column < 16384 →
    corner (column_name column ++ codes "1") ≡ Ok (0, column)
corner_of_name column in_columns =
    let all = letters-column_name column in
    corner_from_parts (column_name column ++ codes "1") (column_name column) (codes "1")
    (letters_of-append (column_name column) (codes "1") all refl)
    (behind_letters-append (column_name column) (codes "1") all refl)
    ∙ first_row (column_name column) column (letters_value-column_name column) in_columns
