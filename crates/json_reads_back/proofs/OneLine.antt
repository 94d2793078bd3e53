-- No line feed stands in the text of a value.
use Rattle.std.proofs.Common.{◌≡◌, ◌≢◌, ◌∙◌, ℕ, zero, suc, ◌+◌, ◌<◌, ◌==◌, ◌&&◌, ◌||◌, Bool, true}
use Rattle.std.proofs.Common.{false, cond, List, [], ◌∷◌, ◌++◌, drop, map, Option, Some, None, refl}
use Rattle.std.proofs.Common.{sym, ap, subst, arith, inl, inr, append_assoc, append-nil}
use Rattle.std.proofs.Common.{option_and_then}
use Rattle.std.specs.Prelude.{not}
use Rattle.std.specs.Char.{is_ascii_digit}
use Rattle.std.specs.List.{flat_map, prefix_len, AllByRecursion}
use Rattle.std.proofs.lemmas.Bool.{cases_eq, cases_lt}
use Rattle.std.proofs.lemmas.Bool.Decides.{nat_tests}
use Rattle.json.specs.Json.{Json}
use Rattle.json.specs.Print.{escape_byte, escape, quoted, token_text, begins, ends, separator}
use Rattle.json.specs.Print.{print_from, IsNumber, IsPrintable, ArePrintable}
use Rattle.json.specs.Token as token
use Rattle.json.specs.Token.{Token}
use Rattle.json.specs.Tree.{json_tokens, HasNumbers}
use Rattle.json.specs.Word.{after_digits, after_minus, after_sign, after_whole, after_fraction}
use Rattle.json.specs.Word.{after_exponent, after_number}
use Rattle.json.proofs.Printed.Strings.{escape_byte_plain}
use Rattle.json.proofs.Printed.Trees.{ArePrintable-json_tokens}
use Rattle.json_lines.specs.JsonLines.{json_text, json_line}
use Rattle.json_reads_back.specs.LinesCut.{is_one_line, lines_behind, lines_of, AreOneLineEach}

abbrev IsFree : List ℕ → Type 0
IsFree text = is_one_line text ≡ true

both : (p q : Bool) → p ≡ true → q ≡ true → (p && q) ≡ true
both true true one two = refl
both true false one two = two
both false q one two = one

parts : (p q : Bool) → (p && q) ≡ true → (p ≡ true) × (q ≡ true)
parts true q all = (refl, all)
parts false q all = absurd (cc)

joined : (xs ys : List ℕ) → IsFree xs → IsFree ys → IsFree (xs ++ ys)
joined [] ys one two = two
joined (x ∷ xs) ys one two =
    let (first, rest) = parts (not (x == 10)) (is_one_line xs) one in
    both (not (x == 10)) (is_one_line (xs ++ ys)) first (joined xs ys rest two)

more : (x : ℕ) (xs : List ℕ) → x ≢ 10 → IsFree xs → IsFree (x ∷ xs)
more x xs other rest =
    both (not (x == 10)) (is_one_line xs) (grind (arith, nat_tests, other)) rest

-- ---- numbers

-- what stands behind digits is free, so is all
behind_digits : (t : List ℕ) → IsFree (drop (prefix_len is_ascii_digit t) t) → IsFree t
behind_digits [] rest = refl
behind_digits (x ∷ xs) rest = by_test (is_ascii_digit x) refl (behind_digits xs) rest
  where
    by_test : (test : Bool) → is_ascii_digit x ≡ test
        → (IsFree (drop (prefix_len is_ascii_digit xs) xs) → IsFree xs)
        → IsFree (drop (cond test (1 + prefix_len is_ascii_digit xs) 0) (x ∷ xs))
        → IsFree (x ∷ xs)
    by_test true is others left =
        more x xs (λ same. grind (arith, nat_tests, is, same))
        (others (subst (λ (n : ℕ). IsFree (drop n (x ∷ xs)))
        (let one : 1 + prefix_len is_ascii_digit xs ≡ suc (prefix_len is_ascii_digit xs) =
        omega arith in one) left))
    by_test false is others left = left

taken : (test : Bool) (n : ℕ) (t rest : List ℕ) → cond test None (Some (drop n t)) ≡ Some rest
    → IsFree rest → IsFree (drop n t)
taken true n t rest is free = absurd (cc)
taken false n t rest is free =
    let same : drop n t ≡ rest = cc in subst IsFree (sym same) free

digits_free : (t rest : List ℕ) → after_digits t ≡ Some rest → IsFree rest → IsFree t
digits_free t rest is free =
    let n = prefix_len is_ascii_digit t in behind_digits t (taken (n == 0) n t rest is free)

-- a byte that may stand in front
skipped : (test : Bool) (x : ℕ) (xs : List ℕ) → (test ≡ true → x ≢ 10)
    → IsFree (cond test xs (x ∷ xs)) → IsFree (x ∷ xs)
skipped true x xs other rest = more x xs (other refl) rest
skipped false x xs other rest = rest

minus_free : (t : List ℕ) → IsFree (after_minus t) → IsFree t
minus_free [] rest = refl
minus_free (x ∷ xs) rest =
    skipped (x == 45) x xs (λ is same. grind (arith, nat_tests, is, same)) rest

sign_free : (t : List ℕ) → IsFree (after_sign t) → IsFree t
sign_free [] rest = refl
sign_free (x ∷ xs) rest =
    skipped ((x == 45) || (x == 43)) x xs (λ is same. grind (arith, nat_tests, is, same)) rest

some_free : (xs ys : List ℕ) → Some xs ≡ Some ys → IsFree ys → IsFree xs
some_free xs ys is free = let same : xs ≡ ys = cc in subst IsFree (sym same) free

whole_free : (t rest : List ℕ) → after_whole t ≡ Some rest → IsFree rest → IsFree t
whole_free [] rest is free = refl
whole_free (x ∷ xs) rest is free = by_test (x == 48) refl is
  where
    by_test : (test : Bool) → (x == 48) ≡ test
        → cond test (Some xs) (after_digits (x ∷ xs)) ≡ Some rest → IsFree (x ∷ xs)
    by_test true leads found =
        more x xs (λ same. grind (arith, nat_tests, leads, same)) (some_free xs rest found free)
    by_test false leads found = digits_free (x ∷ xs) rest found free

fraction_free : (t rest : List ℕ) → after_fraction t ≡ Some rest → IsFree rest → IsFree t
fraction_free [] rest is free = refl
fraction_free (x ∷ xs) rest is free = by_test (x == 46) refl is
  where
    by_test : (test : Bool) → (x == 46) ≡ test
        → cond test (after_digits xs) (Some (x ∷ xs)) ≡ Some rest → IsFree (x ∷ xs)
    by_test true point found =
        more x xs (λ same. grind (arith, nat_tests, point, same)) (digits_free xs rest found free)
    by_test false point found = some_free (x ∷ xs) rest found free

exponent_free : (t rest : List ℕ) → after_exponent t ≡ Some rest → IsFree rest → IsFree t
exponent_free [] rest is free = refl
exponent_free (x ∷ xs) rest is free = by_test ((x == 101) || (x == 69)) refl is
  where
    by_test : (test : Bool) → ((x == 101) || (x == 69)) ≡ test
        → cond test (after_digits (after_sign xs)) (Some (x ∷ xs)) ≡ Some rest → IsFree (x ∷ xs)
    by_test true mark found =
        more x xs (λ same. grind (arith, nat_tests, mark, same))
        (sign_free xs (digits_free (after_sign xs) rest found free))
    by_test false mark found = some_free (x ∷ xs) rest found free

number_free : (t : List ℕ) → IsNumber t → IsFree t
unfolding after_number
number_free t is = by_whole (after_whole (after_minus t)) refl is
  where
    by_fraction : (rest : List ℕ) (found : Option (List ℕ))
        → after_whole (after_minus t) ≡ Some rest → after_fraction rest ≡ found
        → option_and_then after_exponent found ≡ Some [] → IsFree t
    by_fraction rest None whole there all = absurd (cc)
    by_fraction rest (Some left) whole there all =
        minus_free t (whole_free (after_minus t) rest whole
        (fraction_free rest left there (exponent_free left [] all refl)))

    by_whole : (found : Option (List ℕ)) → after_whole (after_minus t) ≡ found
        → option_and_then after_exponent (option_and_then after_fraction found) ≡ Some []
        → IsFree t
    by_whole None whole all = absurd (cc)
    by_whole (Some rest) whole all = by_fraction rest (after_fraction rest) whole refl all

-- ---- texts

abbrev frees_below : ℕ → Bool
frees_below zero = true
frees_below (suc n) = is_one_line (escape_byte n) && frees_below n

free_below : (n : ℕ) → frees_below n ≡ true → (x : ℕ) → x < n → IsFree (escape_byte x)
free_below zero all x below = absurd (omega arith)
free_below (suc n) all x below =
    let (own, rest) = parts (is_one_line (escape_byte n)) (frees_below n) all in
    elim (cases_eq x n) [
      | inl same ↦ rw same own
      | inr other ↦ free_below n rest x (omega arith)
    ]

all_free : frees_below 93 ≡ true
unfolding escape_byte
all_free = refl

byte_free : (x : ℕ) → IsFree (escape_byte x)
byte_free x = elim (cases_lt x 93) [
  | inl small ↦ free_below 93 all_free x small
  | inr large ↦
      subst IsFree (sym (escape_byte_plain x (λ e. omega arith) (λ e. omega arith) (omega arith)))
      (more x [] (λ same. omega (arith, large, same)) refl)
]

escape_free : (text : List ℕ) → IsFree (escape text)
escape_free [] = refl
escape_free (x ∷ xs) = joined (escape_byte x) (escape xs) (byte_free x) (escape_free xs)

quoted_free : (text : List ℕ) → IsFree (quoted text)
quoted_free text =
    more 34 (escape text ++ 34 ∷ []) (λ same. omega (arith, same))
    (joined (escape text) (34 ∷ []) (escape_free text) refl)

-- ---- tokens

token_free : (own : Token) → IsPrintable own → IsFree (token_text own)
token_free token.begin_object is = refl
token_free token.end_object is = refl
token_free token.begin_array is = refl
token_free token.end_array is = refl
token_free (token.key text) is = joined (quoted text) (58 ∷ []) (quoted_free text) refl
token_free (token.string text) is = quoted_free text
token_free (token.number text) is = number_free text is
token_free (token.boolean true) is = refl
token_free (token.boolean false) is = refl
token_free token.null is = refl
token_free token.bad is = absurd is

comma_free : (test : Bool) → IsFree (cond test (44 ∷ []) [])
comma_free true = refl
comma_free false = refl

print_free : (after_value : Bool) (tokens : List Token) → ArePrintable tokens
    → IsFree (print_from after_value tokens)
unfolding print_from ArePrintable
print_free after_value [] are = refl
print_free after_value (own ∷ tokens) are =
    joined (separator after_value own) (token_text own ++ print_from (ends own) tokens)
    (comma_free (after_value && begins own))
    (joined (token_text own) (print_from (ends own) tokens) (token_free own are.0)
    (print_free (ends own) tokens are.1))

text_free : (value : Json) → HasNumbers value → IsFree (json_text value)
text_free value numbers =
    print_free false (json_tokens value) (ArePrintable-json_tokens value numbers)

-- ---- lines

cut_behind : (front text rest : List ℕ) → IsFree text
    → lines_behind front (text ++ 10 ∷ rest) ≡ (front ++ text) ∷ lines_behind [] rest
cut_behind front [] rest free =
    ap (λ (line : List ℕ). line ∷ lines_behind [] rest) (sym (append-nil front))
cut_behind front (x ∷ xs) rest free =
    let (own, others) = parts (not (x == 10)) (is_one_line xs) free in
    let other : (x == 10) ≡ false = grind (arith, nat_tests, own) in
    ap (λ (test : Bool). cond test (front ∷ lines_behind [] (xs ++ 10 ∷ rest))
    (lines_behind (front ++ x ∷ []) (xs ++ 10 ∷ rest))) other
    ∙ cut_behind (front ++ x ∷ []) xs rest others
    ∙ ap (λ (line : List ℕ). line ∷ lines_behind [] rest) (append_assoc front (x ∷ []) xs)

lines_each : (values : List Json) → AllByRecursion HasNumbers values
    → lines_of (flat_map json_line values) ≡ map json_text values
lines_each [] all = refl
lines_each (value ∷ values) all =
    ap lines_of (append_assoc (json_text value) (10 ∷ []) (flat_map json_line values))
    ∙ cut_behind [] (json_text value) (flat_map json_line values) (text_free value all.0)
    ∙ ap (λ (lines : List (List ℕ)). json_text value ∷ lines) (lines_each values all.1)

pub one_line_each : AreOneLineEach
one_line_each = record { text = text_free; lines = lines_each }
