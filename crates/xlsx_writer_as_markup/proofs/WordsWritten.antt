-- Numbers, positions and errors are written in ASCII, without white space and quotes.
use Rattle.std.proofs.Common.{◌≡◌, ℕ, zero, suc, ◌+◌, ◌-◌, ◌<◌, Bool, true, false, List, [], ◌∷◌}
use Rattle.std.proofs.Common.{◌++◌, length, take, drop, replicate, ℤ, pos, negsuc, refl, sym, ap}
use Rattle.std.proofs.Common.{◌∙◌, arith, All}
use Rattle.std.specs.Prelude.{◌==◌, ◌/◌, ◌%◌, nat_lt, nat_le, if◌then◌else◌}
use Rattle.std.specs.Fmt.{decimal, signed_decimal, digits, digits_onto, digit_glyph}
use Rattle.std.proofs.lemmas.Bool.{and_from, and_parts, lt-ltb, cond-true}
use Rattle.std.proofs.lemmas.List.{take-append-drop}
use Rattle.std.proofs.lemmas.List.Folds.{list_all-append}
use Rattle.cell_refs.specs.Words.{column_name, IsCapital, reference, row_reference}
use Rattle.cell_refs.proofs.Names.{All-capital-column_name}
use Rattle.cell_data.specs.Words.{cell_error_text}
use Rattle.cell_data.specs.declared.value.CellErrorType.{CellErrorType}
use Rattle.cell_data.specs.declared.value.CellErrorType.TheVariants.{Div0, NA, Name, Null, Num, Ref}
use Rattle.cell_data.specs.declared.value.CellErrorType.TheVariants.{Value, GettingData}
use Rattle.decimals.specs.Words.{printed_signed, printed_digits, with_point, with_exponent}
use Rattle.decimals.specs.Decimals.{printed}
use Rattle.text_package.specs.PartSpelling.{IsPartText}
use Rattle.xlsx_writer_as_markup.proofs.Texts.{is_word, is_word_byte, in_one_word, ascii_text}

-- a byte between `"` and the end of ASCII
word_byte : (b : ℕ) → 34 < b → b < 128 → is_word_byte b ≡ true
word_byte b low high = and_from _ _ (lt-ltb 34 b low) (lt-ltb b 128 high)

-- ---- whole numbers

onto_word : (test : Bool) (one other : List ℕ) → is_word one ≡ true → is_word other ≡ true
    → is_word (if test then one else other) ≡ true
onto_word true one other first second = first
onto_word false one other first second = second

glyph_digit : (d : ℕ) → d < 10 → digit_glyph false d ≡ 48 + d
glyph_digit d small = cond-true _ _ _ (lt-ltb d 10 small)

glyph_word : (n : ℕ) → is_word_byte (digit_glyph false (n % 10)) ≡ true
glyph_word n =
    let small : n % 10 < 10 = omega arith in
    ap is_word_byte (glyph_digit (n % 10) small)
    ∙ word_byte (48 + n % 10) (omega arith) (omega arith)

digits_word : (turns n : ℕ) (behind : List ℕ) → is_word behind ≡ true
    → is_word (digits_onto turns 10 false n behind) ≡ true
digits_word zero n behind are = are
digits_word (suc turns) n behind are =
    let more : is_word (digit_glyph false (n % 10) ∷ behind) ≡ true =
    and_from _ _ (glyph_word n) are in
    onto_word (n / 10 == 0) (digit_glyph false (n % 10) ∷ behind)
    (digits_onto turns 10 false (n / 10) (digit_glyph false (n % 10) ∷ behind)) more
    (digits_word turns (n / 10) (digit_glyph false (n % 10) ∷ behind) more)

pub decimal_word : (n : ℕ) → is_word (decimal n) ≡ true
unfolding digits
decimal_word n = digits_word 64 n [] refl

signed_word : (z : ℤ) → is_word (signed_decimal z) ≡ true
signed_word (pos n) = decimal_word n
signed_word (negsuc n) = decimal_word (suc n)

-- ---- positions

capitals_word : (bytes : List ℕ) → All IsCapital bytes → is_word bytes ≡ true
capitals_word [] are = refl
capitals_word (b ∷ bytes) are =
    let own = are 0 b (omega arith) in
    and_from _ _ (word_byte b (omega (arith, own.0)) (omega (arith, own.1)))
    (capitals_word bytes (λ k d within. are (suc k) d (omega arith)))

pub reference_word : (position : ℕ × ℕ) → is_word (reference position) ≡ true
reference_word position =
    in_one_word (column_name position.1) (row_reference position.0)
    (capitals_word (column_name position.1) (All-capital-column_name position.1))
    (decimal_word (position.0 + 1))

-- ---- decimals

zeros_word : (n : ℕ) → is_word (replicate n 48) ≡ true
zeros_word zero = refl
zeros_word (suc n) = zeros_word n

cut_word : (n : ℕ) (bytes : List ℕ) → is_word bytes ≡ true
    → (is_word (take n bytes) ≡ true) × (is_word (drop n bytes) ≡ true)
cut_word n bytes are =
    and_parts _ _ (sym (list_all-append is_word_byte (take n bytes) (drop n bytes))
    ∙ (ap is_word (take-append-drop n bytes) ∙ are))

point_word : (places : ℕ) (own : List ℕ) → is_word own ≡ true
    → is_word (with_point places own) ≡ true
point_word places own are =
    let zeros = replicate (places + 1 - length own) 48 in
    let all = zeros ++ own in
    let cut = cut_word (length all - places) all
    (in_one_word zeros own (zeros_word (places + 1 - length own)) are) in
    in_one_word (take (length all - places) all) (46 ∷ drop (length all - places) all) cut.0 cut.1

exponent_word : (own : List ℕ) (power : ℤ) → is_word own ≡ true
    → is_word (with_exponent own power) ≡ true
exponent_word own power are = in_one_word own (69 ∷ signed_decimal power) are (signed_word power)

digits_printed : (own : List ℕ) (power : ℤ) → is_word own ≡ true
    → is_word (printed_digits own power) ≡ true
digits_printed own (pos n) are =
    onto_word (nat_le n 20) (own ++ replicate n 48) (with_exponent own (pos n))
    (in_one_word own (replicate n 48) are (zeros_word n)) (exponent_word own (pos n) are)
digits_printed own (negsuc n) are =
    onto_word (nat_lt n 20) (with_point (n + 1) own) (with_exponent own (negsuc n))
    (point_word (n + 1) own are) (exponent_word own (negsuc n) are)

signed_printed : (mantissa power : ℤ) → is_word (printed_signed mantissa power) ≡ true
signed_printed (pos n) power = digits_printed (decimal n) power (decimal_word n)
signed_printed (negsuc n) power = digits_printed (decimal (n + 1)) power (decimal_word (n + 1))

pub printed_word : (n : ℤ × ℤ) → is_word (printed n) ≡ true
unfolding printed
printed_word n = signed_printed n.0 n.1

-- ---- errors

pub error_text : (error : CellErrorType) → IsPartText (cell_error_text error)
error_text Div0 = ascii_text (cell_error_text Div0) refl refl
error_text NA = ascii_text (cell_error_text NA) refl refl
error_text Name = ascii_text (cell_error_text Name) refl refl
error_text Null = ascii_text (cell_error_text Null) refl refl
error_text Num = ascii_text (cell_error_text Num) refl refl
error_text Ref = ascii_text (cell_error_text Ref) refl refl
error_text Value = ascii_text (cell_error_text Value) refl refl
error_text GettingData = ascii_text (cell_error_text GettingData) refl refl
