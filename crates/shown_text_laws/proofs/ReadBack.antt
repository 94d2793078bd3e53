-- Numbers with places behind the point are read back.
use Rattle.std.proofs.Common.{◌≡◌, ◌∙◌, ◌++◌, ◌+◌, ◌-◌, ◌*◌, ◌^◌, ◌<◌, ◌≤◌, ◌==◌, ℕ, ℤ, pos, negsuc}
use Rattle.std.proofs.Common.{◌+ℤ◌, ◌-ℤ◌, Bool, true, false, cond, List, [], ◌∷◌, codes, Some}
use Rattle.std.proofs.Common.{length, take, replicate, refl, ap, sym, subst, arith, append-nil}
use Rattle.std.specs.Prelude.{count_by, nat_abs}
use Rattle.std.specs.Fmt.{sign_text}
use Rattle.std.specs.Int.{is_negative}
use Rattle.std.specs.Str.{all_ascii_digits}
use Rattle.std.proofs.lemmas.Bool.Decides.{nat_tests}
use Rattle.std.proofs.lemmas.Int.{ints}
use Rattle.std.proofs.lemmas.List.{length-replicate}
use Rattle.std.proofs.lemmas.List.Folds.{sum_by-replicate}
use Rattle.std.proofs.lemmas.Str.Parse.{tells_all_ascii_digits}
use Rattle.cell_data.specs.Words.{number}
use Rattle.decimals.specs.Words.{decimal_of, fitting, number_of_digits, with_sign, nearest}
use Rattle.decimals.proofs.ReadsBack.{Writes}
use Rattle.excel_dates.proofs.SerialSteps.{by_false}
use Rattle.format_codes.specs.Words.{is_comma, is_digit, is_percent}
use Rattle.format_codes.specs.Choosing.{is_supported, number_section}
use Rattle.format_codes.specs.Kinds.{section_kind}
use Rattle.format_codes.specs.Sections.{code_pieces}
use Rattle.format_codes.specs.declared.piece.CodePiece.{CodePiece}
use Rattle.format_codes.specs.declared.piece.CodePiece.TheVariants as piece
use Rattle.format_codes.specs.declared.piece.Filler.TheVariants.{Zero}
use Rattle.shown_text.specs.Words.{laid_out, nearest_digits, shown_digits, number_power, thousands}
use Rattle.shown_text.specs.Words.{most_pieces, sized_text}
use Rattle.shown_text.specs.NumberTexts.{size_shown}
use Rattle.shown_text.specs.ShownText.{shown_text}
use Rattle.shown_text_laws.specs.NumberCodes.{IsShownBySection}
use Rattle.shown_text_laws.specs.ReadNumbers.{IsReadBackNear, WritesNear}
use Rattle.shown_text_laws.proofs.Literals.{by_section, section_of}
use Rattle.shown_text_laws.proofs.ManyPlaces.{places, pointed, under_places}
use Rattle.shown_text_laws.proofs.NearPlaces.{IsRead, at_places, is_read, nearest_within}
use Rattle.shown_text_laws.proofs.NearPlaces.{at_most_fifteen, over_places, signed_size}
use Rattle.shown_text_laws.proofs.ReadPlaces.{above_0_writes, behind_is, last_count, last_digits}
use Rattle.shown_text_laws.proofs.ReadPlaces.{none_behind, place_count_is, placed, whole_place}
use Rattle.shown_text_laws.proofs.ReadTexts.{point_read, whole_read}
use Rattle.shown_text_laws.proofs.Tests.{and_true, is_within}

-- no place multiplies a number by a power of ten
no_percent : (f : ℕ) → count_by is_percent (pointed f) ≡ 0
no_percent f =
    let all = sum_by-replicate (λ (p : CodePiece). cond (is_percent p) 1 0) f (piece.Digit Zero) in
    omega (arith, all)

no_thousand : (f : ℕ) → thousands (pointed f) ≡ 0
no_thousand f =
    ap (λ ps. 0 + count_by is_comma ps) (none_behind is_digit refl f)

-- the power of ten of a size, with the places behind the point
power_is : (f : ℕ) (power : ℤ) → number_power (pointed f) power ≡ power +ℤ pos f
power_is f power =
    (λ i. (power +ℤ (pos (2 * no_percent f i) -ℤ pos (3 * no_thousand f i)))
    +ℤ pos (place_count_is f i))
    ∙ omega (arith, ints)

pub laid_is : (ds : List ℕ) (f : ℕ)
    → laid_out false ds (pointed f)
    ≡ whole_place (take (length ds - f) ds) ++ 46 ∷ last_digits ds f
laid_is ds f =
    (λ i. whole_place (take (length ds - place_count_is f i) ds) ++ 46 ∷ behind_is ds f i)

text_is : (f n : ℕ) (power : ℤ)
    → size_shown (pointed f) n power
    ≡ laid_out false (nearest_digits n (power +ℤ pos f)) (pointed f)
unfolding size_shown
text_is f n power = ap (λ k. laid_out false (nearest_digits n k) (pointed f)) (power_is f power)

-- what is read of digits that write a number
pub all_parts : (xs ys : List ℕ) → all_ascii_digits (xs ++ ys) ≡ true
    → (all_ascii_digits xs ≡ true) × (all_ascii_digits ys ≡ true)
all_parts [] ys all = (refl, all)
all_parts (x ∷ xs) ys all =
    let (first, rest) = tells_all_ascii_digits.parts x (xs ++ ys) all in
    let (front, back) = all_parts xs ys rest in
    (tells_all_ascii_digits.more x xs first front, back)

-- the number that is read of digits in a text
record ReadOf (negative : Bool) (text digits : List ℕ) (places v : ℕ) : Type 0 where
  read : IsRead negative digits places v
  told : decimal_of (sign_text negative ++ text) ≡ Some read.written

pointed_read : (negative : Bool) (f : ℕ) → f ≤ 1022 → (ds : List ℕ) (n zeros : ℕ) → n ≤ 10 ^ 15
    → zeros ≤ 1900 → Writes ds (n * 10 ^ zeros)
    → ReadOf negative (laid_out false ds (pointed f))
    (whole_place (take (length ds - f) ds) ++ last_digits ds f) f (n * 10 ^ zeros)
pointed_read negative f few_places ds n zeros few few_zeros writes =
    let whole = whole_place (take (length ds - f) ds) in
    let rest = last_digits ds f in
    let p = placed ds f (n * 10 ^ zeros) writes in
    let (front, back) = all_parts whole rest p.writes.all in
    let read = is_read negative (whole ++ rest) f n zeros few (omega (arith, few_places)) few_zeros
    p.writes in
    record {
      read = read;
      told = ap (λ text. decimal_of (sign_text negative ++ text)) (laid_is ds f)
          ∙ point_read negative whole rest p.some front back
          ∙ ap (λ k. fitting (number_of_digits negative (whole ++ rest) (pos 0 -ℤ pos k)))
          (last_count ds f)
          ∙ read.is;
    }

-- and of those without a point
plain_read : (negative : Bool) (ds : List ℕ) (n zeros : ℕ) → n ≤ 10 ^ 15 → zeros ≤ 1900
    → Writes ds (n * 10 ^ zeros)
    → ReadOf negative (laid_out false ds (places 1)) (whole_place (take (length ds - 0) ds)) 0
    (n * 10 ^ zeros)
plain_read negative ds n zeros few few_zeros writes =
    let whole = whole_place (take (length ds - 0) ds) in
    let p = placed ds 0 (n * 10 ^ zeros) writes in
    let told : Writes whole (n * 10 ^ zeros) =
    subst (λ text. Writes text (n * 10 ^ zeros)) (append-nil whole) p.writes in
    let read = is_read negative whole 0 n zeros few (omega arith) few_zeros told in
    record {
      read = read;
      told = ap (λ text. decimal_of (sign_text negative ++ text)) (append-nil whole)
          ∙ whole_read negative whole p.some told.all
          ∙ read.is;
    }

-- a way to lay digits out that they are read of
abbrev Reads : Bool → (List ℕ → List ℕ) → (List ℕ → List ℕ) → ℕ → Type 0
Reads negative text digits f =
    (ds : List ℕ) (n zeros : ℕ) → n ≤ 10 ^ 15 → zeros ≤ 1900 → Writes ds (n * 10 ^ zeros)
    → ReadOf negative (text ds) (digits ds) f (n * 10 ^ zeros)

-- by the sign of the power of ten
by_power : (negative : Bool) (text digits : List ℕ → List ℕ) (f n : ℕ) (power k : ℤ)
    → Reads negative text digits f → n ≤ 10 ^ 15 → f ≤ 1022 → nat_abs power ≤ 400
    → (power +ℤ pos f) ≡ k
    → WritesNear (sign_text negative ++ text (nearest_digits n k)) f (with_sign negative n, power)
by_power negative text digits f n power (pos k) reads few few_places small is =
    let ds = nearest_digits n (pos k) in
    let zeros : k ≤ 1900 = omega (arith, ints, is) in
    let found = reads ds n k few zeros (above_0_writes n k (omega (arith, few))) in
    record {
      written = found.read.written;
      read = found.told;
      near = at_places negative n f power (digits ds) (n * 10 ^ k) k found.read is refl;
    }
by_power negative text digits f n power (negsuc k) reads few few_places small is =
    let ds = nearest_digits n (negsuc k) in
    let m = nearest (k + 1) n in
    let less : m ≤ n = nearest_within (k + 1) n in
    let found = reads ds m 0 (omega (arith, less, few)) (omega arith)
    (above_0_writes m 0 (omega (arith, less, few))) in
    record {
      written = found.read.written;
      read = found.told;
      near = over_places negative n f power (digits ds) (m * 10 ^ 0) k found.read is (omega arith);
    }

laid_near : (exact : ℤ × ℤ) (text digits : List ℕ → List ℕ) (f : ℕ)
    → Reads (is_negative exact.0) text digits f → f ≤ 1022 → nat_abs exact.0 < 2 ^ 128
    → IsShownBySection exact
    → WritesNear (sign_text (is_negative exact.0) ++ text (nearest_digits
    (nat_abs (shown_digits exact).0) ((shown_digits exact).1 +ℤ pos f))) f (shown_digits exact)
laid_near exact text digits f reads few_places small sized =
    let negative = is_negative exact.0 in
    let n = nat_abs (shown_digits exact).0 in
    let power = (shown_digits exact).1 in
    subst (λ m. WritesNear (sign_text negative ++ text (nearest_digits n (power +ℤ pos f))) f
    (m, power)) (sym (signed_size exact))
    (by_power negative text digits f n power (power +ℤ pos f) reads (at_most_fifteen exact small)
    few_places sized refl)

pub read_back : (exact : ℤ × ℤ) (f : ℕ) → f ≤ 1022
    → IsReadBackNear (codes "0." ++ replicate f 48) f exact
read_back exact f few_places = λ is_1904 small sized.
    let negative = is_negative exact.0 in
    let n = nat_abs (shown_digits exact).0 in
    let power = (shown_digits exact).1 in
    let few : length (pointed f) ≤ most_pieces =
    omega (arith, length-replicate {A = CodePiece} f (piece.Digit Zero)) in
    let is : shown_text is_1904 (48 ∷ 46 ∷ replicate f 48) (number exact)
    ≡ sign_text negative ++ laid_out false (nearest_digits n (power +ℤ pos f)) (pointed f) =
    under_places is_1904 f exact few_places
    ∙ by_section (pointed f) exact (is_within (length (pointed f)) most_pieces few) sized
    ∙ by_false (length (pointed f) == 0) [] _ (grind (arith, nat_tests))
    ∙ (λ i. sign_text (and_true negative i) ++ text_is f n power i) in
    subst (λ text. WritesNear text f (shown_digits exact)) (sym is)
    (laid_near exact (λ ds. laid_out false ds (pointed f))
    (λ ds. whole_place (take (length ds - f) ds) ++ last_digits ds f) f
    (pointed_read negative f few_places) few_places small sized)

-- under `0`
under_whole : (is_1904 : Bool) (exact : ℤ × ℤ)
    → shown_text is_1904 (codes "0") (number exact) ≡ sized_text (section_of (places 1)) exact
unfolding shown_text number_section is_supported code_pieces section_kind
under_whole is_1904 exact = refl

whole_text_is : (n : ℕ) (power : ℤ)
    → size_shown (places 1) n power ≡ laid_out false (nearest_digits n (power +ℤ pos 0)) (places 1)
unfolding size_shown
whole_text_is n power =
    let same : number_power (places 1) power ≡ power +ℤ pos 0 = omega (arith, ints) in
    ap (λ k. laid_out false (nearest_digits n k) (places 1)) same

pub whole_read_back : (exact : ℤ × ℤ) → IsReadBackNear (codes "0") 0 exact
whole_read_back exact = λ is_1904 small sized.
    let negative = is_negative exact.0 in
    let n = nat_abs (shown_digits exact).0 in
    let power = (shown_digits exact).1 in
    let is : shown_text is_1904 (codes "0") (number exact)
    ≡ sign_text negative ++ laid_out false (nearest_digits n (power +ℤ pos 0)) (places 1) =
    under_whole is_1904 exact ∙ by_section (places 1) exact refl sized
    ∙ (λ i. sign_text (and_true negative i) ++ whole_text_is n power i) in
    subst (λ text. WritesNear text 0 (shown_digits exact)) (sym is)
    (laid_near exact (λ ds. laid_out false ds (places 1))
    (λ ds. whole_place (take (length ds - 0) ds)) 0 (plain_read negative) (omega arith) small sized)
