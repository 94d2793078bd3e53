-- The digits of a number in places behind the point, and how they are read.
use Rattle.std.proofs.Common.{◌≡◌, ◌∙◌, ◌++◌, ◌+◌, ◌-◌, ◌*◌, ◌^◌, ◌<◌, ◌≤◌, ◌==◌, ℕ, zero, suc}
use Rattle.std.proofs.Common.{Bool, true, false, cond, List, [], ◌∷◌, Some, None, length, take, min}
use Rattle.std.proofs.Common.{replicate, get_or, refl, ap, sym, add-one, arith, append_assoc, inl}
use Rattle.std.proofs.Common.{inr, subst}
use Rattle.std.specs.Prelude.{nat_lt, not, option_to_list, unwrap_or}
use Rattle.std.specs.Fmt.{decimal}
use Rattle.std.specs.List.{after_last, suffix_len}
use Rattle.std.specs.Str.{all_ascii_digits}
use Rattle.std.specs.Str.Parse.{digits_value}
use Rattle.std.proofs.lemmas.Bool.{cases_lt}
use Rattle.std.proofs.lemmas.Bool.Decides.{nat_tests}
use Rattle.std.proofs.lemmas.Grind.{pow_more, replicate_next}
use Rattle.std.proofs.lemmas.Int.Digits.{digits_value_push}
use Rattle.std.proofs.lemmas.List.{append-nil, drop_all, length-replicate, take_all, take_more}
use Rattle.std.proofs.lemmas.List.Folds.{sum_by-replicate}
use Rattle.std.proofs.lemmas.List.Sums.{suffix_len_is}
use Rattle.std.proofs.lemmas.Str.Parse.{tells_all_ascii_digits}
use Rattle.decimals.specs.Words.{trailing_zeros}
use Rattle.decimals.proofs.ReadsBack.{Writes, decimal_writes}
use Rattle.excel_dates.proofs.SerialSteps.{by_true, by_false, is_less, not_less}
use Rattle.format_codes.specs.declared.piece.CodePiece.{CodePiece}
use Rattle.format_codes.specs.declared.piece.CodePiece.TheVariants as piece
use Rattle.format_codes.specs.declared.piece.Filler.TheVariants.{Zero}
use Rattle.format_codes.specs.Words.{is_digit, is_zero_place}
use Rattle.shown_text.specs.Words.{behind_text, digit_at, digits_above_0, fraction_piece}
use Rattle.shown_text.specs.Words.{fraction_places, hidden_places, place_character, place_count}
use Rattle.shown_text.specs.Words.{with_digits}
use Rattle.shown_text_laws.proofs.ManyPlaces.{places}
use Rattle.shown_text_laws.proofs.OnePlace.{in_one_place}

-- the last digits, and a zero for each that there isn't
abbrev pub last_digits : List ℕ → ℕ → List ℕ
last_digits ds zero = []
last_digits ds (suc k) = unwrap_or (digit_at ds k) 48 ∷ last_digits ds k

pub last_count : (ds : List ℕ) (k : ℕ) → length (last_digits ds k) ≡ k
last_count ds zero = refl
last_count ds (suc k) = let known = last_count ds k in omega (arith, known)

pub place_count_is : (f : ℕ) → place_count (places f) ≡ f
place_count_is f =
    let all = sum_by-replicate (λ (p : CodePiece). cond (is_digit p) 1 0) f (piece.Digit Zero) in
    omega (arith, all)

-- nothing stands behind the last of the places
pub none_behind : (test : CodePiece → Bool) → test (piece.Digit Zero) ≡ true → (f : ℕ)
    → after_last test (places f) ≡ []
none_behind test holds zero = refl
none_behind test holds (suc f) =
    let all = places (suc f) in
    let len : length all ≡ suc f = length-replicate {A = CodePiece} (suc f) (piece.Digit Zero) in
    let few : length all ≤ length all = omega arith in
    let none : suffix_len (λ p. not (test p)) all ≡ length all - length all =
    suffix_len_is (λ p. not (test p)) all (length all) (piece.Digit Zero) few
    (λ k above below. absurd (omega (arith, above, below)))
    (λ positive. each (suc f) (length all - 1) (omega (arith, len))) in
    let from : length all ≤ length all - suffix_len (λ p. not (test p)) all =
    omega (arith, none) in
    drop_all (length all - suffix_len (λ p. not (test p)) all) all from
  where
    each : (n k : ℕ) → k < n → not (test (get_or (places n) k (piece.Digit Zero))) ≡ false
    each zero k below = absurd (omega arith)
    each (suc n) zero below = ap not holds
    each (suc n) (suc k) below = each n k (omega (arith, below))

-- no place is hidden
pub none_hidden : (ds : List ℕ) (f : ℕ) → hidden_places ds (places f) ≡ 0
none_hidden [] f = ap place_count (none_behind is_zero_place refl f)
none_hidden (d ∷ ds) f =
    ap (λ ps. min (trailing_zeros (d ∷ ds)) (place_count ps)) (none_behind is_zero_place refl f)
    ∙ omega arith

in_all_places : (ds : List ℕ) (f : ℕ) → fraction_places ds 0 f (places f) ≡ last_digits ds f
in_all_places ds zero = refl
in_all_places ds (suc f) =
    let none : nat_lt f 0 ≡ false = not_less f 0 (omega arith) in
    let before : suc f - 1 ≡ f = omega arith in
    ap (λ k. fraction_piece ds 0 k (piece.Digit Zero) ++ fraction_places ds 0 k (places f)) before
    ∙ ap (λ hides. option_to_list (cond hides (place_character Zero false None)
    (Some (unwrap_or (digit_at ds f) 48))) ++ fraction_places ds 0 f (places f)) none
    ∙ ap (λ rest. unwrap_or (digit_at ds f) 48 ∷ rest) (in_all_places ds f)

pub behind_is : (ds : List ℕ) (f : ℕ) → behind_text true ds (places f) ≡ last_digits ds f
behind_is ds f =
    (λ i. fraction_places ds (none_hidden ds f i) (place_count_is f i) (places f))
    ∙ in_all_places ds f

-- digits with zeros behind them
pub digits_then : (ds es : List ℕ) → all_ascii_digits ds ≡ true → all_ascii_digits es ≡ true
    → all_ascii_digits (ds ++ es) ≡ true
digits_then [] es all all_es = all_es
digits_then (d ∷ ds) es all all_es =
    let (first, rest) = tells_all_ascii_digits.parts d ds all in
    tells_all_ascii_digits.more d (ds ++ es) first (digits_then ds es rest all_es)

pub zeros : (k : ℕ) → all_ascii_digits (replicate k 48) ≡ true
zeros zero = refl
zeros (suc k) = zeros k

zeros_value : (ds : List ℕ) (k : ℕ)
    → digits_value 10 (ds ++ replicate k 48) ≡ digits_value 10 ds * 10 ^ k
zeros_value ds zero = rw append-nil (omega arith)
zeros_value ds (suc k) =
    let next : ds ++ replicate (k + 1) 48 ≡ (ds ++ replicate k 48) ++ 48 ∷ [] =
    rw (replicate_next {X = ℕ} k 48) (sym (append_assoc ds (replicate k 48) (48 ∷ []))) in
    let push = digits_value_push 10 (ds ++ replicate k 48) 48 in
    let known = zeros_value ds k in
    let power = pow_more 10 k in
    let total : digits_value 10 (ds ++ replicate (k + 1) 48) ≡ digits_value 10 ds * 10 ^ (k + 1) =
    rw (next, push, known, power) (omega arith) in
    rw add-one at total

above_0_by : (test : Bool) (n k : ℕ) → n < 2 ^ 128 → (test ≡ true → n ≡ 0)
    → Writes (cond test [] (decimal n ++ replicate k 48)) (n * 10 ^ k)
above_0_by true n k small none = record {
  all = refl;
  value = omega (arith, ap (λ m. m * 10 ^ k) (none refl));
}
above_0_by false n k small none =
    let writes = decimal_writes n small in
    record {
      all = digits_then (decimal n) (replicate k 48) writes.all (zeros k);
      value = zeros_value (decimal n) k ∙ ap (λ m. m * 10 ^ k) writes.value;
    }

pub above_0_writes : (n k : ℕ) → n < 2 ^ 128 → Writes (digits_above_0 n k) (n * 10 ^ k)
above_0_writes n k small =
    above_0_by (n == 0) n k small (λ holds. grind (arith, nat_tests, holds))

-- digits before the last ones, and these
kept : (ds : List ℕ) (k n : ℕ) → Writes ds n
    → Writes (take (length ds - k) ds ++ last_digits ds k) n
kept ds zero n writes =
    let whole : take (length ds - 0) ds ++ [] ≡ ds =
    append-nil (take (length ds - 0) ds)
    ∙ take_all (length ds - 0) ds (let h : length ds ≤ length ds - 0 = omega arith in h) in
    subst (λ text. Writes text n) (sym whole) writes
kept ds (suc k) n writes = elim (cases_lt k (length ds)) [
  | inl inside ↦
      let at = length ds - (k + 1) in
      let within : at < length ds = omega (arith, inside) in
      let next : length ds - k ≡ at + 1 = omega (arith, inside) in
      let same : length ds - suc k ≡ at = omega arith in
      let digit : unwrap_or (digit_at ds k) 48 ≡ get_or ds at 0 =
      ap (λ found. unwrap_or found 48)
      (by_true (nat_lt k (length ds)) (Some (get_or ds at 0)) None
      (is_less k (length ds) inside)) in
      let moved : take (length ds - k) ds ++ last_digits ds k
      ≡ take (length ds - suc k) ds ++ last_digits ds (suc k) =
      ap (λ j. take j ds ++ last_digits ds k) next
      ∙ ap (λ front. front ++ last_digits ds k) (take_more ds at 0 within)
      ∙ append_assoc (take at ds) (get_or ds at 0 ∷ []) (last_digits ds k)
      ∙ sym (λ i. take (same i) ds ++ digit i ∷ last_digits ds k) in
      subst (λ text. Writes text n) moved (kept ds k n writes)
  | inr past ↦
      let none : length ds - k ≡ 0 = omega (arith, past) in
      let less : length ds - suc k ≡ 0 = omega (arith, past) in
      let digit : unwrap_or (digit_at ds k) 48 ≡ 48 =
      ap (λ found. unwrap_or found 48)
      (by_false (nat_lt k (length ds)) (Some (get_or ds (length ds - (k + 1)) 0)) None
      (not_less k (length ds) past)) in
      let known : Writes (last_digits ds k) n =
      subst (λ j. Writes (take j ds ++ last_digits ds k) n) none (kept ds k n writes) in
      subst (λ text. Writes text n)
      (sym (λ i. take (less i) ds ++ digit i ∷ last_digits ds k))
      (zero_before (last_digits ds k) n known)
]
  where
    zero_before : (ds : List ℕ) (n : ℕ) → Writes ds n → Writes (48 ∷ ds) n
    zero_before ds n writes = record { all = writes.all; value = writes.value }

-- the digits before the point, and a zero where there is none
pub record Placed (whole rest : List ℕ) (n : ℕ) : Type 0 where
  pub some : 0 < length whole
  pub writes : Writes (whole ++ rest) n

abbrev pub whole_place : List ℕ → List ℕ
whole_place front = with_digits false false [] front (piece.Digit Zero ∷ [])

whole_placed : (front rest : List ℕ) (n : ℕ) → Writes (front ++ rest) n
    → Placed (whole_place front) rest n
whole_placed [] rest n writes = record {
  some = omega arith;
  writes = record { all = writes.all; value = writes.value };
}
whole_placed (d ∷ ds) rest n writes =
    let some : 0 < length (d ∷ ds) = omega arith in
    subst (λ whole. Placed whole rest n) (sym (in_one_place (d ∷ ds) some))
    (record { some = some; writes = writes })

pub placed : (ds : List ℕ) (f n : ℕ) → Writes ds n
    → Placed (whole_place (take (length ds - f) ds)) (last_digits ds f) n
placed ds f n writes =
    whole_placed (take (length ds - f) ds) (last_digits ds f) n (kept ds f n writes)
