-- The `f` of a formula reads back: its sharing by its attributes, and its text.
use Rattle.std.proofs.Common.{◌≡◌, ℕ, ◌<◌, ◌^◌, Bool, true, false, cond, ◌&&◌, ◌||◌, List, [], ◌∷◌}
use Rattle.std.proofs.Common.{◌++◌, Some, None, Option, refl, sym, ap, ap₂, ◌∙◌, append-nil, arith}
use Rattle.std.specs.Prelude.{◌==◌, Ok, codes, nat_lt}
use Rattle.std.specs.Char.{is_ascii_digit}
use Rattle.std.specs.Fmt.{decimal}
use Rattle.std.specs.List.{list_all, slice_split, onto_first}
use Rattle.std.specs.Str.{all_ascii_digits}
use Rattle.std.specs.Str.Parse.{digits_value, IsNumeral}
use Rattle.std.proofs.lemmas.Bool.Decides.{nat_tests}
use Rattle.std.proofs.lemmas.Fmt.{decimal_is_IsNumeral}
use Rattle.std.proofs.lemmas.List.Folds.{list_any-append}
use Rattle.cell_refs.specs.Words.{area_of, corners, with_corner, reference}
use Rattle.cell_refs.specs.A1.{area}
use Rattle.cell_refs.proofs.PositionOrder.{and_both}
use Rattle.cell_refs.proofs.References.{digits-decimal, corner_of_reference}
use Rattle.written_markup.specs.Words.{attribute, has_byte, AreWritablePairs, text_events}
use Rattle.written_markup.proofs.EventsReadBack.{joined_text_events, text_events_are_known}
use Rattle.written_markup.proofs.PairsReadBack.{lookup_written}
use Rattle.xlsx_sections.specs.Words.{element_text, known_text, number_text}
use Rattle.xlsx_formulas.specs.Words.{sharing_of, sharing_from, shared_by, shared_numbered}
use Rattle.xlsx_formulas.specs.Words.{shared_in, with_sharing, formula_text, shared_text}
use Rattle.xlsx_formulas.specs.Formula as shared
use Rattle.xlsx_writer.specs.Words.{WrittenFormula, plain, master, derived, group_text}
use Rattle.xlsx_writer.specs.Words.{master_attributes, derived_attributes}
use Rattle.round_trip.specs.ReadFormulas.{area_down}
use Rattle.round_trip.proofs.CellPairs.{number_lacks, reference_lacks, quote_is_outside}
use Rattle.round_trip.proofs.CellPairs.{colon_is_outside}
use Rattle.round_trip.proofs.CellsRead.{formula_tag, FormulaReads}

-- ---- a text

pub text_read : (bytes : List ℕ) → element_text false (text_events bytes) ≡ Ok bytes
text_read bytes =
    ap₂ known_text (joined_text_events bytes) (text_events_are_known bytes)

-- ---- a number

all_digits : (digits : List ℕ) → list_all is_ascii_digit digits ≡ true →
    all_ascii_digits digits ≡ true
all_digits [] all = refl
all_digits (b ∷ bs) all =
    let (first, rest) = and_both (is_ascii_digit b) (list_all is_ascii_digit bs) all in
    ap (λ (t : Bool). t && all_ascii_digits bs) first ∙ all_digits bs rest

pub number_read : (n : ℕ) → n < 2 ^ 64 → number_text (decimal n) ≡ Some n
number_read n fits =
    by (decimal n) (all_digits (decimal n) (digits-decimal n fits)) (decimal_is_IsNumeral n fits).1
    (decimal_is_IsNumeral n fits).0 where
      small : (m : ℕ) → m ≡ n → nat_lt m (2 ^ 64) ≡ true
      small m same = grind (arith, nat_tests)

      by : (digits : List ℕ) → all_ascii_digits digits ≡ true → digits_value 10 digits ≡ n →
          IsNumeral 10 digits → number_text digits ≡ Some n
      by [] all value is = absurd (omega (arith, is.0))
      by (b ∷ bs) all value is =
          ap₂ (λ (t u : Bool). cond (t && u) (Some (digits_value 10 (b ∷ bs))) None) all
          (small (digits_value 10 (b ∷ bs)) value)
          ∙ ap Some value

-- ---- an area

-- a text is cut at the colon in front of which none stands
cut_at_colon : (front behind : List ℕ) → has_byte 58 front ≡ false →
    slice_split (λ b. b == 58) (front ++ 58 ∷ behind) ≡ front ∷ slice_split (λ b. b == 58) behind
cut_at_colon [] behind none = refl
cut_at_colon (b ∷ front) behind none =
    by (b == 58) none (λ (rest : has_byte 58 front ≡ false). cut_at_colon front behind rest) where
      by : (t : Bool) → (t || has_byte 58 front) ≡ false → (has_byte 58 front ≡ false →
          slice_split (λ c. c == 58) (front ++ 58 ∷ behind)
          ≡ front ∷ slice_split (λ c. c == 58) behind) →
          cond t ([] ∷ slice_split (λ c. c == 58) (front ++ 58 ∷ behind))
          (onto_first b (slice_split (λ c. c == 58) (front ++ 58 ∷ behind)))
          ≡ (b ∷ front) ∷ slice_split (λ c. c == 58) behind
      by true none further = absurd (cc)
      by false none further = ap (onto_first b) (further none)

one_part : (bytes : List ℕ) → has_byte 58 bytes ≡ false →
    slice_split (λ b. b == 58) bytes ≡ bytes ∷ []
one_part [] none = refl
one_part (b ∷ bytes) none =
    by (b == 58) none (λ (rest : has_byte 58 bytes ≡ false). one_part bytes rest) where
      by : (t : Bool) → (t || has_byte 58 bytes) ≡ false → (has_byte 58 bytes ≡ false →
          slice_split (λ c. c == 58) bytes ≡ bytes ∷ []) →
          cond t ([] ∷ slice_split (λ c. c == 58) bytes)
          (onto_first b (slice_split (λ c. c == 58) bytes)) ≡ (b ∷ bytes) ∷ []
      by true none further = absurd (cc)
      by false none further = ap (onto_first b) (further none)

pub area_read : (position : ℕ × ℕ) (last : ℕ) → position.0 < 1048576 → position.1 < 16384 →
    last < 1048576 → area (group_text position last) ≡ Ok (area_down position last)
unfolding area
area_read position last in_rows in_columns last_inside =
    ap (λ (texts : List (List ℕ)). area_of (corners texts))
    (cut_at_colon (reference position) (reference (last, position.1))
    (reference_lacks 58 colon_is_outside position in_rows)
    ∙ ap (λ (texts : List (List ℕ)). reference position ∷ texts)
    (one_part (reference (last, position.1))
    (reference_lacks 58 colon_is_outside (last, position.1) last_inside)))
    ∙ ap₂ (λ one two. area_of (with_corner one (with_corner two (Ok []))))
    (corner_of_reference position.0 position.1 in_rows in_columns)
    (corner_of_reference last position.1 last_inside in_columns)

-- ---- the attributes of an `f`

abbrev shared_pair : List ℕ × List ℕ
shared_pair = (codes "t", codes "shared")

abbrev master_pairs : ℕ × ℕ → ℕ → ℕ → List (List ℕ × List ℕ)
master_pairs position last index =
    shared_pair ∷ (codes "ref", group_text position last) ∷ (codes "si", decimal index) ∷ []

abbrev derived_pairs : ℕ → List (List ℕ × List ℕ)
derived_pairs index = shared_pair ∷ (codes "si", decimal index) ∷ []

abbrev formula_keys : List (List ℕ)
formula_keys = codes "t" ∷ codes "si" ∷ codes "ref" ∷ []

area_lacks : (position : ℕ × ℕ) (last : ℕ) → position.0 < 1048576 → last < 1048576 →
    has_byte 34 (group_text position last) ≡ false
area_lacks position last in_rows last_inside =
    list_any-append (λ b. b == 34) (reference position) (58 ∷ reference (last, position.1))
    ∙ (ap (λ (t : Bool). t || has_byte 34 (reference (last, position.1)))
    (reference_lacks 34 quote_is_outside position in_rows)
    ∙ reference_lacks 34 quote_is_outside (last, position.1) last_inside)

master_writable : (position : ℕ × ℕ) (last index : ℕ) → position.0 < 1048576 → last < 1048576 →
    index < 2 ^ 64 → AreWritablePairs (master_pairs position last index)
master_writable position last index in_rows last_inside fits = (
  record { key = refl; value = refl },
  (
    record { key = refl; value = area_lacks position last in_rows last_inside },
    (record { key = refl; value = number_lacks 34 quote_is_outside index fits }, tt),
  ),
)

derived_writable : (index : ℕ) → index < 2 ^ 64 → AreWritablePairs (derived_pairs index)
derived_writable index fits = (
  record { key = refl; value = refl },
  (record { key = refl; value = number_lacks 34 quote_is_outside index fits }, tt),
)

-- ---- the three kinds

master_sharing : (position : ℕ × ℕ) (last index : ℕ) → position.0 < 1048576 →
    position.1 < 16384 → last < 1048576 → index < 2 ^ 64 →
    sharing_of (formula_tag (master_attributes position last index))
    ≡ Ok (shared.master index (area_down position last))
master_sharing position last index in_rows in_columns last_inside fits =
    ap (λ (attributes : List ℕ). sharing_of (formula_tag attributes))
    (ap (λ (bytes : List ℕ). attribute (codes "t") (codes "shared")
    ++ (attribute (codes "ref") (group_text position last) ++ bytes))
    (sym (append-nil (attribute (codes "si") (decimal index)))))
    ∙ (ap sharing_from (lookup_written formula_keys (master_pairs position last index)
    (master_writable position last index in_rows last_inside fits))
    ∙ (ap (λ (o : Option ℕ). shared_numbered o (Some (group_text position last)))
    (number_read index fits)
    ∙ ap (shared_in index) (area_read position last in_rows in_columns last_inside)))

derived_sharing : (index : ℕ) → index < 2 ^ 64 →
    sharing_of (formula_tag (derived_attributes index)) ≡ Ok (shared.derived index)
derived_sharing index fits =
    ap (λ (attributes : List ℕ). sharing_of (formula_tag attributes))
    (ap (λ (bytes : List ℕ). attribute (codes "t") (codes "shared") ++ bytes)
    (sym (append-nil (attribute (codes "si") (decimal index)))))
    ∙ (ap sharing_from (lookup_written formula_keys (derived_pairs index)
    (derived_writable index fits))
    ∙ ap (λ (o : Option ℕ). shared_numbered o None) (number_read index fits))

plain_sharing : sharing_of (formula_tag []) ≡ Ok shared.own
plain_sharing = ap sharing_from (lookup_written formula_keys [] tt)

-- the numbers of a group fit
pub record HasPlaces (position : ℕ × ℕ) (last index : ℕ) : Type 0 where
  pub row : position.0 < 1048576
  pub column : position.1 < 16384
  pub last_row : last < 1048576
  pub number : index < 2 ^ 64

-- the numbers of a formula, as it is written, fit
abbrev pub FormulaFits : ℕ × ℕ → WrittenFormula → Type 0
FormulaFits position (plain formula) = Unit {0}
FormulaFits position (master formula last index) = HasPlaces position last index
FormulaFits position (derived index) = index < 2 ^ 64

-- each formula reads back
pub formula_reads : (position : ℕ × ℕ) (w : WrittenFormula) → FormulaFits position w →
    FormulaReads position w
formula_reads position (plain formula) fits =
    ap (with_sharing (text_events formula)) plain_sharing
    ∙ ap (shared_text shared.own) (text_read formula)
formula_reads position (master formula last index) fits =
    ap (with_sharing (text_events formula))
    (master_sharing position last index fits.row fits.column fits.last_row fits.number)
    ∙ ap (shared_text (shared.master index (area_down position last))) (text_read formula)
formula_reads position (derived index) fits =
    ap (with_sharing []) (derived_sharing index fits)
