-- The attributes of a written cell as pairs, and what is looked up in them.
use Rattle.std.proofs.Common.{◌≡◌, ℕ, ◌+◌, ◌<◌, ◌^◌, ◌⊎◌, inl, inr, Bool, true, false, ◌||◌, List}
use Rattle.std.proofs.Common.{[], ◌∷◌, ◌++◌, map, Some, refl, sym, ap, ◌∙◌, arith, All, append-nil}
use Rattle.std.specs.Prelude.{◌==◌, Ok, codes}
use Rattle.std.specs.Char.{is_ascii_digit}
use Rattle.std.specs.List.{list_all, list_any}
use Rattle.std.specs.Fmt.{decimal}
use Rattle.std.specs.Str.{bytes_eq}
use Rattle.std.proofs.lemmas.Bool.Decides.{nat_tests}
use Rattle.std.proofs.lemmas.List.Elements.{All-weaker}
use Rattle.std.proofs.lemmas.List.Folds.{list_any-append, list_any_none}
use Rattle.attr_text.specs.Words.{value_of, first_value}
use Rattle.cell_refs.specs.Words.{IsCapital, column_name, reference, row_reference}
use Rattle.cell_refs.proofs.Names.{All-capital-column_name}
use Rattle.cell_refs.proofs.PositionOrder.{and_both}
use Rattle.cell_refs.proofs.References.{digits-decimal}
use Rattle.cell_data.specs.Words.{CellValue, nothing, integer, number, text, shared_text, truth}
use Rattle.cell_data.specs.Words.{time, iso_time, failure}
use Rattle.cell_data.specs.declared.value.ExcelDateTimeType.{ExcelDateTimeType}
use Rattle.cell_data.specs.declared.value.ExcelDateTimeType.TheVariants.{DateTime, TimeDelta}
use Rattle.written_markup.specs.Words.{attribute, has_byte, attribute_if, attributes_of, pair_if}
use Rattle.written_markup.specs.Words.{is_no_key_byte, IsWritablePair, AreWritablePairs}
use Rattle.written_markup.proofs.PairsReadBack.{attribute_if_in_row, attribute_if_alone}
use Rattle.written_markup.proofs.PairsReadBack.{value_written}
use Rattle.xlsx_writer.specs.Words.{cell_attributes, style_written, type_written, time_style}

-- ---- bytes that stand in no number and in no position

-- a byte before `A` that is no digit, as `"` and `:`
abbrev pub IsNoReferenceByte : ℕ → Type 0
IsNoReferenceByte byte = (byte < 65) × ((byte < 48) ⊎ (57 < byte))

module _ (byte : ℕ) (outside : IsNoReferenceByte byte) where
  no_digit : (b : ℕ) → is_ascii_digit b ≡ true → (b == byte) ≡ false
  no_digit b digit = by outside.1 where
    by : (byte < 48) ⊎ (57 < byte) → (b == byte) ≡ false
    by (inl below) = grind (arith, nat_tests)
    by (inr above) = grind (arith, nat_tests)

  digits_lack : (digits : List ℕ) → list_all is_ascii_digit digits ≡ true →
      has_byte byte digits ≡ false
  digits_lack [] all = refl
  digits_lack (b ∷ bs) all =
      let (first, rest) = and_both (is_ascii_digit b) (list_all is_ascii_digit bs) all in
      ap (λ (t : Bool). t || has_byte byte bs) (no_digit b first) ∙ digits_lack bs rest

  no_capital : (b : ℕ) → IsCapital b → (b == byte) ≡ false
  no_capital b capital =
      let below = outside.0 in
      let from = capital.0 in
      grind (arith, nat_tests)

  capitals_lack : (letters : List ℕ) → All IsCapital letters → has_byte byte letters ≡ false
  capitals_lack letters all =
      list_any_none (λ b. b == byte) letters
      (All-weaker IsCapital (λ b. (b == byte) ≡ false) no_capital letters all)

  -- a number of 64 bits as it is written
  pub number_lacks : (n : ℕ) → n < 2 ^ 64 → has_byte byte (decimal n) ≡ false
  number_lacks n fits = digits_lack (decimal n) (digits-decimal n fits)

  -- the text of a row
  pub row_lacks : (row : ℕ) → row < 1048576 → has_byte byte (row_reference row) ≡ false
  row_lacks row inside = number_lacks (row + 1) (omega arith)

  -- the text of a position
  pub reference_lacks : (position : ℕ × ℕ) → position.0 < 1048576 →
      has_byte byte (reference position) ≡ false
  reference_lacks position inside =
      list_any-append (λ b. b == byte) (column_name position.1) (row_reference position.0)
      ∙ (ap (λ (t : Bool). t || has_byte byte (row_reference position.0))
      (capitals_lack (column_name position.1) (All-capital-column_name position.1))
      ∙ row_lacks position.0 inside)

pub quote_is_outside : IsNoReferenceByte 34
quote_is_outside = (omega arith, inl (omega arith))

pub colon_is_outside : IsNoReferenceByte 58
colon_is_outside = (omega arith, inr (omega arith))

-- ---- the attributes of a cell

-- the position of a cell, its style and its type, by their keys
abbrev pub cell_pairs : ℕ × ℕ → CellValue → List (List ℕ × List ℕ)
cell_pairs position value =
    (codes "r", reference position)
    ∷ (pair_if (codes "s") (style_written value) ++ pair_if (codes "t") (type_written value))

pub cell_attributes_are : (position : ℕ × ℕ) (value : CellValue) →
    cell_attributes position value ≡ attributes_of (cell_pairs position value)
cell_attributes_are position value =
    ap (λ (bytes : List ℕ). attribute (codes "r") (reference position) ++ bytes)
    (ap (λ (bytes : List ℕ). attribute_if (codes "s") (style_written value) ++ bytes)
    (attribute_if_alone (codes "t") (type_written value))
    ∙ attribute_if_in_row (codes "s") (style_written value)
    (pair_if (codes "t") (type_written value)))

pub cell_pairs_writable : (position : ℕ × ℕ) (value : CellValue) → position.0 < 1048576 →
    AreWritablePairs (cell_pairs position value)
cell_pairs_writable position value inside =
    (here, others value) where
      here : IsWritablePair (codes "r", reference position)
      here = record { key = refl; value = reference_lacks 34 quote_is_outside position inside }

      one : (key value : List ℕ) → list_any is_no_key_byte key ≡ false → has_byte 34 value ≡ false →
          AreWritablePairs ((key, value) ∷ [])
      one key value proper quoted = (record { key = proper; value = quoted }, tt)

      styles : (kind : ExcelDateTimeType) →
          AreWritablePairs ((codes "s", time_style kind) ∷ [])
      styles DateTime = one (codes "s") (codes "1") refl refl
      styles TimeDelta = one (codes "s") (codes "2") refl refl

      others : (value : CellValue) → AreWritablePairs
          (pair_if (codes "s") (style_written value) ++ pair_if (codes "t") (type_written value))
      others nothing = tt
      others (integer n) = tt
      others (number n) = tt
      others (text bytes) = one (codes "t") (codes "str") refl refl
      others (shared_text place) = tt
      others (truth holds) = one (codes "t") (codes "b") refl refl
      others (time days kind is_1904) = styles kind
      others (iso_time bytes) = one (codes "t") (codes "d") refl refl
      others (failure error) = one (codes "t") (codes "e") refl refl

-- what a written cell says of its position and of its style
pub position_looked_up : (position : ℕ × ℕ) (value : CellValue) → position.0 < 1048576 →
    value_of (codes "r") (cell_attributes position value) ≡ Ok (Some (reference position))
position_looked_up position value inside =
    ap (value_of (codes "r")) (cell_attributes_are position value)
    ∙ value_written (codes "r") (cell_pairs position value)
    (cell_pairs_writable position value inside)

pub style_looked_up : (position : ℕ × ℕ) (value : CellValue) → position.0 < 1048576 →
    value_of (codes "s") (cell_attributes position value) ≡ Ok (style_written value)
style_looked_up position value inside =
    ap (value_of (codes "s")) (cell_attributes_are position value)
    ∙ (value_written (codes "s") (cell_pairs position value)
    (cell_pairs_writable position value inside)
    ∙ ap Ok (found value)) where
      found : (value : CellValue) → first_value (bytes_eq (codes "s")) (map Ok
          (pair_if (codes "s") (style_written value) ++ pair_if (codes "t") (type_written value)))
          ≡ style_written value
      found nothing = refl
      found (integer n) = refl
      found (number n) = refl
      found (text bytes) = refl
      found (shared_text place) = refl
      found (truth holds) = refl
      found (time days kind is_1904) = refl
      found (iso_time bytes) = refl
      found (failure error) = refl

-- a row names itself
pub row_looked_up : (row : ℕ) → row < 1048576 →
    value_of (codes "r") (attribute (codes "r") (row_reference row)) ≡ Ok (Some (row_reference row))
row_looked_up row inside =
    ap (value_of (codes "r")) (sym (append-nil (attribute (codes "r") (row_reference row))))
    ∙ value_written (codes "r") ((codes "r", row_reference row) ∷ [])
    (record { key = refl; value = row_lacks 34 quote_is_outside row inside }, tt)
