-- What is written step by step is the data of the sheet.
use Rattle.std.proofs.Common.{◌≡◌, ℕ, Bool, true, false, ◌&&◌, cond, List, [], ◌∷◌, ◌++◌, refl, sym}
use Rattle.std.proofs.Common.{ap, ◌∙◌, Option, Some, None}
use Rattle.std.specs.Prelude.{map, codes}
use Rattle.std.specs.FinMap.{find}
use Rattle.std.specs.Option.{option_map, unwrap_or}
use Rattle.std.specs.FinMap.Entries.{below_all}
use Rattle.std.specs.Ordering.{is_lt, eq_by_cmp}
use Rattle.std.proofs.lemmas.List.Elements.{All-map}
use Rattle.cell_refs.specs.Words.{position_cmp, is_rising}
use Rattle.cell_refs.proofs.PositionOrder.{tied_same}
use Rattle.cell_data.specs.Words.{nothing, IsPlacedInSheet, AreInOrder, positions_alone}
use Rattle.cell_data.specs.Words.{positions_of}
use Rattle.part_events.specs.Words.{Event}
use Rattle.written_markup.specs.Words.{element}
use Rattle.xlsx_writer.specs.Groups.{PlacedFormulas, formula_held, written_formula}
use Rattle.xlsx_writer.specs.WrittenSheet.{PlacedValues, cell_attributes, value_events, cell_events}
use Rattle.xlsx_writer.specs.WrittenSheet.{optional_formula, data_markup}
use Rattle.xlsx_writer.specs.declared.form.WrittenForm.{WrittenForm}
use Rattle.xlsx_writer.specs.Writing.{PlacedForms, placed_forms, given_formula, cell_to_write}
use Rattle.xlsx_writer.specs.Writing.{cell_among, rows_of_positions, data_left}

module _ (form : WrittenForm) (F : PlacedFormulas) where
  abbrev forms_of : PlacedFormulas → PlacedForms
  forms_of some = map (λ entry. (entry.0, written_formula form F entry.0 entry.1)) some

  form_found : (p : ℕ × ℕ) (some : PlacedFormulas) →
      find position_cmp p (forms_of some)
      ≡ option_map (written_formula form F p) (find position_cmp p some)
  form_found p [] = refl
  form_found p (e ∷ some) = by_test (eq_by_cmp position_cmp p e.0) refl (form_found p some)
    where
      by_test : (test : Bool) → eq_by_cmp position_cmp p e.0 ≡ test →
          find position_cmp p (forms_of some)
          ≡ option_map (written_formula form F p) (find position_cmp p some) →
          cond test (Some (written_formula form F e.0 e.1)) (find position_cmp p (forms_of some))
          ≡ option_map (written_formula form F p) (cond test (Some e.1) (find position_cmp p some))
      by_test true tied rest =
          ap (λ (q : ℕ × ℕ). Some (written_formula form F q e.1))
          (sym (tied_same p e.0 tied))
      by_test false other rest = rest

  same_places : (some : PlacedFormulas) → positions_alone (forms_of some) ≡ positions_alone some
  same_places [] = refl
  same_places (e ∷ some) = ap (λ es. (e.0, tt) ∷ es) (same_places some)

  given_of : (p : ℕ × ℕ) (found : Option (List ℕ)) →
      given_formula p (option_map (written_formula form F p) found)
      ≡ optional_formula form F p found
  given_of p None = refl
  given_of p (Some formula) = refl

  same_cell : (V : PlacedValues) (p : ℕ × ℕ) →
      cell_among form V (placed_forms form F) p ≡ cell_events form V F p
  same_cell V p =
      let value = unwrap_or (find position_cmp p V) nothing in
      ap (cell_to_write form p value) (form_found p F)
      ∙ ap (λ (formula : List Event). element (codes "c") (cell_attributes p value)
      (formula ++ value_events form value)) (given_of p (formula_held F p))

-- the rows of values and of formulas as they are written are the data
pub data_same : (form : WrittenForm) (V : PlacedValues) (F : PlacedFormulas)
    → data_left form None V (placed_forms form F) ≡ data_markup form V F
data_same form V F =
    let places = same_places form F F in
    λ i. rows_of_positions (λ p. same_cell form F V p i) (positions_of (positions_alone V
    ++ places i))

-- ---- in order

module _ {X Y : Type 0} (g : (ℕ × ℕ) × X → Y) where
  abbrev each : List ((ℕ × ℕ) × X) → List ((ℕ × ℕ) × Y)
  each es = map (λ entry. (entry.0, g entry)) es

  below_each : (p : ℕ × ℕ) (es : List ((ℕ × ℕ) × X)) →
      below_all position_cmp p (each es) ≡ below_all position_cmp p es
  below_each p [] = refl
  below_each p (e ∷ es) = ap (λ t. is_lt (position_cmp p e.0) && t) (below_each p es)

  each_rises : (es : List ((ℕ × ℕ) × X)) → is_rising (each es) ≡ is_rising es
  each_rises [] = refl
  each_rises (e ∷ es) =
      let below = below_each e.0 es in
      let rest = each_rises es in
      λ i. below i && rest i

  pub each_in_order : (es : List ((ℕ × ℕ) × X)) → AreInOrder es → AreInOrder (each es)
  each_in_order es order = record {
    rising = each_rises es ∙ order.rising;
    sheet = All-map IsPlacedInSheet (λ entry. (entry.0, g entry)) es order.sheet;
  }

pub forms_in_order : (form : WrittenForm) (F : PlacedFormulas) → AreInOrder F
    → AreInOrder (placed_forms form F)
forms_in_order form F order =
    each_in_order (λ entry. written_formula form F entry.0 entry.1) F order
