-- The rows of values and formulas are written position by position.
use Rattle.std.proofs.Common.{◌≡◌, ℕ, ◌+◌, ◌<◌, Bool, true, false, cond, ◌||◌, List, [], ◌∷◌, ◌++◌}
use Rattle.std.proofs.Common.{length, refl, sym, ap, ◌∙◌, arith, append_assoc, Option, Some, None}
use Rattle.std.proofs.Common.{inl, inr, ◌⊎◌}
use Rattle.std.specs.Prelude.{map, is_some, ◌==◌, MatchOption}
use Rattle.std.specs.FinMap.{from_entries, entries}
use Rattle.std.specs.FinMap.Entries.{below_all}
use Rattle.std.specs.List.{flat_map}
use Rattle.std.specs.Option.{option_map, unwrap_or}
use Rattle.std.specs.Cmp.{tied_itself}
use Rattle.std.specs.Ordering.{is_lt, is_eq}
use Rattle.std.proofs.Math.Bool.{or-true}
use Rattle.std.proofs.lemmas.Bool.{cases_eq, ne_eqb, eq-eqb}
use Rattle.cell_refs.specs.Words.{position_cmp}
use Rattle.cell_refs.specs.declared.TheConstants.{MAX_ROWS, MAX_COLUMNS}
use Rattle.cell_refs.proofs.PositionOrder.{and_both, position_total}
use Rattle.cell_data.specs.Words.{CellValue, nothing, value_of_data, AreInOrder, given, Splits}
use Rattle.cell_data.specs.Words.{positions_alone, positions_of, IsEarlier, IsOfFirst}
use Rattle.cell_data.specs.declared.value.Data.{Data}
use Rattle.cell_data.proofs.Splitting.{past, at_first}
use Rattle.cell_data.proofs.Stepping.{used_given, used_both, first_entries, below_entries}
use Rattle.cell_data.proofs.Stepping.{below_used, below_both, no_positions, meant, meant_given}
use Rattle.cell_data.proofs.Stepping.{meant_below, stands_first, no_cell, first_is, first_in_sheet}
use Rattle.cell_data.proofs.Stepping.{no_longer, first_shorter}
use Rattle.sorted_cells.specs.Words.{first_position, value_first, left_behind}
use Rattle.part_events.specs.Words.{Event, Contents}
use Rattle.written_markup.specs.Words.{with_events}
use Rattle.written_markup.proofs.Drafted.{events_joined}
use Rattle.xlsx_writer.specs.Groups.{WrittenFormula}
use Rattle.xlsx_writer.specs.WrittenSheet.{PlacedValues, SheetRow, in_rows, with_position}
use Rattle.xlsx_writer.specs.Writing.{PlacedForms, cell_to_write, cell_among, row_front, row_behind}
use Rattle.xlsx_writer.specs.Writing.{row_start, row_end, row_by, rows_of_positions, rows_to_write}
use Rattle.xlsx_writer.specs.Writing.{leaving, entering, data_left, IsFirstOfBoth, value_to_write}
use Rattle.xlsx_writer.specs.declared.form.WrittenForm.{WrittenForm}

-- ---- positions by rows

-- the first row has the first position and those behind it in its row
pub rows_first : (p : ℕ × ℕ) (ps : List (ℕ × ℕ)) →
    in_rows (p ∷ ps)
    ≡ record { row = p.0; positions = p ∷ row_front p.0 ps } ∷ in_rows (row_behind p.0 ps)
rows_first p [] = refl
rows_first p (q ∷ qs) =
    ap (with_position p) (rows_first q qs)
    ∙ by_case (cases_eq p.0 q.0) (rows_first q qs)
  where
    Goal : Type 0
    Goal =
        with_position p (record { row = q.0; positions = q ∷ row_front q.0 qs }
        ∷ in_rows (row_behind q.0 qs))
        ≡ record { row = p.0; positions = p ∷ row_front p.0 (q ∷ qs) }
        ∷ in_rows (row_behind p.0 (q ∷ qs))

    by_case : (p.0 ≡ q.0) ⊎ (p.0 ≡ q.0 → ⊥) →
        in_rows (q ∷ qs)
        ≡ record { row = q.0; positions = q ∷ row_front q.0 qs } ∷ in_rows (row_behind q.0 qs) →
        with_position p (record { row = q.0; positions = q ∷ row_front q.0 qs }
        ∷ in_rows (row_behind q.0 qs))
        ≡ record { row = p.0; positions = p ∷ row_front p.0 (q ∷ qs) }
        ∷ in_rows (row_behind p.0 (q ∷ qs))
    by_case (inl same) rest =
        ap (λ (test : Bool). cond test
        (record { row = q.0; positions = p ∷ q ∷ row_front q.0 qs } ∷ in_rows (row_behind q.0 qs))
        (record { row = p.0; positions = p ∷ [] }
        ∷ record { row = q.0; positions = q ∷ row_front q.0 qs } ∷ in_rows (row_behind q.0 qs)))
        (eq-eqb p.0 q.0 same)
        ∙ (λ i. record { row = sym same i; positions = p ∷ q ∷ row_front (sym same i) qs }
        ∷ in_rows (row_behind (sym same i) qs))
        ∙ ap (λ (test : Bool).
        record { row = p.0; positions = p ∷ cond test (q ∷ row_front p.0 qs) [] }
        ∷ in_rows (cond test (row_behind p.0 qs) (q ∷ qs))) (sym (eq-eqb q.0 p.0 (sym same)))
    by_case (inr other) rest =
        ap (λ (test : Bool). cond test
        (record { row = q.0; positions = p ∷ q ∷ row_front q.0 qs } ∷ in_rows (row_behind q.0 qs))
        (record { row = p.0; positions = p ∷ [] }
        ∷ record { row = q.0; positions = q ∷ row_front q.0 qs } ∷ in_rows (row_behind q.0 qs)))
        (ne_eqb p.0 q.0 other)
        ∙ ap (λ (rows : List SheetRow). record { row = p.0; positions = p ∷ [] } ∷ rows) (sym rest)
        ∙ ap (λ (test : Bool).
        record { row = p.0; positions = p ∷ cond test (q ∷ row_front p.0 qs) [] }
        ∷ in_rows (cond test (row_behind p.0 qs) (q ∷ qs)))
        (sym (ne_eqb q.0 p.0 (λ same. other (sym same))))

module _ (cell : ℕ × ℕ → List Event) where
  -- where no row is open, that of the first position begins
  begins : (p : ℕ × ℕ) (ps : List (ℕ × ℕ)) →
      rows_of_positions cell (p ∷ ps) ≡ row_start p.0
      ++ (cell p ++ rows_to_write cell (Some p.0) ps)
  begins p ps =
      let inside = flat_map cell (row_front p.0 ps) in
      let rest = rows_of_positions cell (row_behind p.0 ps) in
      ap (flat_map (row_by cell)) (rows_first p ps)
      ∙ ap (λ (own : List Event). row_start p.0 ++ own)
      (append_assoc (cell p ++ inside) row_end rest
      ∙ append_assoc (cell p) inside (row_end ++ rest))

  -- what is left goes on with the row of the first position, and its cell
  pub goes_on : (row : Option ℕ) (p : ℕ × ℕ) (ps : List (ℕ × ℕ)) →
      rows_to_write cell row (p ∷ ps)
      ≡ entering row p.0 ++ (cell p ++ rows_to_write cell (Some p.0) ps)
  goes_on None p ps = begins p ps
  goes_on (Some row) p ps = elim (cases_eq row p.0) [
    | inl same ↦
        let front : Bool → List Event =
        λ test. flat_map cell (cond test (p ∷ row_front row ps) [])
        ++ (row_end ++ rows_of_positions cell (cond test (row_behind row ps) (p ∷ ps))) in
        ap front (eq-eqb p.0 row (sym same))
        ∙ append_assoc (cell p) (flat_map cell (row_front row ps))
        (row_end ++ rows_of_positions cell (row_behind row ps))
        ∙ ap (λ (r : ℕ). cell p ++ rows_to_write cell (Some r) ps) same
        ∙ ap (λ (test : Bool). cond test [] (row_end ++ row_start p.0)
        ++ (cell p ++ rows_to_write cell (Some p.0) ps)) (sym (eq-eqb row p.0 same))
    | inr other ↦
        let front : Bool → List Event =
        λ test. flat_map cell (cond test (p ∷ row_front row ps) [])
        ++ (row_end ++ rows_of_positions cell (cond test (row_behind row ps) (p ∷ ps))) in
        ap front (ne_eqb p.0 row (λ same. other (sym same)))
        ∙ ap (λ (own : List Event). row_end ++ own) (begins p ps)
        ∙ ap (λ (test : Bool). cond test [] (row_end ++ row_start p.0)
        ++ (cell p ++ rows_to_write cell (Some p.0) ps)) (sym (ne_eqb row p.0 other))
  ]

  pub ends : (row : Option ℕ) → rows_to_write cell row [] ≡ leaving row
  ends None = refl
  ends (Some row) = refl

-- ---- cells that are the same behind a position

module _ (one two : ℕ × ℕ → List Event) where
  -- both write the same at each of these positions
  Agree : List (ℕ × ℕ) → Type 0
  Agree [] = Unit {0}
  Agree (q ∷ qs) = (one q ≡ two q) × Agree qs

  AgreeInRows : List SheetRow → Type 0
  AgreeInRows [] = Unit {0}
  AgreeInRows (row ∷ rows) = Agree row.positions × AgreeInRows rows

  same_cells : (qs : List (ℕ × ℕ)) → Agree qs → flat_map one qs ≡ flat_map two qs
  unfolding Agree
  same_cells [] agree = refl
  same_cells (q ∷ qs) agree = let rest = same_cells qs agree.1 in λ i. agree.0 i ++ rest i

  agree_with : (q : ℕ × ℕ) (rows : List SheetRow) → one q ≡ two q → AgreeInRows rows →
      AgreeInRows (with_position q rows)
  unfolding Agree AgreeInRows
  agree_with q [] own agree = ((own, tt), tt)
  agree_with q (first ∷ rows) own agree = by_test (q.0 == first.row)
    where
      by_test : (test : Bool) → AgreeInRows (cond test
          (record { row = first.row; positions = q ∷ first.positions } ∷ rows)
          (record { row = q.0; positions = q ∷ [] } ∷ first ∷ rows))
      by_test true = ((own, agree.0), agree.1)
      by_test false = ((own, tt), agree)

  agree_by_rows : (qs : List (ℕ × ℕ)) → Agree qs → AgreeInRows (in_rows qs)
  unfolding Agree AgreeInRows
  agree_by_rows [] agree = tt
  agree_by_rows (q ∷ qs) agree =
      agree_with q (in_rows qs) agree.0 (agree_by_rows qs agree.1)

  same_rows : (rows : List SheetRow) → AgreeInRows rows →
      flat_map (row_by one) rows ≡ flat_map (row_by two) rows
  unfolding AgreeInRows
  same_rows [] agree = refl
  same_rows (row ∷ rows) agree =
      let own = same_cells row.positions agree.0 in
      let rest = same_rows rows agree.1 in
      λ i. (row_start row.row ++ (own i ++ row_end)) ++ rest i

  agree_front : (row : ℕ) (qs : List (ℕ × ℕ)) → Agree qs → Agree (row_front row qs)
  unfolding Agree
  agree_front row [] agree = tt
  agree_front row (q ∷ qs) agree = by_test (q.0 == row) (agree_front row qs agree.1)
    where
      by_test : (test : Bool) → Agree (row_front row qs)
          → Agree (cond test (q ∷ row_front row qs) [])
      by_test true rest = (agree.0, rest)
      by_test false rest = tt

  agree_behind : (row : ℕ) (qs : List (ℕ × ℕ)) → Agree qs → Agree (row_behind row qs)
  unfolding Agree
  agree_behind row [] agree = tt
  agree_behind row (q ∷ qs) agree = by_test (q.0 == row) (agree_behind row qs agree.1)
    where
      by_test : (test : Bool) → Agree (row_behind row qs)
          → Agree (cond test (row_behind row qs) (q ∷ qs))
      by_test true rest = rest
      by_test false rest = agree

  same_left : (row : ℕ) (qs : List (ℕ × ℕ)) → Agree qs →
      rows_to_write one (Some row) qs ≡ rows_to_write two (Some row) qs
  same_left row qs agree =
      let front = same_cells (row_front row qs) (agree_front row qs agree) in
      let behind =
      same_rows (in_rows (row_behind row qs))
      (agree_by_rows (row_behind row qs) (agree_behind row qs agree)) in
      λ i. front i ++ (row_end ++ behind i)

-- ---- one position of both lists

module _ (form : WrittenForm) (p : ℕ × ℕ) (v : Option CellValue) (w : Option WrittenFormula)
    (vs : PlacedValues) (ws : PlacedForms) where
  cells_past : (es : List ((ℕ × ℕ) × Unit {0})) → below_all position_cmp p es ≡ true →
      Agree (cell_among form (given p v ++ vs) (given p w ++ ws)) (cell_among form vs ws)
      (map (λ e. e.0) es)
  unfolding Agree
  cells_past [] below = tt
  cells_past (e ∷ es) below =
      let (own, others) =
      and_both (is_lt (position_cmp p e.0)) (below_all position_cmp p es) below in
      let value = past p v e.0 vs own in
      let formula = past p w e.0 ws own in (
        (λ i. cell_to_write form e.0 (unwrap_or (value i) nothing) (formula i)),
        cells_past
            es others,
      )

  pub data_step : (row : Option ℕ) → (is_some v || is_some w) ≡ true →
      below_all position_cmp p vs ≡ true → below_all position_cmp p ws ≡ true →
      data_left form row (given p v ++ vs) (given p w ++ ws)
      ≡ entering row p.0
      ++ (cell_to_write form p (unwrap_or v nothing) w ++ data_left form (Some p.0) vs ws)
  data_step row some in_values in_forms =
      let whole = positions_alone (given p v ++ vs) ++ positions_alone (given p w ++ ws) in
      let rest = positions_alone vs ++ positions_alone ws in
      let cell = cell_among form (given p v ++ vs) (given p w ++ ws) in
      let adds =
      used_both p (is_some v) (is_some w) (positions_alone (given p v ++ vs)) (positions_alone vs)
      (positions_alone (given p w ++ ws)) (positions_alone ws) (used_given p v vs)
      (used_given p w ws) in
      let below =
      below_both p (positions_alone vs) (positions_alone ws) (below_used p vs in_values)
      (below_used p ws in_forms) in
      let first = first_entries p (is_some v || is_some w) whole rest adds some below in
      let value = at_first p v vs in_values in
      let formula = at_first p w ws in_forms in
      let positions = positions_of rest in
      let behind =
      same_left cell (cell_among form vs ws) p.0 positions
      (cells_past (entries (from_entries {R = position_cmp} rest)) (below_entries p rest below)) in
      ap (λ (es : List ((ℕ × ℕ) × Unit {0})). rows_to_write cell row (map (λ e. e.0) es)) first
      ∙ goes_on cell row p positions
      ∙ (λ i. entering row p.0
      ++ (cell_to_write form p (unwrap_or (value i) nothing) (formula i) ++ behind i))

pub data_ends : (form : WrittenForm) (row : Option ℕ) → data_left form row [] [] ≡ leaving row
data_ends form row =
    ap (rows_to_write (cell_among form [] []) row) no_positions ∙ ends (cell_among form [] []) row

-- ---- the first position of both lists

module _ {X Y : Type 0} (values : List ((ℕ × ℕ) × X)) (formulas : List ((ℕ × ℕ) × Y)) where
  pub first_found : (result : Option (ℕ × ℕ)) → AreInOrder values → AreInOrder formulas →
      MatchOption result ((first_position values ≡ None) × (first_position formulas ≡ None))
      (IsEarlier (first_position values) (first_position formulas)) →
      MatchOption result ((values ≡ []) × (formulas ≡ [])) (IsFirstOfBoth values formulas)
  first_found None in_values in_formulas own = (no_cell values own.0, no_cell formulas own.1)
  first_found (Some p) in_values in_formulas own =
      let sheet : (p.0 < MAX_ROWS) × (p.1 < MAX_COLUMNS) = elim own.is_one [
        | inl of_values ↦ first_in_sheet p values in_values of_values
        | inr of_formulas ↦ first_in_sheet p formulas in_formulas of_formulas
      ] in
      record {
        in_rows = sheet.0;
        in_columns = sheet.1;
        before_values = stands_first p values own.before_one;
        before_formulas = stands_first p formulas own.before_other;
        is_used = elim own.is_one [
          | inl of_values ↦ inl (first_is p values of_values)
          | inr of_formulas ↦ inr (first_is p formulas of_formulas)
        ];
      }

-- each step leaves fewer cells
pub shorter : {X Y : Type 0} (p : ℕ × ℕ) (values vs : List ((ℕ × ℕ) × X))
    (formulas fs : List ((ℕ × ℕ) × Y)) → IsFirstOfBoth values formulas p →
    vs ≡ left_behind p values → fs ≡ left_behind p formulas →
    length vs + length fs < length values + length formulas
shorter p values vs formulas fs first is_v is_f =
    let left_v = ap length is_v in
    let left_f = ap length is_f in
    let in_values = no_longer p values in
    let in_formulas = no_longer p formulas in
    elim first.is_used [
      | inl of_values ↦
          let fewer = first_shorter p values of_values in
          omega (arith, left_v, left_f, fewer, in_formulas)
      | inr of_formulas ↦
          let fewer = first_shorter p formulas of_formulas in
          omega (arith, left_v, left_f, fewer, in_values)
    ]

-- what stands at the first position of a list is taken
pub first_taken : {X : Type 0} (p : ℕ × ℕ) (cells : List ((ℕ × ℕ) × X)) → IsOfFirst p cells →
    is_some (value_first p cells) ≡ true
first_taken p [] first = absurd first
first_taken p (cell ∷ cells) first =
    ap (λ (test : Bool). is_some (cond test (Some cell.1) None))
    (ap is_eq (ap (position_cmp p) first ∙ tied_itself position_total p))

mapped_some : {X Y : Type 0} (g : X → Y) (v : Option X) → is_some (option_map g v) ≡ is_some v
mapped_some g None = refl
mapped_some g (Some v) = refl

-- some of both lists has the first position
pub some_taken : (p : ℕ × ℕ) (values : List ((ℕ × ℕ) × Data)) (forms : PlacedForms)
    (v : Option Data) (w : Option WrittenFormula) → IsFirstOfBoth values forms p →
    v ≡ value_first p values → w ≡ value_first p forms →
    (is_some (option_map value_of_data v) || is_some w) ≡ true
some_taken p values forms v w first is_v is_w =
    elim first.is_used [
      | inl of_values ↦
          ap (λ (test : Bool). test || is_some w)
          (mapped_some value_of_data v ∙ ap is_some is_v ∙ first_taken p values of_values)
      | inr of_forms ↦
          ap (λ (test : Bool). is_some (option_map value_of_data v) || test)
          (ap is_some is_w ∙ first_taken p forms of_forms)
          ∙ or-true (is_some (option_map value_of_data v))
    ]

-- one position is written, and what is left to write is as before
pub goes_on_with : (form : WrittenForm) (old entered celled : Contents) (row : Option ℕ) (p : ℕ × ℕ)
    (v : Option Data) (w : Option WrittenFormula) (values vs : List ((ℕ × ℕ) × Data))
    (forms fs : PlacedForms) (whole : Contents) → Splits p values v vs → Splits p forms w fs →
    (is_some (option_map value_of_data v) || is_some w) ≡ true →
    entered ≡ with_events old (entering row p.0) →
    celled ≡ with_events entered (cell_to_write form p (value_to_write v) w) →
    with_events old (data_left form row (meant value_of_data values) forms) ≡ whole →
    with_events celled (data_left form (Some p.0) (meant value_of_data vs) fs) ≡ whole
goes_on_with form old entered celled row p v w values vs forms fs whole splits_v splits_w some
    is_entered is_celled same =
    let cell = cell_to_write form p (value_to_write v) w in
    let rest = data_left form (Some p.0) (meant value_of_data vs) fs in
    let seen = ap (meant value_of_data) splits_v.whole ∙ meant_given value_of_data p v vs in
    let step =
    (λ i. data_left form row (seen i) (splits_w.whole i))
    ∙ data_step form p (option_map value_of_data v) w (meant value_of_data vs) fs row some
    (meant_below value_of_data p vs ∙ splits_v.below) splits_w.below in
    ap (λ (held : Contents). with_events held rest) is_celled
    ∙ events_joined entered cell rest
    ∙ ap (λ (held : Contents). with_events held (cell ++ rest)) is_entered
    ∙ events_joined old (entering row p.0) (cell ++ rest)
    ∙ ap (with_events old) (sym step) ∙ same
