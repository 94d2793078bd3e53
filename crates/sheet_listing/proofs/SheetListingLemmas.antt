-- A step through three lists of cells takes the first line of their listing.
use Rattle.std.proofs.Common.{◌≡◌, ℕ, ◌+◌, ◌<◌, true, ◌||◌, List, [], ◌∷◌, ◌++◌, length, Some, None}
use Rattle.std.proofs.Common.{Option, refl, sym, ap, ◌∙◌, subst, arith, append_assoc, string_bytes}
use mathlib.Core.Path.{fun_ext}
use Rattle.std.specs.Prelude.{map, is_some, String, MatchOption, ◌⊎◌}
use Rattle.std.proofs.Common.{inl, inr}
use Rattle.std.specs.declared.alloc.Global.{Global}
use Rattle.std.specs.FinMap.{entries, from_entries, find}
use Rattle.std.specs.FinMap.Entries.{below_all}
use Rattle.std.specs.List.{flat_map}
use Rattle.std.specs.Option.{option_map, unwrap_or}
use Rattle.std.specs.Ordering.{is_lt}
use Rattle.std.proofs.lemmas.List.{append-nil}
use Rattle.cell_refs.specs.declared.TheConstants.{MAX_ROWS, MAX_COLUMNS}
use Rattle.std.proofs.lemmas.List.Elements.{All-map}
use Rattle.cell_data.specs.Words.{IsPlacedInSheet, AreInOrder, given, Splits, positions_alone}
use Rattle.cell_data.specs.Words.{StandsUpTo, IsEarlier, CellValue, nothing, value_of_data}
use Rattle.cell_refs.proofs.PositionOrder.{and_both}
use Rattle.sorted_cells.proofs.Orders.{after_sorted}
use Rattle.sorted_cells.specs.Words.{last_key, comes_after, first_position, left_behind}
use Rattle.cell_data.proofs.Splitting.{past, at_first}
use Rattle.cell_data.proofs.Stepping.{Adds, used_given, used_both, first_entries, no_positions}
use Rattle.cell_data.proofs.Stepping.{below_entries, below_used, below_both, stands_before}
use Rattle.cell_data.proofs.Stepping.{stands_first, no_cell, first_is, first_in_sheet, no_longer}
use Rattle.cell_data.proofs.Stepping.{first_shorter, meant_given, meant_below, meant_found}
use Rattle.cell_refs.specs.Words.{position_cmp, is_rising}
use Rattle.cell_data.specs.declared.value.Data.{Data}
use Rattle.cell_styles.specs.Words.{styled_entry, style_named, RiseOnSheet, StyledCell, StyleMap}
use Rattle.cell_styles.specs.Words.{style_at}
use Rattle.cell_styles.specs.declared.style.Style.{Style}
use Rattle.list_lines.specs.declared.content.LineForm.{LineForm}
use Rattle.list_lines.specs.declared.content.LineForm.TheVariants.{Text, Json}
use Rattle.sheet_listing.specs.CellObjects.{line_in, lines_in}
use Rattle.sheet_listing.specs.SheetListing.{value_placed, formula_placed, id_placed, lines_with}
use Rattle.sheet_listing.specs.SheetListing.{cell_values, cell_formulas, value_given, formula_given}
use Rattle.sheet_listing.specs.SheetListing.{id_given, IsFirstOf, used_positions}

module _ {X Y Z : Type 0} where
  -- the positions of three lists
  abbrev places : List ((ℕ × ℕ) × X) → List ((ℕ × ℕ) × Y) → List ((ℕ × ℕ) × Z) →
      List ((ℕ × ℕ) × Unit {0})
  places vs fs ds = positions_alone vs ++ (positions_alone fs ++ positions_alone ds)

  below_places : (p : ℕ × ℕ)
      (vs : List ((ℕ × ℕ) × X)) (fs : List ((ℕ × ℕ) × Y)) (ds : List ((ℕ × ℕ) × Z)) →
      below_all position_cmp p vs ≡ true → below_all position_cmp p fs ≡ true →
      below_all position_cmp p ds ≡ true → below_all position_cmp p (places vs fs ds) ≡ true
  below_places p vs fs ds in_vs in_fs in_ds =
      below_both p (positions_alone vs) (positions_alone fs ++ positions_alone ds)
      (below_used p vs in_vs)
      (below_both p (positions_alone fs) (positions_alone ds) (below_used p fs in_fs)
      (below_used p ds in_ds))

  -- a position of the first cell of some of them
  adds_places : (p : ℕ × ℕ) (v : Option X) (f : Option Y) (d : Option Z)
      (vs : List ((ℕ × ℕ) × X)) (fs : List ((ℕ × ℕ) × Y)) (ds : List ((ℕ × ℕ) × Z)) →
      Adds p (is_some v || (is_some f || is_some d))
      (places (given p v ++ vs) (given p f ++ fs) (given p d ++ ds)) (places vs fs ds)
  adds_places p v f d vs fs ds =
      used_both p (is_some v) (is_some f || is_some d)
      (positions_alone (given p v ++ vs)) (positions_alone vs)
      (positions_alone (given p f ++ fs) ++ positions_alone (given p d ++ ds)) (positions_alone fs
      ++ positions_alone ds)
      (used_given p v vs)
      (used_both p (is_some f) (is_some d) (positions_alone (given p f ++ fs)) (positions_alone fs)
      (positions_alone (given p d ++ ds)) (positions_alone ds) (used_given p f fs)
      (used_given p d ds))

-- a position that has nothing has no line
no_line : (form : LineForm) (p : ℕ × ℕ) (own : Option Style) → line_in form p nothing [] 0 own ≡ []
no_line Text p own = refl
no_line Json p own = refl

module _ (form : LineForm) (style : ℕ × ℕ → ℕ → Option Style) where
  line_at : List ((ℕ × ℕ) × CellValue) → List ((ℕ × ℕ) × List ℕ) → List ((ℕ × ℕ) × ℕ) →
      ℕ × ℕ → List ℕ
  line_at values formulas ids q =
      line_in form q (value_placed q values) (formula_placed q formulas) (id_placed q ids)
      (style q (id_placed q ids))

  lines_past : (p : ℕ × ℕ) (v : Option CellValue) (f : Option (List ℕ)) (d : Option ℕ)
      (vs : List ((ℕ × ℕ) × CellValue)) (fs : List ((ℕ × ℕ) × List ℕ))
      (ds : List ((ℕ × ℕ) × ℕ)) (es : List ((ℕ × ℕ) × Unit {0})) →
      below_all position_cmp p es ≡ true →
      flat_map (line_at (given p v ++ vs) (given p f ++ fs) (given p d ++ ds)) (map (λ e. e.0) es)
      ≡ flat_map (line_at vs fs ds) (map (λ e. e.0) es)
  unfolding line_at
  lines_past p v f d vs fs ds [] below = refl
  lines_past p v f d vs fs ds (e ∷ es) below =
      let (own, others) =
      and_both (is_lt (position_cmp p e.0)) (below_all position_cmp p es) below in
      let value = past p v e.0 vs own in
      let formula = past p f e.0 fs own in
      let id = past p d e.0 ds own in
      let rest = lines_past p v f d vs fs ds es others in
      λ i. line_in form e.0 (unwrap_or (value i) nothing) (unwrap_or (formula i) [])
      (unwrap_or (id i) 0) (style e.0 (unwrap_or (id i) 0)) ++ rest i

  some_step : (p : ℕ × ℕ) (v : Option CellValue) (f : Option (List ℕ)) (d : Option ℕ)
      (vs : List ((ℕ × ℕ) × CellValue)) (fs : List ((ℕ × ℕ) × List ℕ))
      (ds : List ((ℕ × ℕ) × ℕ)) →
      (is_some v || (is_some f || is_some d)) ≡ true →
      below_all position_cmp p vs ≡ true → below_all position_cmp p fs ≡ true →
      below_all position_cmp p ds ≡ true →
      lines_in form style (given p v ++ vs) (given p f ++ fs) (given p d ++ ds)
      ≡ line_in form p (unwrap_or v nothing) (unwrap_or f []) (unwrap_or d 0)
      (style p (unwrap_or d 0))
      ++ lines_in form style vs fs ds
  unfolding lines_in line_at
  some_step p v f d vs fs ds some in_values in_formulas in_ids =
      let below = below_places p vs fs ds in_values in_formulas in_ids in
      let rest : List ((ℕ × ℕ) × Unit {0}) =
      entries (from_entries {R = position_cmp} (places vs fs ds)) in
      let value = at_first p v vs in_values in
      let formula = at_first p f fs in_formulas in
      let id = at_first p d ds in_ids in
      let further =
      lines_past p v f d vs fs ds rest (below_entries p (places vs fs ds) below) in
      ap (λ es. flat_map (line_at (given p v ++ vs) (given p f ++ fs) (given p d ++ ds))
      (map (λ e. e.0) es))
      (first_entries p (is_some v || (is_some f || is_some d))
      (places (given p v ++ vs) (given p f ++ fs) (given p d ++ ds)) (places vs fs ds)
      (adds_places p v f d vs fs ds) some below)
      ∙ (λ i. line_in form p (unwrap_or (value i) nothing) (unwrap_or (formula i) [])
      (unwrap_or (id i) 0) (style p (unwrap_or (id i) 0)) ++ further i)

  listing_step : (p : ℕ × ℕ) (v : Option CellValue) (f : Option (List ℕ)) (d : Option ℕ)
      (vs : List ((ℕ × ℕ) × CellValue)) (fs : List ((ℕ × ℕ) × List ℕ))
      (ds : List ((ℕ × ℕ) × ℕ)) →
      below_all position_cmp p vs ≡ true → below_all position_cmp p fs ≡ true →
      below_all position_cmp p ds ≡ true →
      lines_in form style (given p v ++ vs) (given p f ++ fs) (given p d ++ ds)
      ≡ line_in form p (unwrap_or v nothing) (unwrap_or f []) (unwrap_or d 0)
      (style p (unwrap_or d 0))
      ++ lines_in form style vs fs ds
  listing_step p None None None vs fs ds in_values in_formulas in_ids =
      ap (λ own. own ++ lines_in form style vs fs ds) (sym (no_line form p (style p 0)))
  listing_step p None None (Some d) vs fs ds in_values in_formulas in_ids =
      some_step p None None (Some d) vs fs ds refl in_values in_formulas in_ids
  listing_step p None (Some f) d vs fs ds in_values in_formulas in_ids =
      some_step p None (Some f) d vs fs ds refl in_values in_formulas in_ids
  listing_step p (Some v) f d vs fs ds in_values in_formulas in_ids =
      some_step p (Some v) f d vs fs ds refl in_values in_formulas in_ids

-- the formula of the used cell at a position
pub formula_found : (p : ℕ × ℕ) (formulas : List ((ℕ × ℕ) × String Global))
    (found : Option (String Global)) → found ≡ find position_cmp p formulas →
    formula_given found ≡ formula_placed p (cell_formulas formulas)
formula_found p formulas found same =
    ap formula_given same ∙ ap (λ o. unwrap_or o []) (sym (meant_found string_bytes p formulas))

-- the lines of cells that are left
abbrev pub lines_left :
    LineForm → (ℕ × ℕ → ℕ → Option Style) → List ((ℕ × ℕ) × Data) → List ((ℕ × ℕ) × String Global) →
    List ((ℕ × ℕ) × ℕ) → List ℕ
lines_left form style values formulas ids =
    lines_in form style (cell_values values) (cell_formulas formulas) ids

cells_step : (form : LineForm) (style : ℕ × ℕ → ℕ → Option Style) (p : ℕ × ℕ)
    (v : Option Data) (f : Option (String Global)) (d : Option ℕ)
    (values vs : List ((ℕ × ℕ) × Data)) (formulas fs : List ((ℕ × ℕ) × String Global))
    (ids ds : List ((ℕ × ℕ) × ℕ)) →
    Splits p values v vs → Splits p formulas f fs → Splits p ids d ds →
    lines_left form style values formulas ids
    ≡ line_in form p (value_given v) (formula_given f) (id_given d) (style p (id_given d))
    ++ lines_left form style vs fs ds
cells_step form style p v f d values vs formulas fs ids ds splits_v splits_f splits_d =
    let seen_v = ap cell_values splits_v.whole ∙ meant_given value_of_data p v vs in
    let seen_f = ap cell_formulas splits_f.whole ∙ meant_given string_bytes p f fs in
    let seen_d = splits_d.whole in
    (λ i. lines_in form style (seen_v i) (seen_f i) (seen_d i))
    ∙ listing_step form style p (option_map value_of_data v) (option_map string_bytes f) d
    (cell_values vs) (cell_formulas fs) ds (meant_below value_of_data p vs ∙ splits_v.below)
    (meant_below string_bytes p fs ∙ splits_f.below) splits_d.below

-- a line is printed, and what is printed with the lines that are left stays the same
pub goes_on : (old new line rest left whole : List ℕ) → new ≡ old ++ line → left ≡ line ++ rest →
    old ++ left ≡ whole → new ++ rest ≡ whole
goes_on old new line rest left whole printed taken same =
    rw (printed, append_assoc, ← taken) same

-- the same with the line of a position
pub lines_on : (form : LineForm) (style : ℕ × ℕ → ℕ → Option Style) (p : ℕ × ℕ)
    (v : Option Data) (f : Option (String Global)) (d : Option ℕ) (found : Option Style)
    (values vs : List ((ℕ × ℕ) × Data)) (formulas fs : List ((ℕ × ℕ) × String Global))
    (ids ds : List ((ℕ × ℕ) × ℕ)) (old new whole : List ℕ) →
    Splits p values v vs → Splits p formulas f fs → Splits p ids d ds →
    found ≡ style p (id_given d) →
    new ≡ old ++ line_in form p (value_given v) (formula_given f) (id_given d) found →
    old ++ lines_left form style values formulas ids ≡ whole →
    new ++ lines_left form style vs fs ds ≡ whole
lines_on form style p v f d found values vs formulas fs ids ds old new whole splits_v splits_f
    splits_d
    is printed same =
    let line : Option Style → List ℕ =
    λ found. line_in form p (value_given v) (formula_given f) (id_given d) found in
    goes_on old new (line (style p (id_given d))) (lines_left form style vs fs ds)
    (lines_left form style values formulas ids) whole (printed ∙ ap (λ found. old ++ line found) is)
    (cells_step form style p v f d values vs formulas fs ids ds splits_v splits_f splits_d) same

nothing_listed : (form : LineForm) (style : ℕ × ℕ → ℕ → Option Style)
    → lines_in form style [] [] [] ≡ []
unfolding lines_in line_at
nothing_listed form style = ap (flat_map (line_at form style [] [] [])) no_positions

pub lines_end : (form : LineForm) (style : ℕ × ℕ → ℕ → Option Style) (out whole : List ℕ)
    (values : List ((ℕ × ℕ) × Data)) (formulas : List ((ℕ × ℕ) × String Global))
    (ids : List ((ℕ × ℕ) × ℕ)) →
    (values ≡ []) × (formulas ≡ []) × (ids ≡ []) →
    out ++ lines_left form style values formulas ids ≡ whole →
    out ≡ whole
lines_end form style out whole values formulas ids none same =
    sym (append-nil out) ∙ (ap (λ bytes. out ++ bytes) (sym (nothing_listed form style))
    ∙ ((λ i. out ++ lines_left form style (sym none.0 i) (sym none.1 i) (sym none.2 i)) ∙ same))

-- each step leaves fewer cells
pub shorter : {X Y Z : Type 0} (p : ℕ × ℕ) (values vs : List ((ℕ × ℕ) × X))
    (formulas fs : List ((ℕ × ℕ) × Y)) (ids ds : List ((ℕ × ℕ) × Z)) →
    IsFirstOf values formulas ids p → vs ≡ left_behind p values →
    fs ≡ left_behind p formulas → ds ≡ left_behind p ids →
    length vs + length fs + length ds < length values + length formulas + length ids
shorter p values vs formulas fs ids ds first is_v is_f is_d =
    let left_v = ap length is_v in
    let left_f = ap length is_f in
    let left_d = ap length is_d in
    let in_values = no_longer p values in
    let in_formulas = no_longer p formulas in
    let in_ids = no_longer p ids in
    elim first.is_used [
      | inl of_values ↦
          let fewer = first_shorter p values of_values in
          omega (arith, left_v, left_f, left_d, fewer, in_formulas, in_ids)
      | inr (inl of_formulas) ↦
          let fewer = first_shorter p formulas of_formulas in
          omega (arith, left_v, left_f, left_d, fewer, in_values, in_ids)
      | inr (inr of_ids) ↦
          let fewer = first_shorter p ids of_ids in
          omega (arith, left_v, left_f, left_d, fewer, in_values, in_formulas)
    ]

-- ---- the first position of three lists

module _ {X Y Z : Type 0} (values : List ((ℕ × ℕ) × X)) (formulas : List ((ℕ × ℕ) × Y))
    (ids : List ((ℕ × ℕ) × Z)) where
  -- the first cell of some list stands at the position
  abbrev BeginsAt : ℕ × ℕ → Type 0
  BeginsAt p =
      (first_position values ≡ Some p)
      ⊎ ((first_position formulas ≡ Some p) ⊎ (first_position ids ≡ Some p))

  first_of_lists : (p : ℕ × ℕ) → AreInOrder values → AreInOrder formulas → AreInOrder ids →
      StandsUpTo p (first_position values) → StandsUpTo p (first_position formulas) →
      StandsUpTo p (first_position ids) → BeginsAt p → IsFirstOf values formulas ids p
  first_of_lists p in_values in_formulas in_ids upto_v upto_f upto_d begins =
      let sheet : (p.0 < MAX_ROWS) × (p.1 < MAX_COLUMNS) = elim begins [
        | inl of_values ↦ first_in_sheet p values in_values of_values
        | inr (inl of_formulas) ↦ first_in_sheet p formulas in_formulas of_formulas
        | inr (inr of_ids) ↦ first_in_sheet p ids in_ids of_ids
      ] in
      record {
        in_rows = sheet.0;
        in_columns = sheet.1;
        before_values = stands_first p values upto_v;
        before_formulas = stands_first p formulas upto_f;
        before_ids = stands_first p ids upto_d;
        is_used = elim begins [
          | inl of_values ↦ inl (first_is p values of_values)
          | inr (inl of_formulas) ↦ inr (inl (first_is p formulas of_formulas))
          | inr (inr of_ids) ↦ inr (inr (first_is p ids of_ids))
        ];
      }

  first_found : (behind result : Option (ℕ × ℕ)) → AreInOrder values → AreInOrder formulas →
      AreInOrder ids →
      MatchOption behind ((first_position formulas ≡ None) × (first_position ids ≡ None))
      (IsEarlier (first_position formulas) (first_position ids)) →
      MatchOption result ((first_position values ≡ None) × (behind ≡ None))
      (IsEarlier (first_position values) behind) →
      MatchOption result ((values ≡ []) × (formulas ≡ []) × (ids ≡ []))
      (IsFirstOf values formulas ids)
  first_found None None in_values in_formulas in_ids later own =
      (no_cell values own.0, no_cell formulas later.0, no_cell ids later.1)
  first_found (Some b) None in_values in_formulas in_ids later own = absurd (cc)
  first_found None (Some p) in_values in_formulas in_ids later own =
      let begins : BeginsAt p = elim own.is_one [
        | inl of_values ↦ inl of_values
        | inr none ↦ absurd (cc)
      ] in
      first_of_lists p in_values in_formulas in_ids own.before_one
      (subst (StandsUpTo p) (sym later.0) tt) (subst (StandsUpTo p) (sym later.1) tt) begins
  first_found (Some b) (Some p) in_values in_formulas in_ids later own =
      let begins : BeginsAt p = elim own.is_one [
        | inl of_values ↦ inl of_values
        | inr same ↦
            inr (subst (λ q. (first_position formulas ≡ Some q) ⊎ (first_position ids ≡ Some q))
            (ap (λ place. unwrap_or place b) same) later.is_one)
      ] in
      first_of_lists p in_values in_formulas in_ids own.before_one
      (stands_before p b (first_position formulas) own.before_other later.before_one)
      (stands_before p b (first_position ids) own.before_other later.before_other) begins

pub first_is_found : {X Y Z : Type 0}
    (values : List ((ℕ × ℕ) × X)) (formulas : List ((ℕ × ℕ) × Y))
    (ids : List ((ℕ × ℕ) × Z))
    (value formula id behind result : Option (ℕ × ℕ)) →
    value ≡ first_position values → formula ≡ first_position formulas → id ≡ first_position ids →
    AreInOrder values → AreInOrder formulas → AreInOrder ids →
    MatchOption behind ((formula ≡ None) × (id ≡ None)) (IsEarlier formula id) →
    MatchOption result ((value ≡ None) × (behind ≡ None)) (IsEarlier value behind) →
    MatchOption result ((values ≡ []) × (formulas ≡ []) × (ids ≡ []))
    (IsFirstOf values formulas ids)
first_is_found values formulas ids value formula id behind result is_v is_f is_d in_values
    in_formulas in_ids later own =
    first_found values formulas ids behind result in_values in_formulas in_ids
    (subst (λ f. MatchOption behind ((f ≡ None) × (first_position ids ≡ None))
    (IsEarlier f (first_position ids))) is_f
    (subst (λ d. MatchOption behind ((formula ≡ None) × (d ≡ None)) (IsEarlier formula d)) is_d
    later))
    (subst (λ v. MatchOption result ((v ≡ None) × (behind ≡ None)) (IsEarlier v behind)) is_v own)

-- ---- the styled positions

-- the next styled position comes after those before it
pub styled_after : (cells : List ((ℕ × ℕ) × ℕ)) (item : StyledCell) (left rest : List StyledCell)
    (whole : List ((ℕ × ℕ) × ℕ)) → left ≡ item ∷ rest → cells ++ map styled_entry left ≡ whole →
    is_rising whole ≡ true →
    comes_after position_cmp (last_key cells) (item.0, item.1) ≡ true
styled_after cells item left rest whole is same rising =
    after_sorted position_cmp cells (styled_entry item) (map styled_entry rest)
    (ap (λ es. is_rising (cells ++ map styled_entry es)) (sym is) ∙ (ap is_rising same ∙ rising))

-- styled positions that rise on a sheet are in order as entries
pub styled_order : (cells : List ((ℕ × ℕ) × ℕ)) (styled : List StyledCell) →
    cells ≡ map styled_entry styled → RiseOnSheet styled → AreInOrder cells
styled_order cells styled is rise = subst AreInOrder (sym is) (record {
  rising = rise.rising;
  sheet = All-map IsPlacedInSheet styled_entry styled rise.sheet;
})

-- each position has the style that its id names
pub by_ids : (form : LineForm) (styles : StyleMap) (values : List ((ℕ × ℕ) × CellValue))
    (formulas : List ((ℕ × ℕ) × List ℕ)) (ids : List ((ℕ × ℕ) × ℕ))
    → ((position : ℕ × ℕ) → style_named styles position (id_placed position ids)
    ≡ style_at styles position)
    → lines_in form (style_named styles) values formulas ids
    ≡ lines_in form (λ position id. style_at styles position) values formulas ids
unfolding lines_in
by_ids form styles values formulas ids named =
    ap (λ (style : ℕ × ℕ → Option Style). flat_map
    (λ position. line_in form position (value_placed position values)
    (formula_placed position formulas) (id_placed position ids) (style position))
    (used_positions values formulas ids)) (fun_ext named)

-- the lines as text are those of `lines_with`
pub as_text : (style : ℕ × ℕ → ℕ → Option Style) (values : List ((ℕ × ℕ) × CellValue))
    (formulas : List ((ℕ × ℕ) × List ℕ)) (ids : List ((ℕ × ℕ) × ℕ))
    → lines_in Text style values formulas ids ≡ lines_with style values formulas ids
unfolding lines_in lines_with
as_text style values formulas ids = refl
