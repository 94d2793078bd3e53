-- What is read of a sheet can be written.
use Rattle.std.proofs.Common.{◌≡◌, ℕ, Bool, true, false, cond, ◌&&◌, List, [], ◌∷◌, ◌++◌, map, Some}
use Rattle.std.proofs.Common.{None, Option, length, refl, sym, ap, ◌∙◌, arith}
use Rattle.std.specs.Prelude.{◌==◌, ℤ, Result, Ok, Err, codes, not, reverse, option_map, is_some}
use Rattle.std.specs.Prelude.{slice_get, unwrap_or, string_bytes}
use Rattle.std.specs.List.{list_all}
use Rattle.std.proofs.lemmas.Bool.Decides.{nat_tests}
use Rattle.std.proofs.lemmas.List.{reverse-append}
use Rattle.std.specs.FinMap.{from_entries, entries, entries-insert}
use Rattle.std.specs.FinMap.Entries.{put, by_order}
use Rattle.std.specs.Str.{bytes_eq, trim, str_to_ascii_lowercase}
use Rattle.std.specs.declared.cmp.Ordering.{Ordering}
use Rattle.std.specs.declared.cmp.Ordering.TheVariants.{Less, Equal, Greater}
use Rattle.attr_text.specs.Words.{lookup}
use Rattle.attr_text.specs.declared.fault.AttrFault.{AttrFault}
use Rattle.cell_refs.specs.Words.{position_cmp, least_area, area_with}
use Rattle.cell_refs.specs.Positions.{last_of_each}
use Rattle.cell_refs.specs.declared.dimensions.Dimensions.{Dimensions}
use Rattle.cell_refs.proofs.PositionOrder.{position_total, and_both, and_from}
use Rattle.decimals.specs.Words.{decimal_of}
use Rattle.cell_data.specs.Words.{CellValue, nothing, integer, number, text, shared_text, truth}
use Rattle.cell_data.specs.Words.{time, iso_time, failure, value_of_data, with_meaning, pairs_by}
use Rattle.cell_data.specs.Words.{value_pairs, formula_pairs, cells_of, IsLeast}
use Rattle.cell_data.specs.declared.range.Range.{Range}
use Rattle.cell_data.specs.declared.value.HeaderRow.TheVariants.{FirstNonEmptyRow}
use Rattle.cell_styles.specs.Words.{StyleMap}
use Rattle.cell_data.specs.declared.format.CellFormat.{CellFormat}
use Rattle.cell_data.specs.declared.format.CellFormat.TheVariants as format
use Rattle.cell_data.specs.declared.value.CellErrorType.{CellErrorType}
use Rattle.cell_data.specs.declared.value.CellErrorType.TheVariants.{Div0, NA, Name, Null, Num, Ref}
use Rattle.cell_data.specs.declared.value.CellErrorType.TheVariants.{Value}
use Rattle.cell_data.proofs.Placing.{none_placed}
use Rattle.part_events.specs.Words.{Tag, Event, Part, children}
use Rattle.xlsx_sections.specs.Words.{last_answer, or_later, and_others, element_text, number_text}
use Rattle.xlsx_sections.specs.Words.{Refusal, plain, lacks_string, stray_child, answer_further}
use Rattle.xlsx_sections.specs.Words.{count_behind, inside_of}
use Rattle.xlsx_strings.specs.Strings.{string_of}
use Rattle.xlsx_values.specs.Words.{CellKind, untyped, of_number, of_shared, of_truth, of_error}
use Rattle.xlsx_values.specs.Words.{of_text, of_date, of_inline, of_unknown, kind_named, is_joined}
use Rattle.xlsx_values.specs.Words.{is_inline, ValueContext, number_value, formatted, or_no_number}
use Rattle.xlsx_values.specs.Words.{shared_value, truth_value, trimmed_truth, or_wrong_truth}
use Rattle.xlsx_values.specs.Words.{lower_truth, error_value, or_wrong_error, value_of_first}
use Rattle.xlsx_values.specs.Words.{value_of_joined, of_first, of_joined, first_text}
use Rattle.xlsx_values.specs.Words.{first_event_value, joined_value, counted_value, some_value}
use Rattle.xlsx_values.specs.Words.{inline_value, is_child, said_value, child_value, or_nothing}
use Rattle.xlsx_values.specs.Words.{value_in, format_of, looked_value, cell_value, string_at}
use Rattle.xlsx_values.specs.Words.{resolved}
use Rattle.xlsx_cells.specs.Words.{Mark, row_start, row_end, cell, marks, row_named, cell_position}
use Rattle.xlsx_cells.specs.Words.{behind_row, answers_from, at_position, placed_value, values_in}
use Rattle.xlsx_cells.specs.Words.{is_nothing, used_values, with_texts, is_empty, used_formulas}
use Rattle.xlsx_cells.specs.Words.{formulas_along}
use Rattle.xlsx_core.specs.Words.{ReadsAs, opened_context, IsRangeOf, HasLeastRanges}
use Rattle.xlsx_core.specs.declared.sheet_reading.SheetReading.{SheetReading}
use Rattle.xlsx_writer.specs.Words.{PlacedFormulas, is_decimal, is_kept, is_writable_value}
use Rattle.xlsx_writer.specs.Words.{counts_from, have_one_epoch, are_writable_values}
use Rattle.xlsx_writer.specs.Words.{are_writable_formulas, IsWritable, PlacedValues}
use Rattle.xlsx_writer.proofs.DecimalsRead.{decimal_is_read}

-- ---- one value

-- a value that can be read of a cell, where times count from this first year
abbrev is_read : Bool → CellValue → Bool
is_read epoch nothing = true
is_read epoch (shared_text place) = true
is_read epoch (integer n) = false
is_read epoch (number n) = is_decimal n
is_read epoch (text bytes) = true
is_read epoch (truth holds) = true
is_read epoch (time days kind own) = is_decimal days && counts_from epoch (time days kind own)
is_read epoch (iso_time bytes) = true
is_read epoch (failure error) = is_kept error

-- an answer that isn't refused passes
abbrev passes_if : {A : Type 0} → (A → Bool) → Result A Refusal → Bool
passes_if passes (Ok a) = passes a
passes_if passes (Err refusal) = true

-- and one that may say nothing
abbrev passes_some : {A : Type 0} → (A → Bool) → Result (Option A) Refusal → Bool
passes_some passes (Ok (Some a)) = passes a
passes_some passes (Ok None) = true
passes_some passes (Err refusal) = true

further_some : {A : Type 0} (passes : A → Bool) (more : ℕ) (r : Result (Option A) Refusal) →
    passes_some passes r ≡ true → passes_some passes (answer_further more r) ≡ true
further_some passes more (Ok (Some a)) is = is
further_some passes more (Ok None) is = refl
further_some passes more (Err refusal) is = refl

later_passes : {A : Type 0} (passes : A → Bool) (one two : Result (Option A) Refusal) →
    passes_some passes one ≡ true → passes_some passes two ≡ true →
    passes_some passes (or_later one two) ≡ true
later_passes passes (Ok o) (Ok (Some b)) is also = also
later_passes passes (Ok o) (Ok None) is also = is
later_passes passes (Ok o) (Err refusal) is also = refl
later_passes passes (Err refusal) two is also = refl

last_passes : {X A : Type 0} (passes : A → Bool) (answer : X → Result (Option A) Refusal)
    (xs : List X) → ((x : X) → passes_some passes (answer x) ≡ true) →
    passes_some passes (last_answer answer xs) ≡ true
last_passes passes answer [] each = refl
last_passes passes answer (x ∷ xs) each =
    later_passes passes (answer x) (last_answer answer xs) (each x)
    (last_passes passes answer xs each)

module _ (context : ValueContext) where
  -- a value can be read of a cell of this workbook
  abbrev can_be : CellValue → Bool
  can_be value = is_read context.is_1904 value

  counts_itself : (epoch : Bool) (days : ℤ × ℤ) (kind : _) →
      counts_from epoch (time days kind epoch) ≡ true
  counts_itself true days kind = refl
  counts_itself false days kind = refl

  formatted_passes : (own : CellFormat) (n : ℤ × ℤ) → is_decimal n ≡ true →
      can_be (formatted context.is_1904 own n) ≡ true
  formatted_passes format.Other n is = is
  formatted_passes format.DateTime n is =
      and_from _ _ is (counts_itself context.is_1904 n _)
  formatted_passes format.TimeDelta n is =
      and_from _ _ is (counts_itself context.is_1904 n _)

  number_passes : (own : CellFormat) (typed : Bool) (written : List ℕ) →
      passes_if can_be (number_value context.is_1904 own typed written) ≡ true
  number_passes own typed [] = refl
  number_passes own typed (b ∷ bs) = by (decimal_of (b ∷ bs)) refl typed where
    by : (o : Option (ℤ × ℤ)) → decimal_of (b ∷ bs) ≡ o → (t : Bool) →
        passes_if can_be (or_no_number t (b ∷ bs)
        (option_map (formatted context.is_1904 own) o)) ≡ true
    by (Some n) is t = formatted_passes own n (decimal_is_read (b ∷ bs) n is)
    by None is true = refl
    by None is false = refl

  shared_passes : (strings : List (List ℕ)) (written : List ℕ) →
      passes_if can_be (shared_value strings written) ≡ true
  shared_passes strings [] = refl
  shared_passes strings (b ∷ bs) =
      at (unwrap_or (number_text (b ∷ bs)) 0) where
        at : (place : ℕ) → passes_if can_be (string_at strings place) ≡ true
        at place = by (is_some (slice_get strings place)) where
          by : (t : Bool) → passes_if can_be (cond t (Ok (shared_text place))
              (Err (plain lacks_string))) ≡ true
          by true = refl
          by false = refl

  truth_passes : (written : List ℕ) → passes_if can_be (truth_value written) ≡ true
  truth_passes written = by (trim written) where
    told : (o : Option Bool) → passes_if can_be (or_wrong_truth written o) ≡ true
    told None = refl
    told (Some holds) = refl

    by : (trimmed : List ℕ) → passes_if can_be (trimmed_truth written trimmed) ≡ true
    by [] = refl
    by (b ∷ bs) = told (lower_truth (str_to_ascii_lowercase (b ∷ bs)))

  -- an error that a text names, where one of these tests says so, or a later one
  error_or : (written : List ℕ) (t : Bool) (own : CellErrorType) (o : Option CellErrorType) →
      is_kept own ≡ true → passes_if can_be (or_wrong_error written o) ≡ true →
      passes_if can_be (or_wrong_error written (cond t (Some own) o)) ≡ true
  error_or written true own o kept others = kept
  error_or written false own o kept others = others

  error_passes : (written : List ℕ) → passes_if can_be (error_value written) ≡ true
  error_passes written =
      error_or written (bytes_eq written (codes "#DIV/0!")) Div0 _ refl
      (error_or written (bytes_eq written (codes "#N/A")) NA _ refl
      (error_or written (bytes_eq written (codes "#NAME?")) Name _ refl
      (error_or written (bytes_eq written (codes "#NULL!")) Null _ refl
      (error_or written (bytes_eq written (codes "#NUM!")) Num _ refl
      (error_or written (bytes_eq written (codes "#REF!")) Ref _ refl
      (error_or written (bytes_eq written (codes "#VALUE!")) Value None refl refl))))))

  first_passes : (own : CellFormat) (kind : CellKind) (written : List ℕ) →
      passes_if can_be (value_of_first context own kind written) ≡ true
  first_passes own untyped written = number_passes own false written
  first_passes own of_number written = number_passes own true written
  first_passes own of_shared written = shared_passes context.strings written
  first_passes own of_truth written = truth_passes written
  first_passes own of_error written = error_passes written
  first_passes own of_text written = refl
  first_passes own of_date written = refl
  first_passes own of_inline written = refl
  first_passes own (of_unknown typ) written = refl

  joined_passes : (kind : CellKind) (written : List ℕ) →
      passes_if can_be (value_of_joined kind written) ≡ true
  joined_passes untyped written = refl
  joined_passes of_number written = refl
  joined_passes of_shared written = refl
  joined_passes of_truth written = refl
  joined_passes of_error written = refl
  joined_passes of_text written = refl
  joined_passes of_date written = refl
  joined_passes of_inline written = refl
  joined_passes (of_unknown typ) written = refl

  counted_passes : (own : CellFormat) (kind : CellKind) (inside : List Event) →
      passes_if can_be (counted_value context own kind inside) ≡ true
  counted_passes own kind inside = by (is_joined kind) where
    joined : (r : Result (List ℕ) Refusal) →
        passes_if can_be (of_joined (value_of_joined kind) r) ≡ true
    joined (Ok written) = joined_passes kind written
    joined (Err refusal) = refl

    first : (o : Option (List ℕ)) →
        passes_if can_be (of_first (value_of_first context own kind) o) ≡ true
    first None = refl
    first (Some written) = first_passes own kind written

    by : (t : Bool) → passes_if can_be (cond t (joined_value kind inside)
        (first_event_value context own kind inside)) ≡ true
    by true = joined (element_text false inside)
    by false = first (first_text inside)

  some_passes : (r : Result CellValue Refusal) → passes_if can_be r ≡ true →
      passes_some can_be (some_value r) ≡ true
  some_passes (Ok value) is = is
  some_passes (Err refusal) is = refl

  inline_passes : (inside : List Event) → passes_if can_be (inline_value inside) ≡ true
  inline_passes inside = by (string_of inside) where
    by : (r : Result (List ℕ) Refusal) →
        passes_if can_be (of_joined (λ (written : List ℕ). Ok (text written)) r) ≡ true
    by (Ok written) = refl
    by (Err refusal) = refl

  said_passes : (own : CellFormat) (kind : CellKind) (tag : Tag) (inside : List Event) →
      passes_some can_be (said_value context own kind tag inside) ≡ true
  said_passes own kind tag inside =
      by (is_child (codes "f") tag) (is_child (codes "v") tag) (is_child (codes "is") tag)
      (is_inline kind) where
        by : (f v is inline : Bool) → passes_some can_be (cond f (Ok None) (cond v
            (cond inline (Ok None) (some_value (counted_value context own kind inside)))
            (cond is (some_value (inline_value inside)) (Err (plain stray_child))))) ≡ true
        by true v is inline = refl
        by false true is true = refl
        by false true is false =
            some_passes (counted_value context own kind inside) (counted_passes own kind inside)
        by false false true inline = some_passes (inline_value inside) (inline_passes inside)
        by false false false inline = refl

  value_passes : (own : CellFormat) (kind : CellKind) (inside : List Event) →
      passes_if can_be (value_in context own kind inside) ≡ true
  value_passes own kind inside =
      by (last_answer (child_value context own kind) (children inside))
      (last_passes can_be (child_value context own kind) (children inside)
      (λ child. further_some can_be (count_behind child)
      (said_value context own kind child.tag child.inside)
      (said_passes own kind child.tag child.inside))) where
        by : (r : Result (Option CellValue) Refusal) → passes_some can_be r ≡ true →
            passes_if can_be (or_nothing r) ≡ true
        by (Ok (Some value)) is = is
        by (Ok None) is = refl
        by (Err refusal) is = refl

  pub cell_passes : (tag : Tag) (inside : List Event) →
      passes_if can_be (cell_value context tag inside) ≡ true
  cell_passes tag inside =
      by (lookup (codes "r" ∷ codes "s" ∷ codes "t" ∷ []) tag.attributes) where
        by : (r : Result (List (Option (List ℕ))) AttrFault) →
            passes_if can_be (looked_value context inside r) ≡ true
        by (Err fault) = refl
        by (Ok []) = refl
        by (Ok (a ∷ [])) = refl
        by (Ok (a ∷ b ∷ [])) = refl
        by (Ok (a ∷ b ∷ c ∷ [])) =
            value_passes (format_of context.formats b) (kind_named c) inside
        by (Ok (a ∷ b ∷ c ∷ d ∷ values)) = refl

  -- ---- the values of a sheet

  -- each value of a list can be read
  abbrev can_be_all : PlacedValues → Bool
  can_be_all values = list_all (λ entry. can_be entry.1) values

  marks_pass : (before rest : List Mark) →
      passes_if can_be_all (answers_from (placed_value context) before rest) ≡ true
  marks_pass before [] = refl
  marks_pass before (row_start tag ∷ rest) =
      by (row_named tag) (answers_from (placed_value context) (row_start tag ∷ before) rest)
      (marks_pass (row_start tag ∷ before) rest) where
        by : (row : Result (Option ℕ) Refusal) (others : Result PlacedValues Refusal) →
            passes_if can_be_all others ≡ true → passes_if can_be_all (behind_row row others) ≡ true
        by (Ok row) others is = is
        by (Err refusal) others is = refl
  marks_pass before (row_end ∷ rest) = marks_pass (row_end ∷ before) rest
  marks_pass before (cell element ∷ rest) =
      both (cell_position before element.tag) (cell_value context element.tag element.inside)
      (answers_from (placed_value context) (cell element ∷ before) rest)
      (cell_passes element.tag element.inside) (marks_pass (cell element ∷ before) rest) where
        both : (place : Result (ℕ × ℕ) Refusal) (value : Result CellValue Refusal)
            (others : Result PlacedValues Refusal) → passes_if can_be value ≡ true →
            passes_if can_be_all others ≡ true →
            passes_if can_be_all (and_others (at_position place
            (answer_further (count_behind element) value)) others) ≡ true
        both (Ok p) (Ok v) (Ok vs) is all = and_from _ _ is all
        both (Ok p) (Ok v) (Err refusal) is all = refl
        both (Ok p) (Err refusal) others is all = refl
        both (Err refusal) (Ok v) others is all = refl
        both (Err refusal) (Err other) others is all = refl

  pub values_can_be : (inside : List Event) (all : PlacedValues) →
      values_in context inside ≡ Ok all → can_be_all all ≡ true
  values_can_be inside all is =
      ap (passes_if can_be_all) (sym is) ∙ marks_pass [] (marks inside)

  -- a value that can be written, and counts from the first year
  abbrev is_well : CellValue → Bool
  is_well value = is_writable_value value && counts_from context.is_1904 value

  counts_other : (value : CellValue) → is_read context.is_1904 value ≡ true →
      is_nothing value ≡ false → is_well (resolved context.strings value) ≡ true
  counts_other value is some = by context.is_1904 value is some where
    by : (epoch : Bool) (v : CellValue) → is_read epoch v ≡ true → is_nothing v ≡ false →
        (is_writable_value (resolved context.strings v)
        && counts_from epoch (resolved context.strings v))
        ≡ true
    by epoch nothing is some = absurd (cc)
    by epoch (integer n) is some = absurd (cc)
    by true (number n) is some = and_from _ _ is refl
    by false (number n) is some = and_from _ _ is refl
    by true (text bytes) is some = refl
    by false (text bytes) is some = refl
    by true (shared_text place) is some = refl
    by false (shared_text place) is some = refl
    by true (truth holds) is some = refl
    by false (truth holds) is some = refl
    by epoch (time days kind own) is some = is
    by true (iso_time bytes) is some = refl
    by false (iso_time bytes) is some = refl
    by true (failure error) is some = and_from _ _ is refl
    by false (failure error) is some = and_from _ _ is refl

  used_well : (all : PlacedValues) → can_be_all all ≡ true →
      list_all (λ entry. is_well entry.1) (with_texts context.strings (used_values all)) ≡ true
  used_well [] is = refl
  used_well (entry ∷ all) is =
      let (first, rest) = and_both (can_be entry.1) (can_be_all all) is in
      by (is_nothing entry.1) refl first (used_well all rest) where
        by : (t : Bool) → is_nothing entry.1 ≡ t → can_be entry.1 ≡ true →
            list_all (λ e. is_well e.1) (with_texts context.strings (used_values all)) ≡ true →
            list_all (λ e. is_well e.1) (with_texts context.strings
            (cond t (used_values all) (entry ∷ used_values all))) ≡ true
        by true none first rest = rest
        by false none first rest = and_from _ _ (counts_other entry.1 first none) rest

-- ---- the last of each position

module _ {X : Type 0} (passes : X → Bool) where
  -- what stands at each position passes
  abbrev all_pass : List ((ℕ × ℕ) × X) → Bool
  all_pass es = list_all (λ e. passes e.1) es

  put_passes : (k : ℕ × ℕ) (v : X) (es : List ((ℕ × ℕ) × X)) → passes v ≡ true →
      all_pass es ≡ true → all_pass (put position_cmp k v es) ≡ true
  put_passes k v [] here others = and_from _ _ here refl
  put_passes k v (e ∷ es) here others =
      let (first, rest) = and_both (passes e.1) (all_pass es) others in
      by (position_cmp k e.0) first rest (put_passes k v es here rest) where
        by : (o : Ordering) → passes e.1 ≡ true → all_pass es ≡ true →
            all_pass (put position_cmp k v es) ≡ true →
            all_pass (by_order o ((k, v) ∷ e ∷ es) ((e.0, v) ∷ es) (e ∷ put position_cmp k v es))
            ≡ true
        by Less first rest further = and_from _ _ here (and_from _ _ first rest)
        by Equal first rest further = and_from _ _ here rest
        by Greater first rest further = and_from _ _ first further

  map_passes : (es : List ((ℕ × ℕ) × X)) → all_pass es ≡ true →
      all_pass (entries (from_entries {R = position_cmp} es)) ≡ true
  map_passes [] all = ap all_pass none_placed
  map_passes (e ∷ es) all =
      let (first, rest) = and_both (passes e.1) (all_pass es) all in
      ap all_pass (entries-insert position_total (from_entries {R = position_cmp} es) e.0 e.1)
      ∙ put_passes e.0 e.1 (entries (from_entries {R = position_cmp} es)) first
      (map_passes es rest)

  appended : (es fs : List ((ℕ × ℕ) × X)) → all_pass es ≡ true → all_pass fs ≡ true →
      all_pass (es ++ fs) ≡ true
  appended [] fs one two = two
  appended (e ∷ es) fs one two =
      let (first, rest) = and_both (passes e.1) (all_pass es) one in
      and_from _ _ first (appended es fs rest two)

  reversed : (es : List ((ℕ × ℕ) × X)) → all_pass es ≡ true → all_pass (reverse es) ≡ true
  reversed [] all = refl
  reversed (e ∷ es) all =
      let (first, rest) = and_both (passes e.1) (all_pass es) all in
      ap all_pass (reverse-append (e ∷ []) es)
      ∙ appended (reverse es) (e ∷ []) (reversed es rest) (and_from _ _ first refl)

  pub last_pass : (es : List ((ℕ × ℕ) × X)) → all_pass es ≡ true →
      all_pass (last_of_each es) ≡ true
  unfolding last_of_each
  last_pass es all = map_passes (reverse es) (reversed es all)

-- ---- what is read

both_lists : {X : Type 0} (p q : X → Bool) (es : List X) →
    list_all (λ e. p e && q e) es ≡ true → (list_all p es ≡ true) × (list_all q es ≡ true)
both_lists p q [] all = (refl, refl)
both_lists p q (e ∷ es) all =
    let (first, rest) = and_both (p e && q e) (list_all (λ d. p d && q d) es) all in
    let (one, two) = and_both (p e) (q e) first in
    let others = both_lists p q es rest in
    (and_from _ _ one others.0, and_from _ _ two others.1)

one_epoch : (epoch : Bool) (values : PlacedValues) →
    list_all (λ e. counts_from epoch e.1) values ≡ true → have_one_epoch values ≡ true
one_epoch true values all =
    ap (λ (t : Bool). cond t true (list_all (λ e. counts_from false e.1) values)) all
one_epoch false values all = by (list_all (λ e. counts_from true e.1) values) where
  by : (t : Bool) → cond t true (list_all (λ e. counts_from false e.1) values) ≡ true
  by true = refl
  by false = all

-- the values that are read of a sheet can be written
pub values_writable : (context : ValueContext) (inside : List Event) (all : PlacedValues) →
    values_in context inside ≡ Ok all →
    are_writable_values (last_of_each (with_texts context.strings (used_values all))) ≡ true
values_writable context inside all is =
    let es : PlacedValues = last_of_each (with_texts context.strings (used_values all)) in
    let parts = both_lists (λ (e : (ℕ × ℕ) × CellValue). is_writable_value e.1)
    (λ (e : (ℕ × ℕ) × CellValue). counts_from context.is_1904 e.1) es
    (last_pass (is_well context) (with_texts context.strings (used_values all))
    (used_well context all (values_can_be context inside all is))) in
    and_from (list_all (λ e. is_writable_value e.1) es) (have_one_epoch es) parts.0
    (one_epoch context.is_1904 es parts.1)

-- and so can its formulas
pub formulas_writable : (all : PlacedFormulas) →
    are_writable_formulas (last_of_each (used_formulas all)) ≡ true
formulas_writable all =
    last_pass (λ (formula : List ℕ). not (length formula == 0)) (used_formulas all)
    (used all) where
      full : (formula : List ℕ) → is_empty formula ≡ false → not (length formula == 0) ≡ true
      full [] some = absurd (cc)
      full (b ∷ bs) some = grind (arith, nat_tests)

      used : (all : PlacedFormulas) → are_writable_formulas (used_formulas all) ≡ true
      used [] = refl
      used (entry ∷ all) = by (is_empty entry.1) refl (used all) where
        by : (t : Bool) → is_empty entry.1 ≡ t → are_writable_formulas (used_formulas all) ≡ true →
            are_writable_formulas (cond t (used_formulas all) (entry ∷ used_formulas all)) ≡ true
        by true none rest = rest
        by false some rest = and_from _ _ (full entry.1 some) rest

-- ---- the ranges of a sheet

-- the area of what is meant by cells is the area of the cells
least_meant : {X Y : Type 0} (meaning : X → Y) (es : List ((ℕ × ℕ) × X)) →
    least_area (map (with_meaning meaning) es) ≡ least_area es
least_meant meaning [] = refl
least_meant meaning (e ∷ es) =
    ap (λ (area : Option Dimensions). Some (area_with e.0 area)) (least_meant meaning es)

least_range : {X Y : Type 0} (meaning : X → Y) (other : Y) (range : Range X) →
    IsRangeOf meaning FirstNonEmptyRow (pairs_by meaning range) other range → IsLeast range
least_range meaning other range is = is.bounds ∙ least_meant meaning (cells_of range)

-- the values and the formulas that are read of a sheet can be written
pub reads_writable : {parts : List Part} {name : List ℕ} {values : PlacedValues}
    {formulas : PlacedFormulas} {styles : StyleMap} → ReadsAs parts name values formulas styles →
    (are_writable_values values ≡ true) × (are_writable_formulas formulas ≡ true)
reads_writable reads = (
  ap are_writable_values reads.holds.valued
      ∙ values_writable (opened_context reads.opening) (inside_of reads.holds.sheet.section)
      reads.holds.all reads.holds.sheet.valued,
  ap are_writable_formulas reads.holds.listed
      ∙ formulas_writable (formulas_along [] reads.holds.written),
)

-- and so can the ranges that are read
pub found_writable : (parts : List Part) (name : List ℕ) (styles : StyleMap)
    (found : SheetReading) →
    ReadsAs parts name (value_pairs found.values) (formula_pairs found.formulas) styles →
    HasLeastRanges found → IsWritable found.values found.formulas
found_writable parts name styles found reads least =
    let kept = reads_writable reads in
    record {
      values_least = least_range value_of_data nothing found.values least.0;
      formulas_least = least_range string_bytes [] found.formulas least.1;
      values_kept = kept.0;
      formulas_kept = kept.1;
    }
