-- What parts select, part by part.
use Rattle.std.proofs.Common.{◌≡◌, ℕ, zero, suc, ◌<◌, ◌≤◌, ◌==◌, true, false, cond, List, []}
use Rattle.std.proofs.Common.{length, drop, refl, sym, ap, ◌∙◌, subst, arith}
use Rattle.std.specs.Prelude.{Option, None, Some}
use Rattle.std.proofs.lemmas.List.{length-drop}
use Rattle.book_names.specs.declared.rows.RowSpan.{RowSpan}
use Rattle.book_names.specs.Book.{BookTable}
use Rattle.book_names.specs.Structured.{BracketPart, Selection, selected_within, first_part}
use Rattle.book_names.specs.Structured.{begins_with_byte, behind_rows, rows_and, rows_with, rows_of}
use Rattle.book_names.specs.Structured.{columns_from}

-- behind rows that are selected the rest of the parts selects what the whole does
pub record Selects (t : BookTable) (row : ℕ) (rows : RowSpan) (rest : List ℕ)
    (whole : Option Selection) : Type 0 where
  pub turns : ℕ
  pub enough : length rest < turns
  pub same : selected_within t row turns rows (first_part rest) ≡ whole

-- what a part selects, with those behind it
abbrev by_part : BookTable → ℕ → ℕ → RowSpan → BracketPart → Option Selection
by_part t row turns rows part =
    cond (begins_with_byte 35 part.text)
    (behind_rows (selected_within t row turns) part.behind
    (rows_with t row rows (rows_of part.text))) (columns_from rows part)

-- a turn is taken
turn_none : (t : BookTable) (row turns : ℕ) (rows : RowSpan) →
    selected_within t row turns rows None ≡ None
unfolding selected_within
turn_none t row zero rows = refl
turn_none t row (suc turns) rows = refl

turn_part : (t : BookTable) (row turns : ℕ) (rows : RowSpan) (part : BracketPart) →
    selected_within t row (suc turns) rows (Some part) ≡ by_part t row turns rows part
unfolding selected_within
turn_part t row turns rows part = refl

pub begun : (t : BookTable) (row : ℕ) (rows : RowSpan) (text : List ℕ) →
    Selects t row rows text (selected_within t row (suc (length text)) rows (first_part text))
begun t row rows text = record {
  turns = suc (length text);
  enough = omega arith;
  same = refl;
}

module _ (t : BookTable) (row : ℕ) (rows : RowSpan) (rest : List ℕ) (whole : Option Selection)
    (selects : Selects t row rows rest whole) where
  pub no_part : first_part rest ≡ None → None ≡ whole
  no_part none = sym (turn_none t row selects.turns rows)
      ∙ ap (selected_within t row selects.turns rows) (sym none) ∙ selects.same

  -- one turn less is left
  left : (turns : ℕ) × (selects.turns ≡ suc turns) × (length rest ≤ turns)
  left = by_turns selects.turns refl selects.enough where
    by_turns : (turns : ℕ) → selects.turns ≡ turns → length rest < turns →
        (less : ℕ) × (selects.turns ≡ suc less) × (length rest ≤ less)
    by_turns zero is enough = absurd (omega (arith, enough))
    by_turns (suc less) is enough = (less, is, omega (arith, enough))

  module _ (part : BracketPart) (is : first_part rest ≡ Some part) where
    turned : by_part t row left.0 rows part ≡ whole
    turned = sym (turn_part t row left.0 rows part)
        ∙ (λ i. selected_within t row (sym left.1 i) rows (sym is i)) ∙ selects.same

    pub by_columns : begins_with_byte 35 part.text ≡ false → columns_from rows part ≡ whole
    by_columns none = ap (λ b. cond b (behind_rows (selected_within t row left.0) part.behind
        (rows_with t row rows (rows_of part.text))) (columns_from rows part)) (sym none) ∙ turned

    by_rows : begins_with_byte 35 part.text ≡ true →
        behind_rows (selected_within t row left.0) part.behind
        (rows_with t row rows (rows_of part.text)) ≡ whole
    by_rows some = ap (λ b. cond b (behind_rows (selected_within t row left.0) part.behind
        (rows_with t row rows (rows_of part.text))) (columns_from rows part)) (sym some) ∙ turned

    pub no_rows : begins_with_byte 35 part.text ≡ true →
        rows_with t row rows (rows_of part.text) ≡ None → None ≡ whole
    no_rows some none =
        ap (behind_rows (selected_within t row left.0) part.behind) (sym none) ∙ by_rows some

    module _ (some : begins_with_byte 35 part.text ≡ true) (more : RowSpan)
        (with : rows_with t row rows (rows_of part.text) ≡ Some more) where
      behind : rows_and (selected_within t row left.0) more part.behind ≡ whole
      behind =
          ap (behind_rows (selected_within t row left.0) part.behind) (sym with) ∙ by_rows some

      pub rows_end : (length part.behind == 0) ≡ true →
          Some (record { rows = more; columns = [] }) ≡ whole
      rows_end end = ap (λ b. cond b (Some (record { rows = more; columns = [] }))
          (cond (begins_with_byte 44 part.behind)
          (selected_within t row left.0 more (first_part (drop 1 part.behind))) None)) (sym end)
          ∙ behind

      go_on : (length part.behind == 0) ≡ false →
          cond (begins_with_byte 44 part.behind)
          (selected_within t row left.0 more (first_part (drop 1 part.behind))) None ≡ whole
      go_on on = ap (λ b. cond b (Some (record { rows = more; columns = [] }))
          (cond (begins_with_byte 44 part.behind)
          (selected_within t row left.0 more (first_part (drop 1 part.behind))) None)) (sym on)
          ∙ behind

      pub no_comma : (length part.behind == 0) ≡ false → begins_with_byte 44 part.behind ≡ false →
          None ≡ whole
      no_comma on none = ap (λ b. cond b
          (selected_within t row left.0 more (first_part (drop 1 part.behind))) None) (sym none)
          ∙ go_on on

      pub next_part : (rest' : List ℕ) → rest' ≡ drop 1 part.behind →
          length part.behind < length rest →
          (length part.behind == 0) ≡ false → begins_with_byte 44 part.behind ≡ true →
          Selects t row more rest' whole
      next_part rest' rest_is shorter on comma =
          subst (λ r. Selects t row more r whole) (sym rest_is) (record {
            turns = left.0;
            enough = omega (arith, left.2, shorter, length-drop 1 part.behind);
            same = ap (λ b. cond b
                (selected_within t row left.0 more (first_part (drop 1 part.behind))) None)
                (sym comma) ∙ go_on on;
          })
