-- The last row of each group, found along the formulas.
use Rattle.std.proofs.Common.{◌≡◌, ◌≢◌, ℕ, suc, ◌+◌, ◌<◌, ◌≤◌, Bool, true, false, cond, List, []}
use Rattle.std.proofs.Common.{◌∷◌, ◌++◌, length, get_or, set, take, refl, sym, ap, ◌∙◌, arith, inl}
use Rattle.std.proofs.Common.{inr, length-append, get_or-set_other, get_or-set_same}
use Rattle.std.specs.Prelude.{map, slice_index}
use Rattle.std.specs.List.{filter}
use Rattle.std.proofs.lemmas.Bool.{cases_lt, cases_eq}
use Rattle.std.proofs.lemmas.List.{take_more, length-set, length-take-le, get_or-take}
use Rattle.std.proofs.Math.ListN.{get_or-append}
use Rattle.std.proofs.Math.Seq.{get_or-append_seam, take-length}
use Rattle.cell_refs.specs.Words.{is_rising}
use Rattle.cell_refs.specs.declared.TheConstants.{MAX_ROWS}
use Rattle.cell_data.specs.Words.{AreInSheet}
use Rattle.xlsx_writer.specs.Groups.{PlacedFormulas, is_same_position, group_head, group_end}
use Rattle.xlsx_writer.specs.Groups.{last_group_row}
use Rattle.xlsx_writer.specs.Grouping.{formula_at_place, AreHeads}
use Rattle.xlsx_writer.proofs.Places.{one_place}
use Rattle.xlsx_writer.proofs.Heads.{same_from, same_to}

-- positions that differ are not one
pub same_apart : (a b : ℕ × ℕ) → a ≢ b → is_same_position a b ≡ false
same_apart a b apart = by (is_same_position a b) refl
  where
    by : (test : Bool) → is_same_position a b ≡ test → test ≡ false
    by true same = absurd (apart (same_from a b same))
    by false same = refl

module _ (F : PlacedFormulas) where
  -- the row of the last of some formulas that have this head, or the head's own row
  abbrev pub end_among : PlacedFormulas → ℕ × ℕ → ℕ
  end_among some q =
      last_group_row q.0 (map (λ entry. entry.0.0)
      (filter (λ entry. is_same_position (group_head F entry.0) q) some))

  module _ (q : ℕ × ℕ) where
    abbrev rows_led : PlacedFormulas → List ℕ
    rows_led some =
        map (λ entry. entry.0.0) (filter (λ entry. is_same_position (group_head F entry.0) q) some)

    more_from : (e : (ℕ × ℕ) × List ℕ) (some : PlacedFormulas) (row : ℕ) →
        last_group_row row (rows_led (some ++ e ∷ []))
        ≡ cond (is_same_position (group_head F e.0) q) e.0.0 (last_group_row row (rows_led some))
    more_from e [] row = by (is_same_position (group_head F e.0) q)
      where
        by : (test : Bool) →
            last_group_row row (map (λ entry. entry.0.0) (cond test (e ∷ []) []))
            ≡ cond test e.0.0 row
        by true = refl
        by false = refl
    more_from e (y ∷ some) row =
        by (is_same_position (group_head F y.0) q) (more_from e some y.0.0) (more_from e some row)
      where
        by : (test : Bool) →
            last_group_row y.0.0 (rows_led (some ++ e ∷ []))
            ≡ cond (is_same_position (group_head F e.0) q) e.0.0 (last_group_row y.0.0
            (rows_led some)) →
            last_group_row row (rows_led (some ++ e ∷ []))
            ≡ cond (is_same_position (group_head F e.0) q) e.0.0 (last_group_row row
            (rows_led some)) →
            last_group_row row (map (λ entry. entry.0.0) (cond test
            (y ∷ filter (λ entry. is_same_position (group_head F entry.0) q) (some ++ e ∷ []))
            (filter (λ entry. is_same_position (group_head F entry.0) q) (some ++ e ∷ []))))
            ≡ cond (is_same_position (group_head F e.0) q) e.0.0
            (last_group_row row (map (λ entry. entry.0.0) (cond test
            (y ∷ filter (λ entry. is_same_position (group_head F entry.0) q) some)
            (filter (λ entry. is_same_position (group_head F entry.0) q) some))))
        by true own other = own
        by false own other = other

    -- where none of them has this head, there is no row
    none_led : (some : PlacedFormulas) (d : (ℕ × ℕ) × List ℕ) →
        ((j : ℕ) → j < length some → group_head F (get_or some j d).0 ≢ q) → rows_led some ≡ []
    none_led [] d apart = refl
    none_led (y ∷ some) d apart =
        ap (λ (test : Bool). map (λ entry. entry.0.0) (cond test
        (y ∷ filter (λ entry. is_same_position (group_head F entry.0) q) some)
        (filter (λ entry. is_same_position (group_head F entry.0) q) some)))
        (same_apart (group_head F y.0) q (apart 0 (omega arith)))
        ∙ none_led some d (λ j inside. apart (suc j) (omega arith))

  end_more : (some : PlacedFormulas) (e : (ℕ × ℕ) × List ℕ) (q : ℕ × ℕ) →
      end_among (some ++ e ∷ []) q
      ≡ cond (is_same_position (group_head F e.0) q) e.0.0 (end_among some q)
  end_more some e q = more_from q e some q.0

  -- at the next formula the last rows of those before it and its own are known
  abbrev pub AreLastOf : ℕ → List ℕ → Type 0
  AreLastOf i rows =
      (length rows ≡ i)
      × ((k : ℕ) → k < i → slice_index rows k ≡ end_among (take i F) (formula_at_place F k).0)

  module _ (H : List ℕ) (rising : is_rising F ≡ true) (heads : AreHeads F H)
      (count : length H ≡ length F) where
    head_at : (k : ℕ) → k < length F →
        (slice_index H k ≤ k) × ((formula_at_place F (slice_index H k)).0
        ≡ group_head F (formula_at_place F k).0)
    head_at k inside =
        (heads.up_to k (omega (arith, count)), heads.head k (omega (arith, count)))

    -- a formula that is at another place than the head isn't the head
    pub not_led : (i k : ℕ) → i < length F → k < length F → k ≢ slice_index H i →
        group_head F (formula_at_place F i).0 ≢ (formula_at_place F k).0
    not_led i k in_i in_k apart same =
        let head = head_at i in_i in
        let up = head.0 in
        apart (sym (one_place F (slice_index H i) k ((0, 0), []) rising (omega arith) in_k
        (head.1 ∙ same)))

    pub last_more : (i : ℕ) (rows : List ℕ) → i < length F → AreLastOf i rows →
        AreLastOf (i + 1)
        (set (rows ++ (formula_at_place F i).0.0 ∷ []) (slice_index H i) (formula_at_place F i).0.0)
    last_more i rows inside known =
        let own = (formula_at_place F i).0.0 in
        let h = slice_index H i in
        let head = head_at i inside in
        let up = head.0 in
        let pushed = length-append rows (own ∷ []) in
        let size = length-set (rows ++ own ∷ []) h own in
        let whole = take_more F i ((0, 0), []) inside in
        let count_front = length-take-le i F (omega arith) in (
          omega (arith, pushed, size, known.0),
          λ k before.
              let after : end_among (take (i + 1) F) (formula_at_place F k).0
              ≡ cond (is_same_position (group_head F (formula_at_place F i).0) (formula_at_place F
              k).0) own
              (end_among (take i F) (formula_at_place F k).0) =
              ap (λ (some : PlacedFormulas). end_among some (formula_at_place F k).0) whole
              ∙ end_more (take i F) (formula_at_place F i) (formula_at_place F k).0 in
              elim (cases_eq k h) [
                | inl here ↦
                    let led : is_same_position (group_head F (formula_at_place F i).0)
                    (formula_at_place F k).0 ≡ true =
                    same_to (group_head F (formula_at_place F i).0) (formula_at_place F k).0
                    (sym head.1 ∙ ap (λ (j : ℕ). (formula_at_place F j).0) (sym here)) in
                    ap (λ (j : ℕ). slice_index (set (rows ++ own ∷ []) h own) j) here
                    ∙ get_or-set_same (rows ++ own ∷ []) h own 0 (omega (arith, pushed, known.0))
                    ∙ sym (after ∙ ap (λ (test : Bool). cond test own
                    (end_among (take i F) (formula_at_place F k).0)) led)
                | inr other ↦
                    let led : is_same_position (group_head F (formula_at_place F i).0)
                    (formula_at_place F k).0 ≡ false =
                    same_apart (group_head F (formula_at_place F i).0) (formula_at_place F k).0
                    (not_led i k inside (omega arith) other) in
                    let kept = get_or-set_other (rows ++ own ∷ []) h k own 0 other in
                    let stays : end_among (take (i + 1) F) (formula_at_place F k).0
                    ≡ end_among (take i F) (formula_at_place F k).0 =
                    after ∙ ap (λ (test : Bool). cond test own
                    (end_among (take i F) (formula_at_place F k).0)) led in
                    elim (cases_lt k i) [
                      | inl earlier ↦
                          kept ∙ get_or-append rows (own ∷ []) 0 k (omega (arith, known.0))
                          ∙ known.1 k earlier ∙ sym stays
                      | inr last ↦
                          let here : k ≡ i = omega arith in
                          let at : k ≡ length rows = omega (arith, known.0) in
                          let none : rows_led (formula_at_place F k).0 (take i F) ≡ [] =
                          none_led (formula_at_place F k).0 (take i F) ((0, 0), [])
                          (λ j within same. not_led j k (omega (arith, count_front)) (omega arith)
                          (λ is. let up_to = (head_at j (omega (arith, count_front))).0 in
                          omega (arith, count_front, is))
                          (ap (λ (e : (ℕ × ℕ) × List ℕ). group_head F e.0)
                          (sym (get_or-take i F j ((0, 0), []) (omega (arith, count_front))))
                          ∙ same)) in
                          kept
                          ∙ ap (λ (j : ℕ). slice_index (rows ++ own ∷ []) j) at
                          ∙ get_or-append_seam rows own [] 0
                          ∙ ap (λ (j : ℕ). (formula_at_place F j).0.0) (sym here)
                          ∙ sym (stays ∙ ap (last_group_row (formula_at_place F k).0.0) none)
                    ]
              ],
        )

    -- those of all formulas are the last rows of their groups
    pub last_all : (i : ℕ) (rows : List ℕ) → i ≡ length F → AreLastOf i rows →
        (k : ℕ) → k < length F → slice_index rows k ≡ group_end F (formula_at_place F k).0
    last_all i rows all known k inside =
        known.1 k (omega arith)
        ∙ ap (λ (some : PlacedFormulas). end_among some (formula_at_place F k).0)
        (ap (λ (j : ℕ). take j F) all ∙ take-length F)

-- ---- on a sheet

module _ (F : PlacedFormulas) (q : ℕ × ℕ) where
  end_fits : (some : PlacedFormulas) (row : ℕ) → row < MAX_ROWS → AreInSheet some →
      last_group_row row (rows_led F q some) < MAX_ROWS
  end_fits [] row fits sheet = fits
  end_fits (y ∷ some) row fits sheet =
      by (is_same_position (group_head F y.0) q)
      (end_fits some y.0.0 (sheet 0 y (omega arith)).0
      (λ k d inside. sheet (suc k) d (omega arith)))
      (end_fits some row fits (λ k d inside. sheet (suc k) d (omega arith)))
    where
      by : (test : Bool) → last_group_row y.0.0 (rows_led F q some) < MAX_ROWS →
          last_group_row row (rows_led F q some) < MAX_ROWS →
          last_group_row row (map (λ entry. entry.0.0) (cond test
          (y ∷ filter (λ entry. is_same_position (group_head F entry.0) q) some)
          (filter (λ entry. is_same_position (group_head F entry.0) q) some))) < MAX_ROWS
      by true own other = own
      by false own other = other

-- the last row of a group stands on the sheet
pub end_in_sheet : (F : PlacedFormulas) (k : ℕ) → AreInSheet F → k < length F →
    group_end F (formula_at_place F k).0 < MAX_ROWS
end_in_sheet F k sheet inside =
    end_fits F (formula_at_place F k).0 F (formula_at_place F k).0.0 (sheet k ((0, 0), [])
    inside).0 sheet
