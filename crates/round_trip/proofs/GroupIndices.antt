-- SharedFormulas at different positions have different indices, as an index counts the masters
-- before.
use Rattle.std.proofs.Common.{◌≡◌, ℕ, ◌<◌, ◌≤◌, Bool, true, false, cond, ◌&&◌, List, [], ◌∷◌}
use Rattle.std.proofs.Common.{length, Some, refl, sym, ap, ◌∙◌, arith}
use Rattle.std.specs.FinMap.{find}
use Rattle.std.specs.List.{filter}
use Rattle.std.specs.Ordering.{is_lt, eq_by_cmp, ordering_reverse}
use Rattle.std.specs.declared.cmp.Ordering.{Ordering}
use Rattle.std.specs.declared.cmp.Ordering.TheVariants.{Less, Equal, Greater}
use Rattle.cell_refs.specs.Words.{position_cmp}
use Rattle.cell_refs.proofs.PositionOrder.{position_total, position_same, tied_same, less_from}
use Rattle.xlsx_writer.specs.Words.{PlacedFormulas, formula_held, is_master, group_index}

-- a position stands behind none that is itself
not_below : (a p : ℕ × ℕ) → a ≡ p → is_lt (position_cmp p a) ≡ false
not_below a p same =
    ap (λ (q : ℕ × ℕ). is_lt (position_cmp q a)) (sym same) ∙ by (position_cmp a a) refl where
      by : (o : Ordering) → position_cmp a a ≡ o → is_lt (position_cmp a a) ≡ false
      by Less is =
          absurd (let e = position_total.antisymm a a in let f = ap ordering_reverse is in cc)
      by Equal is = ap is_lt is
      by Greater is = ap is_lt is

module _ (passes : ℕ × ℕ → Bool) where
  -- the formulas before a position that pass
  abbrev before : ℕ × ℕ → PlacedFormulas → PlacedFormulas
  before position entries =
      filter (λ entry. is_lt (position_cmp entry.0 position) && passes entry.0) entries

  -- one formula more: where it counts for the one it does for the other
  more : (entry : (ℕ × ℕ) × List ℕ) (t u v : Bool) (fewer others : PlacedFormulas) →
      (t ≡ true → u ≡ true) → length fewer ≤ length others →
      length (cond (t && v) (entry ∷ fewer) fewer) ≤ length (cond (u && v) (entry ∷ others) others)
  more entry true true true fewer others onward less = omega arith
  more entry true true false fewer others onward less = less
  more entry true false v fewer others onward less = absurd (let e = onward refl in cc)
  more entry false true true fewer others onward less = omega arith
  more entry false true false fewer others onward less = less
  more entry false false v fewer others onward less = less

  more_less : (entry : (ℕ × ℕ) × List ℕ) (t u v : Bool) (fewer others : PlacedFormulas) →
      (t ≡ true → u ≡ true) → length fewer < length others →
      length (cond (t && v) (entry ∷ fewer) fewer) < length (cond (u && v) (entry ∷ others) others)
  more_less entry true true true fewer others onward less = omega arith
  more_less entry true true false fewer others onward less = less
  more_less entry true false v fewer others onward less = absurd (let e = onward refl in cc)
  more_less entry false true true fewer others onward less = omega arith
  more_less entry false true false fewer others onward less = less
  more_less entry false false v fewer others onward less = less

  module _ (a b : ℕ × ℕ) (lower : position_cmp a b ≡ Less) where
    before_both : (p : ℕ × ℕ) → is_lt (position_cmp p a) ≡ true → is_lt (position_cmp p b) ≡ true
    before_both p first = ap is_lt (position_total.trans p a b (less_from _ first) lower)

    fewer_before : (entries : PlacedFormulas) → length (before a entries) ≤ length
        (before b entries)
    fewer_before [] = omega arith
    fewer_before (entry ∷ entries) =
        more entry (is_lt (position_cmp entry.0 a)) (is_lt (position_cmp entry.0 b))
        (passes entry.0) (before a entries) (before b entries) (before_both entry.0)
        (fewer_before entries)

    -- the position itself counts before the further one alone
    less_before : (entries : PlacedFormulas) (formula : List ℕ) →
        find position_cmp a entries ≡ Some formula → passes a ≡ true →
        length (before a entries) < length (before b entries)
    less_before [] formula found passed = absurd (cc)
    less_before (entry ∷ entries) formula found passed =
        at (eq_by_cmp position_cmp a entry.0) refl found (fewer_before entries)
        (λ (behind : find position_cmp a entries ≡ Some formula).
        less_before entries formula behind passed) where
          here : (t u v : Bool) → t ≡ false → u ≡ true → v ≡ true →
              length (before a entries) ≤ length (before b entries) →
              length (cond (t && v) (entry ∷ before a entries) (before a entries))
              < length (cond (u && v) (entry ∷ before b entries) (before b entries))
          here false true true t u v fewer = omega arith
          here true u v t e f fewer = absurd (cc)
          here false false v t e f fewer = absurd (cc)
          here false true false t e f fewer = absurd (cc)

          at : (t : Bool) → eq_by_cmp position_cmp a entry.0 ≡ t →
              cond t (Some entry.1) (find position_cmp a entries) ≡ Some formula →
              length (before a entries) ≤ length (before b entries) →
              (find position_cmp a entries ≡ Some formula →
              length (before a entries) < length (before b entries)) →
              length (before a (entry ∷ entries)) < length (before b (entry ∷ entries))
          at true ties found fewer further =
              let place = tied_same a entry.0 ties in
              here (is_lt (position_cmp entry.0 a)) (is_lt (position_cmp entry.0 b))
              (passes entry.0)
              (not_below a entry.0 place)
              (ap (λ (p : ℕ × ℕ). is_lt (position_cmp p b)) (sym place) ∙ ap is_lt lower)
              (ap passes (sym place) ∙ passed) fewer
          at false ties found fewer further =
              more_less entry (is_lt (position_cmp entry.0 a)) (is_lt (position_cmp entry.0 b))
              (passes entry.0) (before a entries) (before b entries) (before_both entry.0)
              (further found)

-- masters with one index are one
pub indices_differ : (formulas : PlacedFormulas) (a b : ℕ × ℕ) (one two : List ℕ) →
    formula_held formulas a ≡ Some one → formula_held formulas b ≡ Some two →
    is_master formulas a ≡ true → is_master formulas b ≡ true →
    group_index formulas a ≡ group_index formulas b → a ≡ b
indices_differ formulas a b one two first second own other same =
    by (position_cmp a b) refl where
      by : (o : Ordering) → position_cmp a b ≡ o → a ≡ b
      by Less is =
          let less = less_before (is_master formulas) a b is formulas one first own in
          absurd (omega arith)
      by Equal is = position_same a b is
      by Greater is =
          let lower : position_cmp b a ≡ Less =
          position_total.antisymm b a ∙ ap ordering_reverse is in
          let less = less_before (is_master formulas) b a lower formulas two second other in
          absurd (omega arith)
