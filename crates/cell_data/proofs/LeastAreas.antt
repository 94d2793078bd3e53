-- The least area of cells takes their positions in any order, and as often as they come.
use Rattle.std.proofs.Common.{◌≡◌, ℕ, List, [], ◌∷◌, ◌++◌, Option, Some, None, refl, sym, ◌∙◌, ap}
use Rattle.std.proofs.Common.{arith}
use Rattle.std.specs.Prelude.{reverse}
use Rattle.std.specs.declared.cmp.Ordering.{Ordering}
use Rattle.std.specs.declared.cmp.Ordering.TheVariants.{Less, Equal, Greater}
use Rattle.std.specs.FinMap.{from_entries, entries, put, entries-insert}
use Rattle.std.specs.FinMap.Entries.{by_order}
use Rattle.std.proofs.lemmas.List.{reverse-append}
use Rattle.cell_refs.specs.declared.dimensions.Dimensions.{Dimensions}
use Rattle.cell_refs.specs.Words.{position_cmp, least_area, area_with}
use Rattle.cell_refs.specs.Positions.{last_of_each}
use Rattle.cell_refs.proofs.PositionOrder.{position_total, position_same}
use Rattle.cell_data.proofs.Placing.{none_placed}

abbrev area_from_to : ℕ × ℕ → ℕ × ℕ → Option Dimensions
area_from_to first last = Some (record { start = first; end = last })

same_corners : (a b c d e f g h : ℕ) → a ≡ e → b ≡ f → c ≡ g → d ≡ h
    → area_from_to (a, b) (c, d) ≡ area_from_to (e, f) (g, h)
same_corners a b c d e f g h p q r s = rw (p, q, r, s) refl

swapped : (one two : ℕ × ℕ) (area : Option Dimensions)
    → Some (area_with one (Some (area_with two area)))
    ≡ Some (area_with two (Some (area_with one area)))
swapped one two None =
    same_corners _ _ _ _ _ _ _ _ (omega arith) (omega arith) (omega arith) (omega arith)
swapped one two (Some area) =
    same_corners _ _ _ _ _ _ _ _ (omega arith) (omega arith) (omega arith) (omega arith)

twice : (one : ℕ × ℕ) (area : Option Dimensions)
    → Some (area_with one (Some (area_with one area))) ≡ Some (area_with one area)
twice one None =
    same_corners _ _ _ _ _ _ _ _ (omega arith) (omega arith) (omega arith) (omega arith)
twice one (Some area) =
    same_corners _ _ _ _ _ _ _ _ (omega arith) (omega arith) (omega arith) (omega arith)

module _ {X : Type 0} where
  least_put : (k : ℕ × ℕ) (v : X) (es : List ((ℕ × ℕ) × X))
      → least_area (put position_cmp k v es) ≡ Some (area_with k (least_area es))
  least_put k v [] = refl
  least_put k v (e ∷ es) = by_test (position_cmp k e.0) refl (least_put k v es)
    where
      by_test : (o : Ordering) → position_cmp k e.0 ≡ o
          → least_area (put position_cmp k v es) ≡ Some (area_with k (least_area es))
          → least_area (by_order o ((k, v) ∷ e ∷ es) ((e.0, v) ∷ es)
          (e ∷ put position_cmp k v es))
          ≡ Some (area_with k (least_area (e ∷ es)))
      by_test Less is rest = refl
      by_test Equal is rest =
          rw (position_same k e.0 is) (sym (twice e.0 (least_area es)))
      by_test Greater is rest =
          ap (λ (area : Option Dimensions). Some (area_with e.0 area)) rest
          ∙ swapped e.0 k (least_area es)

  least_entries : (es : List ((ℕ × ℕ) × X))
      → least_area (entries (from_entries {R = position_cmp} es)) ≡ least_area es
  least_entries [] = ap least_area (none_placed {X = X})
  least_entries (e ∷ es) =
      ap least_area (entries-insert position_total (from_entries {R = position_cmp} es) e.0 e.1)
      ∙ least_put e.0 e.1 (entries (from_entries {R = position_cmp} es))
      ∙ ap (λ (area : Option Dimensions). Some (area_with e.0 area)) (least_entries es)

  pub least_end : (es : List ((ℕ × ℕ) × X)) (e : (ℕ × ℕ) × X)
      → least_area (es ++ e ∷ []) ≡ Some (area_with e.0 (least_area es))
  least_end [] e = refl
  least_end (first ∷ es) e =
      ap (λ (area : Option Dimensions). Some (area_with first.0 area)) (least_end es e)
      ∙ swapped first.0 e.0 (least_area es)

  least_reversed : (es : List ((ℕ × ℕ) × X)) → least_area (reverse es) ≡ least_area es
  least_reversed [] = refl
  least_reversed (e ∷ es) =
      ap least_area (reverse-append (e ∷ []) es)
      ∙ least_end (reverse es) e
      ∙ ap (λ (area : Option Dimensions). Some (area_with e.0 area)) (least_reversed es)

  pub least_last : (es : List ((ℕ × ℕ) × X)) → least_area (last_of_each es) ≡ least_area es
  unfolding last_of_each
  least_last es = least_entries (reverse es) ∙ least_reversed es
