-- The last of each position goes with what is made of the values.
use Rattle.std.proofs.Common.{◌≡◌, ℕ, List, [], ◌∷◌, ◌++◌, map, refl, sym, ◌∙◌, ap}
use Rattle.std.specs.Prelude.{reverse}
use Rattle.std.specs.declared.cmp.Ordering.{Ordering}
use Rattle.std.specs.declared.cmp.Ordering.TheVariants.{Less, Equal, Greater}
use Rattle.std.specs.FinMap.{from_entries, entries, put, entries-insert}
use Rattle.std.specs.FinMap.Entries.{by_order}
use Rattle.std.proofs.lemmas.List.{reverse-append, map-append}
use Rattle.cell_data.proofs.Placing.{none_placed}
use Rattle.cell_refs.proofs.PositionOrder.{position_total}
use Rattle.cell_refs.specs.Words.{position_cmp}
use Rattle.cell_refs.specs.Positions.{last_of_each}
use Rattle.cell_data.specs.Words.{with_meaning}

module _ {X Y : Type 0} (f : X → Y) where
  mapped_by_order : (o : Ordering) (a b c : List ((ℕ × ℕ) × X)) →
      map (with_meaning f) (by_order o a b c)
      ≡ by_order o (map (with_meaning f) a) (map (with_meaning f) b) (map (with_meaning f) c)
  mapped_by_order Less a b c = refl
  mapped_by_order Equal a b c = refl
  mapped_by_order Greater a b c = refl

  mapped_put : (k : ℕ × ℕ) (v : X) (es : List ((ℕ × ℕ) × X)) →
      map (with_meaning f) (put position_cmp k v es)
      ≡ put position_cmp k (f v) (map (with_meaning f) es)
  mapped_put k v [] = refl
  mapped_put k v (e ∷ es) =
      mapped_by_order (position_cmp k e.0) ((k, v) ∷ e ∷ es) ((e.0, v) ∷ es)
      (e ∷ put position_cmp k v es)
      ∙ ap (λ (rest : List ((ℕ × ℕ) × Y)). by_order (position_cmp k e.0)
      ((k, f v) ∷ with_meaning f e ∷ map (with_meaning f) es)
      ((e.0, f v) ∷ map (with_meaning f) es) (with_meaning f e ∷ rest)) (mapped_put k v es)

  mapped_entries : (es : List ((ℕ × ℕ) × X)) →
      entries (from_entries {R = position_cmp} (map (with_meaning f) es))
      ≡ map (with_meaning f) (entries (from_entries {R = position_cmp} es))
  mapped_entries [] =
      none_placed {X = Y} ∙ sym (ap (map (with_meaning f)) (none_placed {X = X}))
  mapped_entries (e ∷ es) =
      entries-insert position_total (from_entries {R = position_cmp} (map (with_meaning f) es))
      e.0 (f e.1)
      ∙ ap (put position_cmp e.0 (f e.1)) (mapped_entries es)
      ∙ sym (mapped_put e.0 e.1 (entries (from_entries {R = position_cmp} es)))
      ∙ ap (map (with_meaning f))
      (sym (entries-insert position_total (from_entries {R = position_cmp} es) e.0 e.1))

  mapped_reverse : (es : List ((ℕ × ℕ) × X)) →
      reverse (map (with_meaning f) es) ≡ map (with_meaning f) (reverse es)
  mapped_reverse [] = refl
  mapped_reverse (e ∷ es) =
      reverse-append (with_meaning f e ∷ []) (map (with_meaning f) es)
      ∙ ap (λ (rest : List ((ℕ × ℕ) × Y)). rest ++ with_meaning f e ∷ []) (mapped_reverse es)
      ∙ sym (map-append (with_meaning f) (reverse es) (e ∷ []))
      ∙ ap (map (with_meaning f)) (sym (reverse-append (e ∷ []) es))

  pub last_mapped : (es : List ((ℕ × ℕ) × X)) →
      last_of_each (map (with_meaning f) es) ≡ map (with_meaning f) (last_of_each es)
  unfolding last_of_each
  last_mapped es =
      ap (λ (back : List ((ℕ × ℕ) × Y)). entries (from_entries {R = position_cmp} back))
      (mapped_reverse es)
      ∙ mapped_entries (reverse es)
