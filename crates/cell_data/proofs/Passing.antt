-- The last of each position among those that pass a test.
use Rattle.std.proofs.Common.{◌≡◌, ℕ, List, [], ◌∷◌, ◌++◌, Bool, true, false, cond, Option, Some}
use Rattle.std.proofs.Common.{None, refl, sym, ◌∙◌, ap}
use Rattle.std.specs.Prelude.{reverse}
use Rattle.std.specs.List.{filter}
use Rattle.std.specs.FinMap.{from_entries, entries, find, get-entries, get-from_entries}
use Rattle.std.specs.FinMap.{entries_sorted}
use Rattle.std.specs.FinMap.Entries.{is_sorted-where_key, same_entries}
use Rattle.std.specs.Ordering.{eq_by_cmp}
use Rattle.std.proofs.lemmas.List.{append-nil, reverse-append}
use Rattle.std.proofs.lemmas.List.Elements.{filter-append}
use Rattle.cell_refs.specs.Words.{position_cmp}
use Rattle.cell_refs.specs.Positions.{last_of_each}
use Rattle.cell_refs.proofs.PositionOrder.{position_total, position_same, tied_same}

none_either : {X : Type 0} (test : Bool) (o : Option X) → o ≡ None → o ≡ cond test o None
none_either true o is = refl
none_either false o is = is

module _ {X : Type 0} (p : ℕ × ℕ → Bool) where
  abbrev passing : List ((ℕ × ℕ) × X) → List ((ℕ × ℕ) × X)
  passing cells = filter (λ cell. p cell.0) cells

  found_passing : (q : ℕ × ℕ) (cells : List ((ℕ × ℕ) × X)) →
      find position_cmp q (passing cells) ≡ cond (p q) (find position_cmp q cells) None
  found_passing q [] = none_either (p q) None refl
  found_passing q (e ∷ es) =
      by_tests (p e.0) refl (eq_by_cmp position_cmp q e.0) refl (found_passing q es)
    where
      by_tests : (own : Bool) → p e.0 ≡ own → (ties : Bool) → eq_by_cmp position_cmp q e.0 ≡ ties →
          find position_cmp q (passing es) ≡ cond (p q) (find position_cmp q es) None →
          find position_cmp q (cond own (e ∷ passing es) (passing es))
          ≡ cond (p q) (cond ties (Some e.1) (find position_cmp q es)) None
      by_tests true own true ties rest =
          let same : q ≡ e.0 = tied_same q e.0 ties in
          let passes : p q ≡ true = ap p same ∙ own in
          rw (passes) (ap (λ (t : Bool). cond t (Some e.1) (find position_cmp q (passing es))) ties)
      by_tests true own false ties rest =
          ap (λ (t : Bool). cond t (Some e.1) (find position_cmp q (passing es))) ties ∙ rest
      by_tests false own true ties rest =
          let same : q ≡ e.0 = tied_same q e.0 ties in
          let fails : p q ≡ false = ap p same ∙ own in
          rest ∙ rw (fails) refl
      by_tests false own false ties rest = rest

  passing_reversed : (cells : List ((ℕ × ℕ) × X)) →
      passing (reverse cells) ≡ reverse (passing cells)
  passing_reversed [] = refl
  passing_reversed (e ∷ es) =
      ap passing (reverse-append (e ∷ []) es)
      ∙ filter-append (λ cell. p cell.0) (reverse es) (e ∷ [])
      ∙ ap (λ (front : List ((ℕ × ℕ) × X)). front ++ passing (e ∷ [])) (passing_reversed es)
      ∙ by_test (p e.0)
    where
      by_test : (test : Bool) →
          reverse (passing es) ++ cond test (e ∷ []) []
          ≡ reverse (cond test (e ∷ passing es) (passing es))
      by_test true = sym (reverse-append (e ∷ []) (passing es))
      by_test false = append-nil (reverse (passing es))

  pub last_passing : (cells : List ((ℕ × ℕ) × X)) →
      passing (last_of_each cells) ≡ last_of_each (passing cells)
  unfolding last_of_each
  last_passing cells =
      let all = from_entries {R = position_cmp} (reverse cells) in
      let some = from_entries {R = position_cmp} (reverse (passing cells)) in
      let found = λ (es : List ((ℕ × ℕ) × X)) (q : ℕ × ℕ).
      sym (get-entries (from_entries {R = position_cmp} es) q)
      ∙ get-from_entries position_total es q in
      same_entries position_cmp position_total position_same
      (passing (entries all)) (entries some)
      (is_sorted-where_key position_cmp p (entries all) (entries_sorted all))
      (entries_sorted some)
      (λ q. found_passing q (entries all)
      ∙ ap (λ (o : Option X). cond (p q) o None) (found (reverse cells) q)
      ∙ sym (found_passing q (reverse cells))
      ∙ ap (find position_cmp q) (passing_reversed cells)
      ∙ sym (found (reverse (passing cells)) q))
