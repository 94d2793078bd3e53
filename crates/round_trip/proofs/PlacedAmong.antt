-- What stands at positions that rise and have each entry among them is all of it.
use Rattle.std.proofs.Common.{◌≡◌, ℕ, Bool, true, false, cond, ◌||◌, List, [], ◌∷◌, Some, None}
use Rattle.std.proofs.Common.{Option, refl, sym, ap, ◌∙◌}
use Rattle.std.specs.List.{list_any, list_all}
use Rattle.std.specs.FinMap.{find}
use Rattle.std.specs.FinMap.Entries.{below_all, same_entries}
use Rattle.std.specs.Ordering.{is_lt, eq_by_cmp}
use Rattle.cell_refs.specs.Words.{position_cmp, is_rising}
use Rattle.cell_refs.proofs.PositionOrder.{position_total, position_same, to_T, and_both, tied_same}
use Rattle.cell_refs.proofs.PositionOrder.{and_from, positions_rise}

-- a position is among these
abbrev pub is_among : ℕ × ℕ → List (ℕ × ℕ) → Bool
is_among position positions = list_any (eq_by_cmp position_cmp position) positions

-- an entry at this position, where something stands there, before others
abbrev pub entry_before : {X : Type 0} → ℕ × ℕ → Option X → List ((ℕ × ℕ) × X) →
    List ((ℕ × ℕ) × X)
entry_before position None others = others
entry_before position (Some x) others = (position, x) ∷ others

-- what stands at these positions, where something does
abbrev pub placed_among : {X : Type 0} → (ℕ × ℕ → Option X) → List (ℕ × ℕ) → List ((ℕ × ℕ) × X)
placed_among at [] = []
placed_among at (position ∷ positions) =
    entry_before position (at position) (placed_among at positions)

module _ {X : Type 0} (at : ℕ × ℕ → Option X) where
  among_below : (p : ℕ × ℕ) (positions : List (ℕ × ℕ)) →
      list_all (λ q. is_lt (position_cmp p q)) positions ≡ true →
      below_all position_cmp p (placed_among at positions) ≡ true
  among_below p [] below = refl
  among_below p (q ∷ qs) below =
      let (first, rest) = and_both (is_lt (position_cmp p q))
      (list_all (λ r. is_lt (position_cmp p r)) qs) below in
      by (at q) first (among_below p qs rest) where
        by : (o : Option X) → is_lt (position_cmp p q) ≡ true →
            below_all position_cmp p (placed_among at qs) ≡ true →
            below_all position_cmp p (entry_before q o (placed_among at qs)) ≡ true
        by None first others = others
        by (Some x) first others = and_from _ _ first others

  among_rising : (positions : List (ℕ × ℕ)) → positions_rise positions ≡ true →
      is_rising (placed_among at positions) ≡ true
  among_rising [] rise = refl
  among_rising (p ∷ ps) rise =
      let (below, rest) = and_both (list_all (λ q. is_lt (position_cmp p q)) ps)
      (positions_rise ps) rise in
      by (at p) (among_below p ps below) (among_rising ps rest) where
        by : (o : Option X) → below_all position_cmp p (placed_among at ps) ≡ true →
            is_rising (placed_among at ps) ≡ true →
            is_rising (entry_before p o (placed_among at ps)) ≡ true
        by None below others = others
        by (Some x) below others = and_from _ _ below others

  among_found : (q : ℕ × ℕ) (positions : List (ℕ × ℕ)) →
      find position_cmp q (placed_among at positions) ≡ cond (is_among q positions) (at q) None
  among_found q [] = refl
  among_found q (p ∷ ps) =
      by (eq_by_cmp position_cmp q p) refl (at p) refl (is_among q ps) (among_found q ps) where
        by : (t : Bool) → eq_by_cmp position_cmp q p ≡ t → (o : Option X) → at p ≡ o → (u : Bool) →
            find position_cmp q (placed_among at ps) ≡ cond u (at q) None →
            find position_cmp q (entry_before p o (placed_among at ps)) ≡ cond (t || u) (at q) None
        by true ties None is true others = others
        by true ties None is false others =
            let place = ap at (tied_same q p ties) in others ∙ sym (place ∙ is)
        by true ties (Some x) is u others =
            let place = ap at (tied_same q p ties) in
            ap (λ (b : Bool). cond b (Some x) (find position_cmp q (placed_among at ps))) ties
            ∙ sym (place ∙ is)
        by false ties None is u others = others
        by false ties (Some x) is u others =
            ap (λ (b : Bool). cond b (Some x) (find position_cmp q (placed_among at ps))) ties
            ∙ others

-- each of these entries has its position among those
abbrev pub have_all : {X : Type 0} → List (ℕ × ℕ) → List ((ℕ × ℕ) × X) → Type 0
have_all {X} positions entries = (q : ℕ × ℕ) (x : X) → find position_cmp q entries ≡ Some x →
    is_among q positions ≡ true

pub all_placed : {X : Type 0} (positions : List (ℕ × ℕ)) (entries : List ((ℕ × ℕ) × X)) →
    positions_rise positions ≡ true → is_rising entries ≡ true → have_all positions entries →
    placed_among (λ (p : ℕ × ℕ). find position_cmp p entries) positions ≡ entries
all_placed {X} positions entries rise rising all =
    same_entries position_cmp position_total position_same
    (placed_among (λ (p : ℕ × ℕ). find position_cmp p entries) positions) entries
    (to_T _ (among_rising (λ (p : ℕ × ℕ). find position_cmp p entries) positions rise))
    (to_T _ rising)
    (λ q. among_found (λ (p : ℕ × ℕ). find position_cmp p entries) q positions
    ∙ by q (is_among q positions) refl (find position_cmp q entries) refl) where
      by : (q : ℕ × ℕ) (t : Bool) → is_among q positions ≡ t → (o : Option X) →
          find position_cmp q entries ≡ o → cond t o None ≡ o
      by q true among o is = refl
      by q false among None is = refl
      by q false among (Some x) is = absurd (let e = all q x is in cc)
