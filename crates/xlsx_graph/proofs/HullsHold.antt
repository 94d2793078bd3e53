-- Hulls have what the formulas under their forks cover, and lie inside of each: so an area that is
-- apart from a hull meets none of these, and one that meets its inside meets each.
use Rattle.std.proofs.Common.{◌≡◌, ◌∙◌, inl, inr, ℕ, zero, suc, ◌+◌, ◌*◌, ◌<◌, ◌≤◌, true, false}
use Rattle.std.proofs.Common.{List, [], ◌∷◌, ◌++◌, cond, refl, sym, ap, subst, arith, length, min}
use Rattle.std.proofs.Common.{max, filter, set, ◌-◌}
use Rattle.std.specs.Prelude.{◌&&◌, nat_le, Option, None, Some, option_to_list}
use Rattle.std.specs.List.{slice_get}
use Rattle.std.proofs.lemmas.Bool.{leb-true, le-leb, and_parts, and_from, false_from_ne_true}
use Rattle.std.proofs.lemmas.Bool.{true≢false, cases_eq}
use Rattle.std.proofs.lemmas.List.Folds.{list_all-append}
use Rattle.xlsx_graph.specs.Graph.{do_meet, has_sheet}
use Rattle.xlsx_graph.specs.Hulls.{may_meet, meets_all, corners_of, joined_hull}
use Rattle.xlsx_graph.specs.Tree.{meets, meets_at, has_corners, has_corners_at, lie_between}
use Rattle.xlsx_graph.specs.Tree.{is_hull, lies_inside, under, fork_count, AreNumbers, IsHullOf}
use Rattle.xlsx_graph.specs.Tree.{AreHullsFrom, leaf_at}
use Rattle.xlsx_graph.specs.declared.hulls.Hull.{Hull}
use Rattle.xlsx_graph.specs.declared.named.BookArea.{BookArea}
use Rattle.cell_refs.specs.declared.dimensions.Dimensions.{Dimensions}
use Rattle.xlsx_graph.specs.declared.workbook_graph.Placed.{Placed}
use Rattle.xlsx_graph.proofs.UnderForks.{under_fork, under_leaf, leaf_below}

-- ---- tests of two numbers

both : (a b c d : ℕ) → (nat_le a b && nat_le c d) ≡ true → (a ≤ b) × (c ≤ d)
both a b c d is =
    let parts = and_parts (nat_le a b) (nat_le c d) is in
    (leb-true a b parts.0, leb-true c d parts.1)

both_from : (a b c d : ℕ) → a ≤ b → c ≤ d → (nat_le a b && nat_le c d) ≡ true
both_from a b c d e f = and_from _ _ (le-leb a b e) (le-leb c d f)

-- what lies between two numbers
record LieBetween (first last a b : ℕ) : Type 0 where
  low_a : first ≤ a
  high_a : a ≤ last
  low_b : first ≤ b
  high_b : b ≤ last

of_between : (first last a b : ℕ) → lie_between first last a b ≡ true → LieBetween first last a b
of_between first last a b is =
    let parts = and_parts (nat_le first a && nat_le a last) (nat_le first b && nat_le b last) is in
    let low = both first a a last parts.0 in
    let high = both first b b last parts.1 in
    record { low_a = low.0; high_a = low.1; low_b = high.0; high_b = high.1 }

between_from : (first last a b : ℕ) → LieBetween first last a b → lie_between first last a b ≡ true
between_from first last a b lie =
    and_from _ _ (both_from first a a last lie.low_a lie.high_a)
    (both_from first b b last lie.low_b lie.high_b)

-- an area begins in another, or behind its start, and ends in it, or before its end
record LiesInside (a b : Dimensions) : Type 0 where
  top : b.start.0 ≤ a.start.0
  bottom : a.end.0 ≤ b.end.0
  left : b.start.1 ≤ a.start.1
  right : a.end.1 ≤ b.end.1

of_inside : (a b : Dimensions) → lies_inside a b ≡ true → LiesInside a b
of_inside a b is =
    let parts = and_parts (nat_le b.start.0 a.start.0 && nat_le a.end.0 b.end.0) _ is in
    let rows = both b.start.0 a.start.0 a.end.0 b.end.0 parts.0 in
    let columns = both b.start.1 a.start.1 a.end.1 b.end.1 parts.1 in
    record { top = rows.0; bottom = rows.1; left = columns.0; right = columns.1 }

inside_from : (a b : Dimensions) → LiesInside a b → lies_inside a b ≡ true
inside_from a b lie =
    and_from _ _ (both_from b.start.0 a.start.0 a.end.0 b.end.0 lie.top lie.bottom)
    (both_from b.start.1 a.start.1 a.end.1 b.end.1 lie.left lie.right)

-- the corners of what a formula covers lie in a hull, and the hull inside of it
record HasCorners (h : Hull) (p : Placed) : Type 0 where
  first : h.first ≤ p.cell.sheet
  last : p.cell.sheet ≤ h.last
  rows : LieBetween h.all.start.0 h.all.end.0 p.covers.start.0 p.covers.end.0
  columns : LieBetween h.all.start.1 h.all.end.1 p.covers.start.1 p.covers.end.1
  inside : LiesInside h.each p.covers

of_corners : (h : Hull) (p : Placed) → has_corners h p ≡ true → HasCorners h p
of_corners h p is =
    let parts = and_parts (nat_le h.first p.cell.sheet && nat_le p.cell.sheet h.last) _ is in
    let sheet = both h.first p.cell.sheet p.cell.sheet h.last parts.0 in
    let areas = and_parts
    (lie_between h.all.start.0 h.all.end.0 p.covers.start.0 p.covers.end.0
    && lie_between h.all.start.1 h.all.end.1 p.covers.start.1 p.covers.end.1) _ parts.1 in
    let sides = and_parts
    (lie_between h.all.start.0 h.all.end.0 p.covers.start.0 p.covers.end.0) _ areas.0 in
    record {
      first = sheet.0;
      last = sheet.1;
      rows = of_between h.all.start.0 h.all.end.0 p.covers.start.0 p.covers.end.0 sides.0;
      columns = of_between h.all.start.1 h.all.end.1 p.covers.start.1 p.covers.end.1 sides.1;
      inside = of_inside h.each p.covers areas.1;
    }

corners_from : (h : Hull) (p : Placed) → HasCorners h p → has_corners h p ≡ true
corners_from h p has =
    and_from _ _ (both_from h.first p.cell.sheet p.cell.sheet h.last has.first has.last)
    (and_from _ _
    (and_from _ _
    (between_from h.all.start.0 h.all.end.0 p.covers.start.0 p.covers.end.0 has.rows)
    (between_from h.all.start.1 h.all.end.1 p.covers.start.1 p.covers.end.1 has.columns))
    (inside_from h.each p.covers has.inside))

-- ---- areas and hulls

-- an area that meets what lies in a hull may meet the hull
pub meeting_may : (a : BookArea) (h : Hull) (p : Placed) → has_corners h p ≡ true
    → meets a p ≡ true → may_meet a h ≡ true
meeting_may a h p lies meet =
    let has = of_corners h p lies in
    let first = has.first in
    let last = has.last in
    let rows = has.rows in
    let columns = has.columns in
    let parts = and_parts (has_sheet a p.cell.sheet) (do_meet a.area p.covers) meet in
    let sheet = both a.first p.cell.sheet p.cell.sheet a.last parts.0 in
    let inside = and_parts _ _ parts.1 in
    let row = both a.area.start.0 p.covers.end.0 p.covers.start.0 a.area.end.0 inside.0 in
    let column = both a.area.start.1 p.covers.end.1 p.covers.start.1 a.area.end.1 inside.1 in
    and_from _ _ (both_from a.first h.last h.first a.last (omega arith) (omega arith))
    (and_from _ _
    (both_from a.area.start.0 h.all.end.0 h.all.start.0 a.area.end.0 (omega arith) (omega arith))
    (both_from a.area.start.1 h.all.end.1 h.all.start.1 a.area.end.1 (omega arith) (omega arith)))

-- an area that meets the inside of a hull meets what the hull lies inside of
pub inside_meets : (a : BookArea) (h : Hull) (p : Placed) → has_corners h p ≡ true
    → meets_all a h ≡ true → meets a p ≡ true
inside_meets a h p lies met =
    let has = of_corners h p lies in
    let first = has.first in
    let last = has.last in
    let top = has.inside.top in
    let bottom = has.inside.bottom in
    let left = has.inside.left in
    let right = has.inside.right in
    let parts = and_parts (nat_le a.first h.first && nat_le h.last a.last) _ met in
    let sheet = both a.first h.first h.last a.last parts.0 in
    let areas = and_parts _ _ parts.1 in
    let row = both a.area.start.0 h.each.end.0 h.each.start.0 a.area.end.0 areas.0 in
    let column = both a.area.start.1 h.each.end.1 h.each.start.1 a.area.end.1 areas.1 in
    and_from _ _ (both_from a.first p.cell.sheet p.cell.sheet a.last (omega arith) (omega arith))
    (and_from _ _
    (both_from a.area.start.0 p.covers.end.0 p.covers.start.0 a.area.end.0 (omega arith)
    (omega arith))
    (both_from a.area.start.1 p.covers.end.1 p.covers.start.1 a.area.end.1 (omega arith)
    (omega arith)))

-- ---- hulls

between_own : (a b : ℕ) → LieBetween (min a b) (max a b) a b
between_own a b = record {
  low_a = omega arith;
  high_a = omega arith;
  low_b = omega arith;
  high_b = omega arith;
}

-- the hull of a formula
own_corners : (p : Placed) → has_corners (corners_of p) p ≡ true
own_corners p = corners_from (corners_of p) p (record {
  first = omega arith;
  last = omega arith;
  rows = between_own p.covers.start.0 p.covers.end.0;
  columns = between_own p.covers.start.1 p.covers.end.1;
  inside = record {
    top = omega arith;
    bottom = omega arith;
    left = omega arith;
    right = omega arith;
  };
})

between_more : (f g k l a b : ℕ) → f ≤ g → k ≤ l → LieBetween g k a b → LieBetween f l a b
between_more f g k l a b low high lie =
    let low_a = lie.low_a in
    let high_a = lie.high_a in
    let low_b = lie.low_b in
    let high_b = lie.high_b in
    record {
      low_a = omega arith;
      high_a = omega arith;
      low_b = omega arith;
      high_b = omega arith;
    }

inside_more : (a b c : Dimensions) → LiesInside a b → LiesInside b c → LiesInside a c
inside_more a b c first second =
    let top = first.top in
    let bottom = first.bottom in
    let left = first.left in
    let right = first.right in
    let top' = second.top in
    let bottom' = second.bottom in
    let left' = second.left in
    let right' = second.right in
    record {
      top = omega arith;
      bottom = omega arith;
      left = omega arith;
      right = omega arith;
    }

-- a greater hull has what a less one has, and lies inside of what that lies inside of
record IsWithin (h g : Hull) : Type 0 where
  first : h.first ≤ g.first
  last : g.last ≤ h.last
  all : LiesInside g.all h.all
  each : LiesInside h.each g.each

corners_more : (h g : Hull) (p : Placed) → IsWithin h g → has_corners g p ≡ true
    → has_corners h p ≡ true
corners_more h g p within lies =
    let has = of_corners g p lies in
    let first = has.first in
    let last = has.last in
    let low = within.first in
    let high = within.last in
    corners_from h p (record {
      first = omega arith;
      last = omega arith;
      rows = between_more h.all.start.0 g.all.start.0 g.all.end.0 h.all.end.0
          p.covers.start.0 p.covers.end.0 within.all.top within.all.bottom has.rows;
      columns = between_more h.all.start.1 g.all.start.1 g.all.end.1 h.all.end.1
          p.covers.start.1 p.covers.end.1 within.all.left within.all.right has.columns;
      inside = inside_more h.each g.each p.covers within.each has.inside;
    })

joined_left : (a b : Hull) → IsWithin (joined_hull a b) a
joined_left a b = record {
  first = omega arith;
  last = omega arith;
  all = record {
    top = omega arith;
    bottom = omega arith;
    left = omega arith;
    right = omega arith;
  };
  each = record {
    top = omega arith;
    bottom = omega arith;
    left = omega arith;
    right = omega arith;
  };
}

joined_right : (a b : Hull) → IsWithin (joined_hull a b) b
joined_right a b = record {
  first = omega arith;
  last = omega arith;
  all = record {
    top = omega arith;
    bottom = omega arith;
    left = omega arith;
    right = omega arith;
  };
  each = record {
    top = omega arith;
    bottom = omega arith;
    left = omega arith;
    right = omega arith;
  };
}

-- ---- formulas by their numbers

corners_more_at : (placed : List Placed) (h g : Hull) (n : ℕ) → IsWithin h g
    → has_corners_at placed g n ≡ true → has_corners_at placed h n ≡ true
corners_more_at [] h g n within lies = lies
corners_more_at (p ∷ ps) h g zero within lies = corners_more h g p within lies
corners_more_at (p ∷ ps) h g (suc n) within lies = corners_more_at ps h g n within lies

hull_more : (placed : List Placed) (h g : Hull) (ns : List ℕ) → IsWithin h g
    → is_hull placed g ns ≡ true → is_hull placed h ns ≡ true
hull_more placed h g [] within hull = refl
hull_more placed h g (n ∷ ns) within hull =
    let parts = and_parts (has_corners_at placed g n) (is_hull placed g ns) hull in
    and_from _ _ (corners_more_at placed h g n within parts.0)
    (hull_more placed h g ns within parts.1)

-- the hull of two hulls has the formulas of both
pub hull_joined : (placed : List Placed) (a b : Hull) (ms ns : List ℕ)
    → is_hull placed a ms ≡ true → is_hull placed b ns ≡ true
    → is_hull placed (joined_hull a b) (ms ++ ns) ≡ true
hull_joined placed a b ms ns left right =
    list_all-append (has_corners_at placed (joined_hull a b)) ms ns
    ∙ and_from _ _ (hull_more placed (joined_hull a b) a ms (joined_left a b) left)
    (hull_more placed (joined_hull a b) b ns (joined_right a b) right)

own_corners_at : (placed : List Placed) (n : ℕ) (p : Placed) → slice_get placed n ≡ Some p
    → has_corners_at placed (corners_of p) n ≡ true
own_corners_at [] n p at = absurd (cc)
own_corners_at (q ∷ qs) zero p at =
    let e : q ≡ p = cc in subst (λ (r : Placed). has_corners (corners_of p) r ≡ true) (sym e)
    (own_corners p)
own_corners_at (q ∷ qs) (suc n) p at = own_corners_at qs n p at

-- the hull of one formula
pub hull_one : (placed : List Placed) (n : ℕ) (p : Placed) → slice_get placed n ≡ Some p
    → is_hull placed (corners_of p) (n ∷ []) ≡ true
hull_one placed n p at = and_from _ _ (own_corners_at placed n p at) refl

-- ---- which formulas an area meets

may_at : (placed : List Placed) (a : BookArea) (h : Hull) (n : ℕ)
    → has_corners_at placed h n ≡ true → meets_at placed a n ≡ true → may_meet a h ≡ true
may_at [] a h n lies meet = absurd (cc)
may_at (p ∷ ps) a h zero lies meet = meeting_may a h p lies meet
may_at (p ∷ ps) a h (suc n) lies meet = may_at ps a h n lies meet

inside_at : (placed : List Placed) (a : BookArea) (h : Hull) (n : ℕ)
    → has_corners_at placed h n ≡ true → meets_all a h ≡ true → meets_at placed a n ≡ true
inside_at [] a h n lies met = absurd (cc)
inside_at (p ∷ ps) a h zero lies met = inside_meets a h p lies met
inside_at (p ∷ ps) a h (suc n) lies met = inside_at ps a h n lies met

-- none, where it is apart from a hull
pub none_apart : (placed : List Placed) (a : BookArea) (h : Hull) (ns : List ℕ)
    → is_hull placed h ns ≡ true → may_meet a h ≡ false → filter (meets_at placed a) ns ≡ []
none_apart placed a h [] hull apart = refl
none_apart placed a h (n ∷ ns) hull apart =
    let parts = and_parts (has_corners_at placed h n) (is_hull placed h ns) hull in
    let not_met : meets_at placed a n ≡ false =
    false_from_ne_true (meets_at placed a n)
    (λ meet. true≢false (sym (may_at placed a h n parts.0 meet) ∙ apart)) in
    ap (λ t. cond t (n ∷ filter (meets_at placed a) ns) (filter (meets_at placed a) ns)) not_met
    ∙ none_apart placed a h ns parts.1 apart

-- all, where it meets the inside of their hull
pub all_met : (placed : List Placed) (a : BookArea) (h : Hull) (ns : List ℕ)
    → is_hull placed h ns ≡ true → meets_all a h ≡ true → filter (meets_at placed a) ns ≡ ns
all_met placed a h [] hull met = refl
all_met placed a h (n ∷ ns) hull met =
    let parts = and_parts (has_corners_at placed h n) (is_hull placed h ns) hull in
    ap (λ t. cond t (n ∷ filter (meets_at placed a) ns) (filter (meets_at placed a) ns))
    (inside_at placed a h n parts.0 met)
    ∙ ap (λ ms. n ∷ ms) (all_met placed a h ns parts.1 met)

-- an area meets the formula of a number
pub meets_own : (placed : List Placed) (a : BookArea) (n : ℕ) (p : Placed)
    → slice_get placed n ≡ Some p → meets_at placed a n ≡ meets a p
meets_own [] a n p at = absurd (cc)
meets_own (q ∷ qs) a zero p at = let e : q ≡ p = cc in ap (meets a) e
meets_own (q ∷ qs) a (suc n) p at = meets_own qs a n p at

-- no formula of a number that there is not
pub meets_below : (placed : List Placed) (a : BookArea) (n : ℕ) → meets_at placed a n ≡ true
    → n < length placed
meets_below [] a n meet = absurd (cc)
meets_below (q ∷ qs) a zero meet = omega arith
meets_below (q ∷ qs) a (suc n) meet = (let below = meets_below qs a n meet in omega arith)

-- ---- the hulls of nodes

-- a leaf of no formula has nothing
pub leaf_none : (placed : List Placed) (order : List ℕ) (h : Hull) (k i : ℕ)
    → fork_count order ≤ k → i ≡ k - fork_count order → slice_get order i ≡ None
    → is_hull placed h (under order k) ≡ true
leaf_none placed order h k i leaf place at =
    ap (is_hull placed h) (under_leaf order k leaf
    ∙ ap (λ j. option_to_list (slice_get order j)) (sym place)
    ∙ ap (λ (o : Option ℕ). option_to_list o) at)

-- a leaf of a formula
pub leaf_own : (placed : List Placed) (order : List ℕ) (p : Placed) (k i m : ℕ)
    → fork_count order ≤ k → i ≡ k - fork_count order → slice_get order i ≡ Some m
    → slice_get placed m ≡ Some p → is_hull placed (corners_of p) (under order k) ≡ true
leaf_own placed order p k i m leaf place at own =
    ap (is_hull placed (corners_of p)) (under_leaf order k leaf
    ∙ ap (λ j. option_to_list (slice_get order j)) (sym place)
    ∙ ap (λ (o : Option ℕ). option_to_list o) at)
    ∙ hull_one placed m p own

get_set : (hulls : List Hull) (k : ℕ) (h : Hull) → k < length hulls
    → slice_get (set hulls k h) k ≡ Some h
get_set [] k h below = absurd (omega arith)
get_set (g ∷ gs) zero h below = refl
get_set (g ∷ gs) (suc k) h below = get_set gs k h (omega arith)

get_other : (hulls : List Hull) (k j : ℕ) (h : Hull) → k < j
    → slice_get (set hulls k h) j ≡ slice_get hulls j
get_other [] k j h above = refl
get_other (g ∷ gs) zero zero h above = absurd (omega arith)
get_other (g ∷ gs) zero (suc j) h above = refl
get_other (g ∷ gs) (suc k) zero h above = absurd (omega arith)
get_other (g ∷ gs) (suc k) (suc j) h above = get_other gs k j h (omega arith)

-- with the hull of one more fork
pub hulls_step : (placed : List Placed) (order : List ℕ) (hulls : List Hull) (n k : ℕ)
    (a b h : Hull) → n ≡ k + 1 → length hulls ≡ fork_count order → k < fork_count order
    → AreHullsFrom n placed order hulls → h ≡ joined_hull a b
    → is_hull placed a (under order (2 * k + 1)) ≡ true
    → is_hull placed b (under order (2 * k + 2)) ≡ true
    → AreHullsFrom k placed order (set hulls k h)
hulls_step placed order hulls n k a b h next count fork before is left right = λ j from.
    elim (cases_eq j k) [
      | inl e ↦ subst (λ (i : ℕ). IsHullOf placed (slice_get (set hulls k h) i) (under order i))
          (sym e)
          (subst (λ (o : Option Hull). IsHullOf placed o (under order k))
          (sym (get_set hulls k h (omega arith)))
          (ap (is_hull placed h) (under_fork order k fork)
          ∙ ap (λ g. is_hull placed g (under order (2 * k + 1) ++ under order (2 * k + 2))) is
          ∙ hull_joined placed a b (under order (2 * k + 1)) (under order (2 * k + 2)) left right))
      | inr e ↦ (let least = leb-true k j from in
          let above : k < j = omega arith in
          subst (λ (o : Option Hull). IsHullOf placed o (under order j))
          (sym (get_other hulls k j h above))
          (before j (le-leb n j (omega arith))))
    ]

-- what an area meets at a leaf
pub met_leaf : (placed : List Placed) (order : List ℕ) (a : BookArea) (p : Placed) (k i m : ℕ)
    → i ≡ k - fork_count order → slice_get order i ≡ Some m → slice_get placed m ≡ Some p
    → filter (meets_at placed a) (leaf_at order k) ≡ cond (meets a p) (m ∷ []) []
met_leaf placed order a p k i m place at own =
    ap (λ j. filter (meets_at placed a) (option_to_list (slice_get order j))) (sym place)
    ∙ ap (λ (o : Option ℕ). filter (meets_at placed a) (option_to_list o)) at
    ∙ ap (λ t. cond t (m ∷ []) []) (meets_own placed a m p own)

none_past : (placed : List Placed) (n : ℕ) → slice_get placed n ≡ None → length placed ≤ n
none_past [] n at = omega arith
none_past (p ∷ ps) zero at = absurd (cc)
none_past (p ∷ ps) (suc n) at = (let past = none_past ps n at in omega arith)

-- each leaf is that of a formula that there is
pub leaf_there : (placed : List Placed) (order : List ℕ) (i m : ℕ) → AreNumbers order
    → length order ≡ length placed → slice_get order i ≡ Some m → slice_get placed m ≡ None → ⊥
leaf_there placed order i m numbers size at none =
    let below = leaf_below order i m numbers at in
    let past = none_past placed m none in
    omega arith
