-- The order of positions, and tests of it.
use Rattle.std.proofs.Common.{◌≡◌, ℕ, Bool, true, false, ◌&&◌, T, refl, sym, ap, ◌∙◌, subst, List}
use Rattle.std.proofs.Common.{[], ◌∷◌, map, cond, Some, None}
use Rattle.std.specs.List.{list_all}
use Rattle.std.specs.declared.cmp.Ordering.{Ordering}
use Rattle.std.specs.declared.cmp.Ordering.TheVariants.{Less, Equal, Greater}
use Rattle.std.specs.Cmp.{IsTotalOrder}
use Rattle.std.specs.FinMap.{find, IsAntisymmetric, nat_cmp-IsAntisymmetric}
use Rattle.std.specs.FinMap.Entries.{below_all}
use Rattle.std.specs.Ordering.{nat_cmp, ordering_then, is_lt, is_eq, eq_by_cmp}
use Rattle.std.proofs.lemmas.Cmp.{then_total, on_total, nat_cmp_total}
use Rattle.cell_refs.specs.Positions.{position_cmp, is_rising}

pub position_total : IsTotalOrder position_cmp
position_total =
    then_total (on_total (λ (p : ℕ × ℕ). p.0) nat_cmp_total)
    (on_total (λ (p : ℕ × ℕ). p.1) nat_cmp_total)

then_equal : (o p : Ordering) → ordering_then o p ≡ Equal → (o ≡ Equal) × (p ≡ Equal)
then_equal Less p same = (same, absurd (cc))
then_equal Equal p same = (refl, same)
then_equal Greater p same = (same, absurd (cc))

pub position_same : IsAntisymmetric position_cmp
position_same a b same =
    let (rows, columns) = then_equal (nat_cmp a.0 b.0) (nat_cmp a.1 b.1) same in
    let row : a.0 ≡ b.0 = nat_cmp-IsAntisymmetric a.0 b.0 rows in
    let column : a.1 ≡ b.1 = nat_cmp-IsAntisymmetric a.1 b.1 columns in
    ap (λ (r : ℕ). (r, a.1)) row ∙ ap (λ (k : ℕ). (b.0, k)) column

pub to_T : (b : Bool) → b ≡ true → T b
to_T b yields = subst T (sym yields) tt

pub from_T : (b : Bool) → T b → b ≡ true
from_T true holds = refl
from_T false holds = absurd holds

pub and_both : (a b : Bool) → (a && b) ≡ true → (a ≡ true) × (b ≡ true)
and_both true b both = (refl, both)
and_both false b both = (both, absurd (cc))

pub and_from : (a b : Bool) → a ≡ true → b ≡ true → (a && b) ≡ true
and_from true b one two = two
and_from false b one two = one

pub less_from : (o : Ordering) → is_lt o ≡ true → o ≡ Less
less_from Less yields = refl
less_from Equal yields = absurd (cc)
less_from Greater yields = absurd (cc)

-- what stands behind a key does not tie with it
pub none_behind : {K X : Type 0} (cmp : K → K → Ordering) → IsTotalOrder cmp → (q x : K)
    (es : List (K × X)) → cmp q x ≡ Equal → below_all cmp x es ≡ true → find cmp q es ≡ None
none_behind cmp total q x [] same below = refl
none_behind cmp total q x (e ∷ es) same below =
    let (first, rest) = and_both (is_lt (cmp x e.0)) (below_all cmp x es) below in
    let apart : eq_by_cmp cmp q e.0 ≡ false =
    ap is_eq (total.congr q x e.0 same ∙ less_from _ first) in
    ap (λ t. cond t (Some e.1) (find cmp q es)) apart ∙ none_behind cmp total q x es same rest

-- each of these positions lies behind the one before it
abbrev pub positions_rise : List (ℕ × ℕ) → Bool
positions_rise [] = true
positions_rise (p ∷ ps) = list_all (λ q. is_lt (position_cmp p q)) ps && positions_rise ps

abbrev positions_of : {X : Type 0} → List ((ℕ × ℕ) × X) → List (ℕ × ℕ)
positions_of cells = map (λ cell. cell.0) cells

-- cells rise where their positions do
pub rising_positions : {X : Type 0} (cells : List ((ℕ × ℕ) × X)) →
    is_rising cells ≡ positions_rise (map (λ cell. cell.0) cells)
rising_positions [] = refl
rising_positions {X} (cell ∷ cells) =
    λ i. below cell.0 cells i && rising_positions cells i
  where
    below : (p : ℕ × ℕ) (cells : List ((ℕ × ℕ) × X)) →
        below_all position_cmp p cells
        ≡ list_all (λ q. is_lt (position_cmp p q)) (positions_of cells)
    below p [] = refl
    below p (cell ∷ cells) = ap (λ t. is_lt (position_cmp p cell.0) && t) (below p cells)

pub equal_from : (o : Ordering) → is_eq o ≡ true → o ≡ Equal
equal_from Less tied = absurd (cc)
equal_from Equal tied = refl
equal_from Greater tied = absurd (cc)

-- positions that tie are the same
pub tied_same : (p q : ℕ × ℕ) → eq_by_cmp position_cmp p q ≡ true → p ≡ q
tied_same p q tied = position_same p q (equal_from (position_cmp p q) tied)
