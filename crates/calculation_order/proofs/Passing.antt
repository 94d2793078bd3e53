-- A pass over groups from the last one to the first: what is told of their formulas, joined.
use Rattle.std.proofs.Common.{◌≡◌, ◌∙◌, ◌⊎◌, inl, inr, ℕ, zero, suc, ◌+◌, ◌<◌, ◌≤◌, Bool, true}
use Rattle.std.proofs.Common.{cond, List, [], ◌∷◌, ◌++◌, length, set, map, take, replicate, sym, ap}
use Rattle.std.proofs.Common.{arith, flat_map}
use Rattle.std.proofs.lemmas.Bool.{cases_eq, cases_lt}
use Rattle.std.proofs.lemmas.Grind.{get_or-set_at}
use Rattle.std.proofs.lemmas.List.{get_or-set_other, get_or_append_left, length-set, take_all}
use Rattle.std.proofs.lemmas.List.FromFn.{get_or-map-range_with_len, length-map-range_with_len}
use Rattle.calculation_order.specs.Edges.{is_number_of, needs_of, numbers_below}
use Rattle.calculation_order.specs.Links.{AreGrouped, Linked, linked_from, members, told_edges}
use Rattle.calculation_order.specs.Turns.{AreJoined, behind_at, joined_of, turn_after, turn_at}
use Rattle.calculation_order.specs.declared.turns.Waiting.{Waiting}
use Rattle.calculation_order.proofs.Grouped.{link_to, members_below, members_formula, members_group}
use Rattle.calculation_order.proofs.Joining.{joined_of-flat_map, joined_of-same, joined_one}

-- what is joined over the links of a vertex is joined over the formulas to which they lead
pub links_joined : (w : Waiting) (linked : Linked) (turn : ℕ → ℕ) (behind : List ℕ) (from v : ℕ)
    → AreJoined w linked turn behind from
    → ((u : ℕ) → is_number_of (needs_of linked.links v) u ≡ true
    → (u < length linked.links) × ((u < linked.formulas) ⊎ (from ≤ u)))
    → joined_of w linked.formulas (turn_at linked.formulas behind) (needs_of linked.links v)
    ≡ joined_of w linked.formulas turn (flat_map (members linked) (needs_of linked.links v))
links_joined w linked turn behind from v so told =
    let most = linked.formulas in
    joined_of-same w most (turn_at most behind) (λ u. joined_of w most turn (members linked u))
    (needs_of linked.links v) (λ u is. let place = told u is in so.joined_at u place.0 place.1)
    ∙ sym (joined_of-flat_map w most turn (members linked) (needs_of linked.links v))

-- the links of a group lead to formulas and on
group_leads : (linked : Linked) → AreGrouped linked → (from v : ℕ) → from ≡ v + 1
    → linked.formulas ≤ v → (u : ℕ) → is_number_of (needs_of linked.links v) u ≡ true
    → (u < length linked.links) × ((u < linked.formulas) ⊎ (from ≤ u))
group_leads linked grouped from v next group u is =
    let to = link_to linked grouped v u is in (
      to.0,
      elim to.1 [
        | inl e ↦ absurd (omega arith)
        | inr e ↦ elim e [ inl formula ↦ inl formula | inr on ↦ inr (omega arith) ]
      ],
    )

-- with one group more
pub joins_next : (w : Waiting) (linked : Linked) → AreGrouped linked → (turn : ℕ → ℕ)
    (behind : List ℕ) (from v now : ℕ) → AreJoined w linked turn behind from
    → from ≡ v + 1 → linked.formulas ≤ v → v < length linked.links
    → now ≡ joined_of w linked.formulas (turn_at linked.formulas behind) (needs_of linked.links v)
    → AreJoined w linked turn (set behind v now) v
joins_next w linked grouped turn behind from v now so next group vertex is =
    let most = linked.formulas in record {
      size = length-set behind v now ∙ so.size;
      joined_at = λ u within place. elim (cases_eq u v) [
        | inl same ↦
            get_or-set_at behind v u now most same (omega (arith, so.size))
            ∙ is
            ∙ links_joined w linked turn behind from v so
            (group_leads linked grouped from v next group)
            ∙ ap (joined_of w most turn) (sym (members_group linked grouped v group vertex))
            ∙ ap (λ (n : ℕ). joined_of w most turn (members linked n)) (sym same)
        | inr apart ↦
            get_or-set_other behind v u now most apart
            ∙ so.joined_at u within (elim place [
              | inl e ↦ inl e
              | inr e ↦ inr (omega arith)
            ])
      ];
    }

-- formulas stand for themselves
pub joins_none : (w : Waiting) (linked : Linked) (behind : List ℕ) (from : ℕ)
    → length behind ≡ length linked.links → length linked.links ≤ from
    → ((n : ℕ) → turn_at linked.formulas behind n ≤ linked.formulas)
    → AreJoined w linked (turn_at linked.formulas behind) behind from
joins_none w linked behind from size past below =
    let most = linked.formulas in record {
      size = size;
      joined_at = λ v within place. elim place [
        | inl formula ↦ sym (joined_one w most (turn_at most behind) v (below v))
            ∙ ap (joined_of w most (turn_at most behind)) (sym (members_formula linked v formula))
        | inr e ↦ absurd (omega arith)
      ];
    }

-- ---- what is told of formulas, with none behind it for groups

-- numbers none of which is above the most
abbrev pub no_later : ℕ → List ℕ → Type 0
no_later most turns = (n : ℕ) → turn_at most turns n ≤ most

none_later : (most : ℕ) → no_later most []
none_later most n = omega arith

one_later : (most turn : ℕ) (turns : List ℕ) → turn ≤ most → no_later most turns
    → no_later most (turn ∷ turns)
one_later most turn turns below rest zero = below
one_later most turn turns below rest (suc n) = rest n

pub later-append : (most : ℕ) (xs ys : List ℕ) → no_later most xs → no_later most ys
    → no_later most (xs ++ ys)
later-append most [] ys below rest = rest
later-append most (x ∷ xs) ys below rest =
    one_later most x (xs ++ ys) (below 0) (later-append most xs ys (λ n. below (suc n)) rest)

pub later-take : (most count : ℕ) (xs : List ℕ) → no_later most xs
    → no_later most (take count xs)
later-take most zero xs below = none_later most
later-take most (suc count) [] below = none_later most
later-take most (suc count) (x ∷ xs) below =
    one_later most x (take count xs) (below 0) (later-take most count xs (λ n. below (suc n)))

pub later-map : (most : ℕ) (f : ℕ → ℕ) (ns : List ℕ) → ((n : ℕ) → f n ≤ most)
    → no_later most (map f ns)
later-map most f [] below = none_later most
later-map most f (n ∷ ns) below =
    one_later most (f n) (map f ns) (below n) (later-map most f ns below)

pub later-replicate : (most count : ℕ) → no_later most (replicate count most)
later-replicate most zero = none_later most
later-replicate most (suc count) =
    one_later most most (replicate count most) (omega arith) (later-replicate most count)

-- what stands first is told of the formulas
pub told_first : (f : ℕ → ℕ) (most len : ℕ) (ys : List ℕ) (n : ℕ) → n < most → most ≤ len
    → turn_at most (take len (map f (numbers_below most)) ++ ys) n ≡ f n
told_first f most len ys n below within =
    let first = map f (numbers_below most) in
    let size : length first ≡ most = length-map-range_with_len f 0 most in
    ap (λ (l : List ℕ). turn_at most (l ++ ys) n) (take_all len first (omega arith))
    ∙ get_or_append_left first ys most n (omega arith)
    ∙ get_or-map-range_with_len f 0 most n n most below (omega arith)

-- of what is told the formulas alone count
pub joins_same : (w : Waiting) (linked : Linked) (turn other : ℕ → ℕ) (behind : List ℕ) (from : ℕ)
    → ((n : ℕ) → n < linked.formulas → turn n ≡ other n) → AreJoined w linked turn behind from
    → AreJoined w linked other behind from
joins_same w linked turn other behind from same so = record {
  size = so.size;
  joined_at = λ v within place. so.joined_at v within place
      ∙ joined_of-same w linked.formulas turn other (members linked v)
      (λ n is. same n (members_below linked v n is));
}

-- ---- the turn of a formula, by what is told of vertices

pub length-told : (linked : Linked) → length (told_edges linked) ≡ linked.formulas
length-told linked = length-map-range_with_len (linked_from linked) 0 linked.formulas

pub needs-told : (linked : Linked) (n : ℕ) → n < linked.formulas
    → needs_of (told_edges linked) n ≡ linked_from linked n
needs-told linked n below =
    get_or-map-range_with_len (linked_from linked) 0 linked.formulas n n [] below (omega arith)

-- the links of a formula lead to vertices
formula_leads : (linked : Linked) → AreGrouped linked → (n u : ℕ)
    → is_number_of (needs_of linked.links n) u ≡ true
    → (u < length linked.links) × ((u < linked.formulas) ⊎ (linked.formulas ≤ u))
formula_leads linked grouped n u is =
    ((link_to linked grouped n u is).0, cases_lt u linked.formulas)

pub told_turn : (w : Waiting) (linked : Linked) → AreGrouped linked → (asks : ℕ → Bool)
    (turns behind : List ℕ) (n : ℕ)
    → AreJoined w linked (behind_at linked.formulas turns) behind linked.formulas
    → n < linked.formulas
    → cond (asks n) 0
    (joined_of w linked.formulas (turn_at linked.formulas behind) (needs_of linked.links n))
    ≡ turn_after w asks (told_edges linked) turns n
told_turn w linked grouped asks turns behind n so below =
    let most = linked.formulas in
    let own : joined_of w most (turn_at most behind) (needs_of linked.links n)
    ≡ joined_of w most (behind_at most turns) (linked_from linked n) =
    links_joined w linked (behind_at most turns) behind most n so
    (formula_leads linked grouped n) in
    ap (cond (asks n) 0) own
    ∙ (λ i. cond (asks n) 0 (joined_of w (sym (length-told linked) i)
    (behind_at (sym (length-told linked) i) turns) (sym (needs-told linked n below) i)))
