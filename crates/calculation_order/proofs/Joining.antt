-- Turns joined: the latest or the earliest of several, of lists end to end, of all that lists have.
use Rattle.std.proofs.Common.{◌≡◌, ◌∙◌, ℕ, ◌≤◌, true, List, [], ◌∷◌, ◌++◌, refl, sym, ap, arith}
use Rattle.std.proofs.Common.{flat_map}
use Rattle.calculation_order.specs.Edges.{is_number_of}
use Rattle.calculation_order.specs.Turns.{joined, joined_of, turn_of_none}
use Rattle.calculation_order.specs.declared.turns.Waiting.{Waiting}
use Rattle.calculation_order.specs.declared.turns.Waiting.TheVariants.{ForAll, ForAny}
use Rattle.calculation_order.proofs.Members.{in_head, in_tail}

pub joined_assoc : (w : Waiting) (a b c : ℕ)
    → joined w (joined w a b) c ≡ joined w a (joined w b c)
joined_assoc ForAll a b c = omega arith
joined_assoc ForAny a b c = omega arith

pub joined_comm : (w : Waiting) (a b : ℕ) → joined w a b ≡ joined w b a
joined_comm ForAll a b = omega arith
joined_comm ForAny a b = omega arith

-- turns joined are no later than none, where one is waited for
any_below : (most : ℕ) (turn : ℕ → ℕ) (ns : List ℕ) → joined_of ForAny most turn ns ≤ most
any_below most turn [] = omega arith
any_below most turn (n ∷ ns) = omega (arith, any_below most turn ns)

pub joined_of_below : (w : Waiting) (most : ℕ) (turn : ℕ → ℕ) (ns : List ℕ)
    → ((n : ℕ) → turn n ≤ most) → joined_of w most turn ns ≤ most
joined_of_below ForAll most turn [] below = omega arith
joined_of_below ForAll most turn (n ∷ ns) below =
    omega (arith, below n, joined_of_below ForAll most turn ns below)
joined_of_below ForAny most turn ns below = any_below most turn ns

pub none_joined : (w : Waiting) (most : ℕ) (turn : ℕ → ℕ) (ns : List ℕ)
    → joined w (turn_of_none w most) (joined_of w most turn ns) ≡ joined_of w most turn ns
none_joined ForAll most turn ns = omega arith
none_joined ForAny most turn ns = omega (arith, any_below most turn ns)

-- joining none changes nothing, if it changed nothing before
pub none_kept : (w : Waiting) (most a b : ℕ) → joined w a (turn_of_none w most) ≡ a
    → joined w (joined w a b) (turn_of_none w most) ≡ joined w a b
none_kept ForAll most a b kept = omega arith
none_kept ForAny most a b kept = omega arith

-- one turn alone
pub joined_one : (w : Waiting) (most : ℕ) (turn : ℕ → ℕ) (n : ℕ) → turn n ≤ most
    → joined_of w most turn (n ∷ []) ≡ turn n
joined_one ForAll most turn n below = omega arith
joined_one ForAny most turn n below = omega arith

pub joined_of-append : (w : Waiting) (most : ℕ) (turn : ℕ → ℕ) (ns ms : List ℕ)
    → joined_of w most turn (ns ++ ms)
    ≡ joined w (joined_of w most turn ns) (joined_of w most turn ms)
joined_of-append w most turn [] ms = sym (none_joined w most turn ms)
joined_of-append w most turn (n ∷ ns) ms =
    ap (joined w (turn n)) (joined_of-append w most turn ns ms)
    ∙ sym (joined_assoc w (turn n) (joined_of w most turn ns) (joined_of w most turn ms))

pub joined_of-flat_map : (w : Waiting) (most : ℕ) (turn : ℕ → ℕ) (f : ℕ → List ℕ) (ns : List ℕ)
    → joined_of w most turn (flat_map f ns) ≡ joined_of w most (λ n. joined_of w most turn (f n)) ns
joined_of-flat_map w most turn f [] = refl
joined_of-flat_map w most turn f (n ∷ ns) =
    joined_of-append w most turn (f n) (flat_map f ns)
    ∙ ap (joined w (joined_of w most turn (f n))) (joined_of-flat_map w most turn f ns)

pub joined_of-same : (w : Waiting) (most : ℕ) (turn other : ℕ → ℕ) (ns : List ℕ)
    → ((n : ℕ) → is_number_of ns n ≡ true → turn n ≡ other n)
    → joined_of w most turn ns ≡ joined_of w most other ns
joined_of-same w most turn other [] same = refl
joined_of-same w most turn other (n ∷ ns) same =
    let rest = joined_of-same w most turn other ns (λ m is. same m (in_tail n ns m is)) in
    λ i. joined w (same n (in_head n ns) i) (rest i)
