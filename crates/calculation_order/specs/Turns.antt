-- Turns. Formulas are found turn by turn, counted from 0: in the order of calculation one is found
-- when all that it needs are, and among those that depend on something when one is that it needs.
-- A formula that is never found has the number of formulas in the place of its turn.
use Rattle.std.specs.Prelude.{ℕ, ◌≡◌, ◌⊎◌, ◌<◌, ◌≤◌, ◌+◌, ◌==◌, min, max, Bool, false}
use Rattle.std.specs.Prelude.{if◌then◌else◌, List, [], ◌∷◌, length, map, filter}
use Rattle.std.specs.List.{flat_map, slice_index_or}
use Rattle.calculation_order.specs.Edges.{needs_of, numbers_below}
use Rattle.calculation_order.specs.Links.{Linked, members}
use Rattle.calculation_order.specs.declared.turns.Waiting.{Waiting}
use Rattle.calculation_order.specs.declared.turns.Waiting.TheVariants.{ForAll, ForAny}

-- the turn in which all of none are found, and that in which one of none is
abbrev pub turn_of_none : Waiting → ℕ → ℕ
turn_of_none ForAll most = 0
turn_of_none ForAny most = most

-- the later of two turns, or the earlier
abbrev pub joined : Waiting → ℕ → ℕ → ℕ
joined ForAll a b = max a b
joined ForAny a b = min a b

-- the latest of the turns of formulas, or the earliest
abbrev pub joined_of : Waiting → ℕ → (ℕ → ℕ) → List ℕ → ℕ
joined_of waiting most turn [] = turn_of_none waiting most
joined_of waiting most turn (n ∷ ns) = joined waiting (turn n) (joined_of waiting most turn ns)

-- the turn that follows one, at most the last of all
abbrev pub turn_behind : ℕ → ℕ → ℕ
turn_behind most turn = min (turn + 1) most

-- the turn of a number by a list, which tells none of numbers behind its end
abbrev pub turn_at : ℕ → List ℕ → ℕ → ℕ
turn_at most turns n = slice_index_or turns n most

-- the first turn in which what needs a formula can be found for its sake
abbrev pub behind_at : ℕ → List ℕ → ℕ → ℕ
behind_at most turns n = turn_behind most (turn_at most turns n)

-- the formulas that ask, by a list that tells false of numbers behind its end
abbrev pub asks_at : List Bool → ℕ → Bool
asks_at asks n = slice_index_or asks n false

-- the turn of a formula by the turns of those that it needs: the first one for one that asks
abbrev pub turn_after : Waiting → (ℕ → Bool) → List (List ℕ) → List ℕ → ℕ → ℕ
turn_after waiting asks edges turns n =
    if asks n then 0
    else joined_of waiting (length edges) (behind_at (length edges) turns) (needs_of edges n)

-- the turn of each formula by the turns of those that it needs
abbrev pub turns_after : Waiting → (ℕ → Bool) → List (List ℕ) → List ℕ → List ℕ
turns_after waiting asks edges turns =
    map (turn_after waiting asks edges turns) (numbers_below (length edges))

-- each formula has the turn that it gets by the turns of those that it needs
abbrev pub AreTurns : Waiting → (ℕ → Bool) → List (List ℕ) → List ℕ → Type 0
AreTurns waiting asks edges turns = turns ≡ turns_after waiting asks edges turns

-- the turns of each formula and of each vertex from one on are told: those of the formulas for
-- which it stands, joined
pub record AreJoined (waiting : Waiting) (linked : Linked) (turn : ℕ → ℕ) (behind : List ℕ)
    (from : ℕ) : Type 0 where
  pub size : length behind ≡ length linked.links
  pub joined_at : (v : ℕ) → v < length linked.links → (v < linked.formulas) ⊎ (from ≤ v) →
      turn_at linked.formulas behind v
      ≡ joined_of waiting linked.formulas turn (members linked v)

-- the formulas of one turn, in order of their numbers
abbrev pub of_turn : List ℕ → ℕ → List ℕ
of_turn turns turn =
    filter (λ n. turn_at (length turns) turns n == turn) (numbers_below (length turns))

-- the formulas turn by turn, without those that are never found
abbrev pub by_turns : List ℕ → List ℕ
by_turns turns = flat_map (of_turn turns) (numbers_below (length turns))
