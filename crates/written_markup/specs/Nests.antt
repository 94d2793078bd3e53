-- Events that nest in themselves: each end among them closes a start among them.
use Rattle.std.specs.Prelude.{◌≡◌, ℕ, suc, List, [], ◌∷◌, ◌++◌, reverse, Bool, false}
use Rattle.part_events.specs.Words.{Tag, Event, Leaf, leaf, is_flaw, open_start, whole_rest}
use Rattle.part_events.specs.Words.{content, is_closed, behind, outermost_from}
use Rattle.written_markup.specs.Markup.{element}

-- leaves that are no flaws, and elements of such events, in a row
pub data IsNested : List Event → Type 0 where
  none : IsNested []
  leaf_then : (kind : Leaf) → is_flaw kind ≡ false → {rest : List Event} → IsNested rest
      → IsNested (leaf kind ∷ rest)
  element_then : (name attributes : List ℕ) {inside rest : List Event} → IsNested inside
      → IsNested rest → IsNested (element name attributes inside ++ rest)

-- What reads forward passes over the events and goes on behind them; looking back from behind
-- them finds what stands before them.
pub record NestsItself (events : List Event) : Type 0 where
  pub content : (inside : ℕ) (rest : List Event)
      → content inside (events ++ rest) ≡ events ++ content inside rest
  pub closed : (inside : ℕ) (rest : List Event)
      → is_closed inside (events ++ rest) ≡ is_closed inside rest
  pub behind : (inside : ℕ) (rest : List Event)
      → behind inside (events ++ rest) ≡ behind inside rest
  pub starts : (out : ℕ) (past : List Event)
      → open_start out (reverse events ++ past) ≡ open_start out past
  pub whole : (past rest : List Event)
      → whole_rest past (events ++ rest) ≡ events ++ whole_rest (reverse events ++ past) rest
  pub outermost : (wanted : Tag → Bool) (within : ℕ) (rest : List Event)
      → outermost_from wanted (suc within) (events ++ rest)
      ≡ outermost_from wanted (suc within) rest
