-- The events of a text, by what stands first in it and what follows.
use Rattle.std.proofs.Common.{◌≡◌, ℕ, zero, suc, ◌-◌, List, [], ◌∷◌, ◌++◌, drop, refl, ap}
use Rattle.part_events.specs.Words.{Event}
use Rattle.markup.specs.Front.{MarkupFront, flawed, piece, front_in_markup}
use Rattle.markup.specs.Markup.{events_of_piece, events_from, events_behind, markup_events}

events_behind_drop : (bytes : List ℕ) (n : ℕ) → events_behind bytes n ≡ markup_events (drop n bytes)
unfolding events_behind markup_events
events_behind_drop [] zero = refl
events_behind_drop [] (suc n) = refl
events_behind_drop (b ∷ bytes) zero = refl
events_behind_drop (b ∷ bytes) (suc n) = events_behind_drop bytes n

-- what follows a piece are the events of the text behind it
pub events_in_order : (b : ℕ) (bytes : List ℕ)
    → markup_events (b ∷ bytes) ≡ events_from (λ n. markup_events (drop n bytes))
    (front_in_markup b bytes)
unfolding events_behind markup_events
events_in_order b bytes = by_front (front_in_markup b bytes) where
  by_front : (front : MarkupFront) → events_from (events_behind bytes) front
      ≡ events_from (λ n. markup_events (drop n bytes)) front
  by_front flawed = refl
  by_front (piece first size) =
      ap (λ (events : List Event). events_of_piece first ++ events)
      (events_behind_drop bytes (size - 1))

pub no_events : markup_events [] ≡ []
unfolding events_behind markup_events
no_events = refl
