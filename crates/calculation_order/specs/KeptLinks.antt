-- Links as they are kept: all that vertices lead to, one behind the other, and where those of each
-- vertex end.
use Rattle.std.specs.Prelude.{ℕ, ◌&&◌, nat_le, Bool, List, [], ◌∷◌}
use Rattle.std.specs.List.{slice_range}

-- the lists that end at these places, of which the first begins at a place
abbrev pub cut_at : List ℕ → ℕ → List ℕ → List (List ℕ)
cut_at targets from [] = []
cut_at targets from (end ∷ ends) = slice_range targets from end ∷ cut_at targets end ends

-- the last of the places at which lists end, or where the first list would begin
abbrev pub last_link_end : ℕ → List ℕ → ℕ
last_link_end from [] = from
last_link_end from (end ∷ ends) = last_link_end end ends

-- the places rise from one, and none is above another
abbrev pub rise_within : ℕ → ℕ → List ℕ → Bool
rise_within most from [] = nat_le from most
rise_within most from (end ∷ ends) = nat_le from end && rise_within most end ends
