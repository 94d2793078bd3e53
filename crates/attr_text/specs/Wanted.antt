-- The parts of a lookup as the code makes it.
use Rattle.std.specs.Prelude.{ℕ, Bool, List, [], ◌∷◌, if◌then◌else◌, Option, None, Some, Result}
use Rattle.std.specs.Option.{option_or}
use Rattle.std.specs.Str.{bytes_eq}
use Rattle.attr_text.specs.Attributes.{value_of, value_of_local, has_local_name}
use Rattle.attr_text.specs.declared.fault.AttrFault.{AttrFault}
use Rattle.attr_text.specs.declared.lookup.Wanted.{Wanted}
use Rattle.attr_text.specs.declared.lookup.Wanted.TheVariants.{Key, LocalName}

-- a key is the one that is wanted, whole or by its local name
abbrev pub accepts : Wanted → List ℕ → Bool
accepts (Key wanted) key = bytes_eq wanted.now key
accepts (LocalName wanted) key = has_local_name wanted.now key

-- the lookup of what is wanted, a whole key or a local name
abbrev pub answer_of : Wanted → List ℕ → Result (Option (List ℕ)) AttrFault
answer_of (Key wanted) text = value_of wanted.now text
answer_of (LocalName wanted) text = value_of_local wanted.now text

-- what is found for a wanted key once this pair was read too
abbrev pub value_noted : List ℕ → List ℕ → List ℕ → Option (List ℕ) → Option (List ℕ)
value_noted key value wanted found =
    option_or found (if bytes_eq wanted key then Some value else None)

-- what is found for each wanted key once this pair was read too
abbrev pub noted : List ℕ → List ℕ → List (List ℕ) → List (Option (List ℕ)) → List (Option (List ℕ))
noted key value [] values = []
noted key value (wanted ∷ others) [] = []
noted key value (wanted ∷ others) (found ∷ values) =
    value_noted key value wanted found ∷ noted key value others values
