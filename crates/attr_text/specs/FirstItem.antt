-- What the reading of one item found.
use Rattle.std.specs.Prelude.{ℕ, List, Option, None, Some, Result, Ok, Err}
use Rattle.std.specs.Borrow.{Bor}
use Rattle.attr_text.specs.declared.fault.AttrFault.{AttrFault}
use Rattle.attr_text.specs.Attributes.{Front, nothing, broken, attribute}
use Rattle.attr_text.specs.declared.items.FirstItem.{FirstItem}
use Rattle.attr_text.specs.declared.items.FirstItem.TheVariants.{Nothing, Broken, Attribute}

-- what was found first in a text, by its bytes
abbrev pub front_read : FirstItem → Front
front_read Nothing = nothing
front_read (Broken fault) = broken fault
front_read (Attribute key value rest) = attribute key.now value.now rest.now

-- what was found first in a text, where nothing is `None` and an attribute is its three parts
abbrev pub front_of_parts : Option (Result (Bor (List ℕ) × Bor (List ℕ) × Bor (List ℕ)) AttrFault) →
    Front
front_of_parts None = nothing
front_of_parts (Some (Err fault)) = broken fault
front_of_parts (Some (Ok parts)) = attribute parts.0.now parts.1.now parts.2.now
