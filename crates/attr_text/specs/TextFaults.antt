-- When a call on a text is refused.
use Rattle.std.specs.Prelude.{codes, ◌++◌, ◌≡◌, ⊤, ℕ, List, None, IsSome, Err}
use Rattle.std.specs.Fmt.{decimal}
use Rattle.attr_text.specs.Text.{entity_character, decoded}
use Rattle.attr_text.specs.declared.fault.AttrFault.{AttrFault}
use Rattle.attr_text.specs.declared.fault.AttrFault.TheVariants.{ExpectedEq, UnquotedValue}
use Rattle.attr_text.specs.declared.fault.TextFault.{TextFault}
use Rattle.attr_text.specs.declared.fault.TextFault.TheVariants.{Entity, OutOfMemory}

-- the text is refused at the place that the fault names; want of memory may come at any text
abbrev pub DecodeFails : List ℕ → TextFault → Type 0
DecodeFails text (Entity at) = decoded text ≡ Err at
DecodeFails text OutOfMemory = ⊤

-- the name has no character, or memory is wanting for the one that it has
abbrev pub EntityFails : List ℕ → TextFault → Type 0
EntityFails name (Entity at) = (entity_character name ≡ None) × (at ≡ 0)
EntityFails name OutOfMemory = IsSome (entity_character name)

-- the text that tells why a text can't be decoded
abbrev pub fault_text : TextFault → List ℕ
fault_text (Entity at) = codes "unknown entity at " ++ decimal at
fault_text OutOfMemory = codes "out of memory"

-- what is wrong with an attribute text, in words
abbrev pub attribute_description : AttrFault → List ℕ
attribute_description (ExpectedEq at) = codes "expected '='"
attribute_description (UnquotedValue at) = codes "unquoted value"

-- the byte at which an attribute text is wrong
abbrev pub attribute_place : AttrFault → ℕ
attribute_place (ExpectedEq at) = at
attribute_place (UnquotedValue at) = at

-- the text of a fault of attributes: what is wrong, and where
abbrev pub attribute_text : AttrFault → List ℕ
attribute_text fault =
    attribute_description fault ++ (codes " at " ++ decimal (attribute_place fault))
