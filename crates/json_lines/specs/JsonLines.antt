-- Values of JSON, each as a line of text (RFC 8259).
use Rattle.std.specs.Prelude.{◌≡◌, ◌≤◌, ℕ, List, ◌++◌, codes, Option, Some, None, ℤ, pos}
use Rattle.std.specs.Prelude.{FitsSigned}
use Rattle.std.specs.Int.{w32, w128}
use Rattle.json.specs.Json.{Json, Members, member, document, max_depth}
use Rattle.json.specs.Print.{print}
use Rattle.json.specs.Tree.{json_tokens, depth, HasNumbers}

-- the text of a value of JSON, without a space
abbrev pub json_text : Json → List ℕ
json_text value = print (json_tokens value)

-- the line of a value of JSON: its text and a line feed
abbrev pub json_line : Json → List ℕ
json_line value = json_text value ++ codes "\n"

-- a member of this key in front of others, where there is a value for it
abbrev pub optional_member : List ℕ → Option Json → Members → Members
optional_member key None members = members
optional_member key (Some value) members = member key value members

-- a whole number and a power of ten that a decimal can have: zero has the power 0
pub record IsOfDecimal (number : ℤ × ℤ) : Type 0 where
  pub whole : FitsSigned w128 number.0
  pub power : FitsSigned w32 number.1
  pub zero : number.0 ≡ pos 0 → number.1 ≡ pos 0

-- ---- laws

-- a value whose numbers are written as JSON has them, and that nests no deeper than a reader goes,
-- is what its text says
abbrev pub AreReadBack : Type 0
AreReadBack =
    (value : Json) → HasNumbers value → depth value ≤ max_depth →
    document (json_text value) ≡ Some value
