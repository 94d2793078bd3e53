-- What is kept of relationships, apart from where their texts lie in memory.
use Rattle.std.specs.Prelude.{ℕ, List, Option, option_map, string_bytes, String}
use Rattle.std.specs.Arc.{arc_str_bytes}
use Rattle.std.specs.BTreeMap.{BTreeMap, get_by_text}
use Rattle.std.specs.declared.alloc.Global.{Global}
use Rattle.xlsx_relationships.specs.Relationships.{Related}
use Rattle.xlsx_relationships.specs.declared.relationships.Relationship.{Relationship}

-- the target and the type of a relationship
abbrev pub relationship_of : Relationship → Related
relationship_of r = record { target = arc_str_bytes r.target; typ = string_bytes r.typ }

-- the relationship that is kept for an Id
abbrev pub related_by_id : BTreeMap (String Global) Relationship → List ℕ → Option Related
related_by_id relationships id = option_map relationship_of (get_by_text relationships id)
