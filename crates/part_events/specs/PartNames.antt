-- The names of parts, each with the place of its first part.
use Rattle.std.specs.Prelude.{◌≡◌, ℕ, suc, ◌<◌, List, [], ◌∷◌, length, if◌then◌else◌, Option, Some}
use Rattle.std.specs.Prelude.{None, option_map, Vec}
use Rattle.std.specs.BTreeMap.{BTreeMap, get_by}
use Rattle.std.specs.Cmp.Lexicographic.{slice_cmp}
use Rattle.std.specs.Ordering.{nat_cmp}
use Rattle.std.specs.Str.{bytes_eq}
use Rattle.std.specs.declared.alloc.Global.{Global}
use Rattle.part_events.specs.Package.{Part, folded}
use Rattle.part_events.specs.declared.part_names.PartNames.{PartNames}

-- the place of the first part whose name is compared as this text
abbrev pub place_of : List Part → List ℕ → Option ℕ
place_of [] key = None
place_of (part ∷ parts) key =
    if bytes_eq (folded part.name) key then Some 0 else option_map suc (place_of parts key)

-- the place that is kept for the text as which a part's name is compared
abbrev pub place_by : BTreeMap (Vec ℕ Global) ℕ → List ℕ → Option ℕ
place_by places key = get_by (λ kept. slice_cmp nat_cmp key kept.items) places

-- each part is found by its name, and there is room to look it up
pub record FindsParts (names : PartNames) (parts : List Part) : Type 0 where
  pub kept : (key : List ℕ) → place_by names.places key ≡ place_of parts key
  pub fits : (key : List ℕ) → length names.buffer.items < length key → place_of parts key ≡ None
