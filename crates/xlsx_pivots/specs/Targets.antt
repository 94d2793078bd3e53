-- Where the parts of a pivot table's cache lie (ECMA-376 part 2, section 9.3).
use Rattle.std.specs.Prelude.{⊤, ℕ, List, [], ◌∷◌, ◌++◌, nat_eq, codes, if◌then◌else◌, Option, Some}
use Rattle.std.specs.Prelude.{None, Result, Ok, Err}
use Rattle.std.specs.Coded.{Unit-prop}
use Rattle.std.specs.List.{starts_with}
use Rattle.part_events.specs.Words.{Event, Part, PlacedTag}
use Rattle.xlsx_sections.specs.Words.{all_changes, always, Refusal}
use Rattle.looks.specs.Words.{EventsAsk, Look, and_then, asks, in_section, look_said, mapped}
use Rattle.looks.specs.Words.{needing, of_part, refuses, says}
use Rattle.xlsx_relationships.specs.Words.{relationships_beside, without_slash, target_path}
use Rattle.xlsx_relationships.specs.Words.{typed_target, relationship_starts}
use Rattle.xlsx_pivots.specs.Singles.{single_kept_by, TellsLack}
use Rattle.xlsx_pivots.specs.declared.single.Single.{Single}
use Rattle.xlsx_pivots.specs.declared.single.Single.TheVariants as single

-- the type of the relationships from a pivot table to the definitions of its cache
abbrev pub definitions_type : List ℕ
definitions_type =
    codes "http://schemas.openxmlformats.org/officeDocument/2006/relationships/pivotCacheDefinition"

-- the type of the relationship to the records of a cache
abbrev pub records_type : List ℕ
records_type =
    codes "http://schemas.openxmlformats.org/officeDocument/2006/relationships/pivotCacheRecords"

-- a target behind the one that was kept: an empty one doesn't count before the first that isn't
-- empty, and does behind it
abbrev pub counted : Option (List ℕ) → Option (List ℕ) → Option (List ℕ)
counted (Some first) target = target
counted None None = None
counted None (Some []) = None
counted None (Some (byte ∷ target)) = Some (byte ∷ target)

-- a target that was found, beside the one that is kept
abbrev pub counted_target :
    Option (List ℕ) → Result (Option (List ℕ)) Refusal → Result (Option (List ℕ)) Refusal
counted_target kept (Ok target) = Ok (counted kept target)
counted_target kept (Err refusal) = Err refusal

-- what was kept isn't empty
abbrev pub HasText : Option (List ℕ) → Type 0
HasText None = ⊤
HasText (Some []) = ⊥
HasText (Some (byte ∷ target)) = ⊤

-- a target says in one way alone that it isn't empty
pub HasText-prop : (kept : Option (List ℕ)) → IsProp (HasText kept)
HasText-prop None = Unit-prop
HasText-prop (Some []) = λ is other. absurd is
HasText-prop (Some (byte ∷ target)) = Unit-prop

-- one more target, if the relationship is of this type
abbrev pub target_kept :
    List ℕ → Single → PlacedTag → Option (List ℕ) → Result (Option (List ℕ)) Refusal
target_kept wanted single start kept =
    single_kept_by single kept (counted_target kept (typed_target wanted start))

-- the only target of one type that the relationships of a section name
abbrev pub single_target_in : List ℕ → Single → List Event → Result (Option (List ℕ)) Refusal
single_target_in wanted single inside =
    all_changes (target_kept wanted single) (relationship_starts inside) None

-- what is asked of the events of relationships: their single target of one type, which has to be
-- there
abbrev pub target_ask : List ℕ → Single → EventsAsk (List ℕ)
target_ask wanted single =
    let name = codes "Relationships" in
    needing (TellsLack single) (in_section name (always name) (single_target_in wanted single))

-- the single target of one type that the relationships beside the part at a path name
abbrev pub target_look : List ℕ → Single → List ℕ → Look (List ℕ)
target_look wanted single path =
    let beside = relationships_beside path in
    asks beside (of_part beside (target_ask wanted single))

-- the path that a target leads to, where it leads somewhere: one that counts does, and so there is
-- no cause that it doesn't
abbrev pub path_led : Option (List ℕ) → Look (List ℕ)
path_led (Some there) = says there
path_led None = refuses (λ error. ⊥)

-- the path to which a target of the part at a path leads
abbrev pub led_look : List ℕ → List ℕ → Look (List ℕ)
led_look path target = path_led (target_path path target)

-- the path of the definitions of the pivot table whose part is at a path
abbrev pub definitions_look : List ℕ → Look (List ℕ)
definitions_look path =
    and_then (target_look definitions_type single.Definitions path) (led_look path)

-- what the parts of a package say of it
abbrev pub definitions_at : List Part → List ℕ → Option (List ℕ)
definitions_at parts path = look_said (definitions_look path) parts

-- The path of the records to which a target leads. One that doesn't lie in the workbook's folder,
-- in one whose name begins with `pivotCache`, is put there.
abbrev pub in_caches : List ℕ → List ℕ → List ℕ
in_caches caches target =
    if starts_with nat_eq target caches then target else (caches ++ codes "/") ++ target

-- the path of the records, by their target
abbrev pub records_path : List ℕ → List ℕ → List ℕ
records_path folder target = in_caches (folder ++ codes "pivotCache") (without_slash target)

-- the path of the records of the definitions whose part is at a path
abbrev pub records_look : List ℕ → List ℕ → Look (List ℕ)
records_look folder path =
    mapped (records_path folder) (target_look records_type single.Records path)
