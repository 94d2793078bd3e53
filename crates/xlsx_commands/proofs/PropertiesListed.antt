-- The properties of a workbook as they are kept, and as their lines have them.
use Rattle.std.proofs.Common.{◌≡◌, inl, inr, refl, ℕ, List, [], ◌∷◌, map, true, false, Some, String}
use Rattle.std.proofs.Common.{Global, string_bytes}
use Rattle.std.specs.Prelude.{if◌then◌else◌, option_map}
use Rattle.std.specs.BTreeMap.{is_at}
use Rattle.std.specs.Cmp.Lexicographic.{slice_cmp}
use Rattle.std.specs.List.{AllByRecursion}
use Rattle.std.specs.List.Sorted.{IsStrictlySortedBy}
use Rattle.std.specs.Map.{keys_of, lookup}
use Rattle.std.specs.Ordering.{nat_cmp}
use Rattle.std.specs.declared.cmp.Ordering.{Ordering}
use Rattle.std.specs.declared.cmp.Ordering.TheVariants.{Less}
use Rattle.part_events.specs.Words.{Part}
use Rattle.xlsx_error.specs.declared.error.XlsxError.{XlsxError}
use Rattle.xlsx_properties.specs.Kept.{entry_texts}
use Rattle.looks.specs.Words.{look_said}
use Rattle.looks.proofs.Sound.{said_has_no_cause}
use Rattle.xlsx_properties.specs.Parts.{PropertiesSaid, properties_look}
use Rattle.xlsx_open.specs.Words.{OpensSoundly}
use Rattle.xlsx_commands.specs.PropertyLists.{ListedPropertiesCause, text_of_name, AreByName}
use Rattle.xlsx_commands.proofs.NamedSheets.{OpeningsNever}

abbrev Entry : Type 0
Entry = String Global × String Global

-- two names are compared by their bytes
abbrev named_cmp : String Global → String Global → Ordering
named_cmp one other = slice_cmp nat_cmp (string_bytes one) (string_bytes other)

-- a name has the text of its entry
pub held_is_listed : (name : List ℕ) (entries : List Entry)
    → option_map string_bytes
    (lookup (is_at (λ (k : String Global). slice_cmp nat_cmp name (string_bytes k))) entries)
    ≡ text_of_name (map entry_texts entries) name
held_is_listed name [] = refl
held_is_listed name (own ∷ entries) =
    elim (is_at (slice_cmp nat_cmp name) (string_bytes own.0)) as (λ b.
    option_map string_bytes (if b then Some own.1 else lookup
    (is_at (λ (k : String Global). slice_cmp nat_cmp name (string_bytes k))) entries)
    ≡ (if b then Some (string_bytes own.1) else text_of_name (map entry_texts entries) name)) [
      | true ↦ refl
      | false ↦ held_is_listed name entries
    ]

below_all : (key : String Global) (entries : List Entry)
    → AllByRecursion (λ (other : String Global). named_cmp key other ≡ Less) (keys_of entries)
    → AllByRecursion (λ (name : List ℕ). slice_cmp nat_cmp (string_bytes key) name ≡ Less)
    (keys_of (map entry_texts entries))
below_all key [] below = tt
below_all key (own ∷ entries) below = (below.0, below_all key entries below.1)

-- entries in the order of their keys are by name
pub listed_by_name : (entries : List Entry) → IsStrictlySortedBy named_cmp (keys_of entries)
    → AreByName (map entry_texts entries)
unfolding IsStrictlySortedBy
listed_by_name [] ordered = tt
listed_by_name (own ∷ entries) ordered =
    (below_all own.0 entries ordered.0, listed_by_name entries ordered.1)

pub listed_never : (parts : List Part) (said : PropertiesSaid) (error : XlsxError)
    → OpeningsNever → OpensSoundly parts → look_said properties_look parts ≡ Some said
    → ListedPropertiesCause parts error → ⊥
listed_never parts said error opened (opening, opens) say (inl cause) =
    opened parts opening error opens cause
listed_never parts said error opened sound say (inr (other, cause)) =
    said_has_no_cause properties_look parts said error say cause
