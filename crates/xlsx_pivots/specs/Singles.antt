-- What a pivot table has exactly one of.
use Rattle.std.specs.Prelude.{◌≡◌, ⊤, ℕ, List, Option, Some, None, Result, Ok, Err}
use Rattle.xlsx_error.specs.declared.error.XlsxError.{XlsxError}
use Rattle.xlsx_sections.specs.Words.{Refusal, PlainRefusal, plain, plain_told, lacks_pivot_name}
use Rattle.xlsx_sections.specs.Words.{many_pivot_names, lacks_definitions, many_definitions}
use Rattle.xlsx_sections.specs.Words.{lacks_records, many_records}
use Rattle.xlsx_pivots.specs.declared.single.Single.{Single}
use Rattle.xlsx_pivots.specs.declared.single.Single.TheVariants as single

-- the refusal of a pivot table that lacks its name, its definitions or its records
abbrev pub lacking : Single → PlainRefusal
lacking single.Name = lacks_pivot_name
lacking single.Definitions = lacks_definitions
lacking single.Records = lacks_records

-- the refusal of a pivot table that has more than one name, or definitions or records at more than
-- one place
abbrev pub many : Single → PlainRefusal
many single.Name = many_pivot_names
many single.Definitions = many_definitions
many single.Records = many_records

-- what is kept of one more, behind what was kept
abbrev pub kept_with :
    Single → Option (List ℕ) → Option (List ℕ) → Result (Option (List ℕ)) Refusal
kept_with single kept None = Ok kept
kept_with single None (Some own) = Ok (Some own)
kept_with single (Some first) (Some own) = Err (plain (many single))

-- what is kept behind another find, which there must be at most once
abbrev pub single_kept_by :
    Single → Option (List ℕ) → Result (Option (List ℕ)) Refusal →
    Result (Option (List ℕ)) Refusal
single_kept_by single kept (Ok own) = kept_with single kept own
single_kept_by single kept (Err refusal) = Err refusal

-- an error tells of what a pivot table lacks
abbrev pub TellsLack : Single → XlsxError → Type 0
TellsLack single error = plain_told error ≡ Some (lacking single)

-- the refusals of which an error of a pivot table tells
abbrev pub IsPivotRefusal : PlainRefusal → Type 0
IsPivotRefusal lacks_pivot_name = ⊤
IsPivotRefusal many_pivot_names = ⊤
IsPivotRefusal lacks_definitions = ⊤
IsPivotRefusal many_definitions = ⊤
IsPivotRefusal lacks_records = ⊤
IsPivotRefusal many_records = ⊤
IsPivotRefusal _ = ⊥
