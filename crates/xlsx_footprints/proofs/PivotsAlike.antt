-- The pivot tables of sheets whose parts two packages have in the same way, and their caches.
use Rattle.std.proofs.Common.{◌≡◌, ℕ, List, [], Option, ◌∙◌, ap, subst, inl, inr}
use Rattle.std.specs.Prelude.{MatchOption, option_and_then}
use Rattle.part_events.specs.Words.{Event, Part, part_of}
use Rattle.xlsx_error.specs.declared.error.XlsxError.{XlsxError}
use Rattle.xlsx_parts.specs.Words.{section_said, SheetPath, sheet_at, IfThere}
use Rattle.looks.proofs.Alike.{alike_back}
use Rattle.xlsx_pivots.specs.Words.{pivots_of, PivotsCause, pivots_on_look}
use Rattle.xlsx_pivot_cache.specs.Words.{FieldSaid, fields_said, fields_at, FieldsCause}
use Rattle.xlsx_pivot_cache.specs.Words.{records_name, rows_in, names_first, rows_at, cache_rows}
use Rattle.xlsx_pivot_cache.specs.Words.{RowsCause, OpenRowsCause, CacheCause}
use Rattle.xlsx_core.specs.Words.{HaveSamePart}
use Rattle.xlsx_footprints.specs.Footprints.{Each, HaveSamePivots}
use Rattle.xlsx_footprints.proofs.PartsAlike.{lacks_over, there_over}
use Rattle.xlsx_footprints.proofs.SaidAlike.{then_over, cause_over, looks_over, looks_cause_over}

-- ---- those of sheets

-- the pivot tables of a sheet are the same in both
abbrev SamePivots : List Part → List Part → SheetPath → Type 0
SamePivots one two sheet = HaveSamePivots one two sheet.path

pub all_pivots_over : (one two : List Part) (folder : List ℕ) (sheets : List SheetPath)
    → Each (SamePivots one two) sheets → pivots_of one folder sheets ≡ pivots_of two folder sheets
all_pivots_over one two folder sheets same = looks_over (pivots_on_look folder) one two sheets same

pub all_pivots_cause_over : (one two : List Part) (sheets : List SheetPath) (error : XlsxError)
    → Each (SamePivots one two) sheets → PivotsCause one sheets error
    → PivotsCause two sheets error
all_pivots_cause_over one two sheets error same cause =
    looks_cause_over (pivots_on_look []) one two sheets error same cause

pub pivots_back : (one two : List Part) (path : List ℕ) → HaveSamePivots one two path
    → HaveSamePivots two one path
pivots_back one two path same = alike_back (pivots_on_look [] (sheet_at [] path)) one two same

-- ---- a cache

fields_over : (one two : List Part) (path : List ℕ) → HaveSamePart one two path
    → fields_at one path ≡ fields_at two path
fields_over one two path same = ap (option_and_then fields_said) same

pub cache_over : (one two : List Part) (definitions records : List ℕ)
    → HaveSamePart one two definitions → HaveSamePart one two records
    → cache_rows one definitions records ≡ cache_rows two definitions records
cache_over one two definitions records first second =
    then_over (fields_at one definitions) (rows_at one records) (rows_at two records)
    (λ fields is. ap (λ (events : Option (List Event)). names_first fields
    (option_and_then (section_said records_name (rows_in fields)) events)) second)
    ∙ ap (option_and_then (rows_at two records)) (fields_over one two definitions first)

open_cause_over : (one two : List Part) (definitions records : List ℕ) (error : XlsxError)
    → HaveSamePart one two definitions → HaveSamePart one two records
    → OpenRowsCause one definitions records error → OpenRowsCause two definitions records error
open_cause_over one two definitions records error first second (inl (inl lacks)) =
    inl (inl (lacks_over one two definitions error first lacks))
open_cause_over one two definitions records error first second (inl (inr cause)) =
    inl (inr (there_over FieldsCause one two definitions error first cause))
open_cause_over one two definitions records error first second (inr lacks) =
    inr (lacks_over one two records error second lacks)

pub cache_cause_over : (one two : List Part) (definitions records : List ℕ) (error : XlsxError)
    → HaveSamePart one two definitions → HaveSamePart one two records
    → CacheCause one definitions records error → CacheCause two definitions records error
cache_cause_over one two definitions records error first second (inl cause) =
    inl (open_cause_over one two definitions records error first second cause)
cache_cause_over one two definitions records error first second (inr cause) =
    inr (subst (λ (found : Option (List FieldSaid)). MatchOption found ⊥
    (λ fields. IfThere (RowsCause fields) (part_of two records) error))
    (fields_over one two definitions first)
    (cause_over (fields_at one definitions)
    (λ fields. IfThere (RowsCause fields) (part_of one records) error)
    (λ fields. IfThere (RowsCause fields) (part_of two records) error)
    (λ fields is. there_over (RowsCause fields) one two records error second) cause))
