-- The tables of sheets whose parts two packages have in the same way.
use Rattle.std.proofs.Common.{◌≡◌, ℕ, List}
use Rattle.part_events.specs.Words.{Part}
use Rattle.xlsx_error.specs.declared.error.XlsxError.{XlsxError}
use Rattle.xlsx_parts.specs.Words.{SheetPath}
use Rattle.looks.proofs.Alike.{alike_back}
use Rattle.xlsx_tables.specs.Tables.{tables_look, tables_on_look, tables_of, TablesCause}
use Rattle.xlsx_footprints.specs.Footprints.{Each, HaveSameTables}
use Rattle.xlsx_footprints.proofs.SaidAlike.{looks_over, looks_cause_over}

-- the tables of a sheet are the same in both
abbrev SameTables : List Part → List Part → SheetPath → Type 0
SameTables one two sheet = HaveSameTables one two sheet.path

pub all_tables_over : (one two : List Part) (sheets : List SheetPath)
    → Each (SameTables one two) sheets → tables_of one sheets ≡ tables_of two sheets
all_tables_over one two sheets same = looks_over tables_on_look one two sheets same

pub all_tables_cause_over : (one two : List Part) (sheets : List SheetPath) (error : XlsxError)
    → Each (SameTables one two) sheets → TablesCause one sheets error
    → TablesCause two sheets error
all_tables_cause_over one two sheets error same cause =
    looks_cause_over tables_on_look one two sheets error same cause

pub tables_back : (one two : List Part) (path : List ℕ) → HaveSameTables one two path
    → HaveSameTables two one path
tables_back one two path same = alike_back (tables_look path) one two same
