use Rattle.std.proofs.Common.{codes}
use Rattle.xlsx_parts.proofs.SoundParts.{no_first_said_cause}
use Rattle.looks.proofs.Sound.{said_has_no_cause}
use Rattle.xlsx_tables.specs.TableParts.{table_said}
use Rattle.xlsx_tables.specs.Tables.{all_tables_look}
use Rattle.xlsx_tables.proofs.laws.tables_have_no_cause_of_a_refusal.Goals as goal

pub returns-clause-table : goal.returns-clause-table
returns-clause-table c = λ events table error says cause.
    no_first_said_cause (codes "table") (codes "Table") table_said events error table says cause

pub returns-clause-tables : goal.returns-clause-tables
returns-clause-tables c = λ parts sheets found error says cause.
    said_has_no_cause (all_tables_look sheets) parts found error says cause
