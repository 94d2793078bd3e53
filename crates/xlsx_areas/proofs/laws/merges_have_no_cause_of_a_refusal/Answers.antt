use Rattle.std.proofs.Common.{[], codes}
use Rattle.xlsx_sections.specs.Words.{always}
use Rattle.xlsx_parts.proofs.SoundParts.{no_lacking_cause, no_whole_cause}
use Rattle.looks.proofs.Sound.{said_has_no_cause}
use Rattle.xlsx_areas.specs.MergedCells.{merges_in}
use Rattle.xlsx_areas.specs.Regions.{all_regions_look}
use Rattle.xlsx_areas.proofs.laws.merges_have_no_cause_of_a_refusal.Goals as goal

pub returns-clause-merges : goal.returns-clause-merges
returns-clause-merges c = λ events areas error says cause.
    no_lacking_cause (codes "mergeCells") (always []) [] merges_in events error areas says cause

pub returns-clause-regions : goal.returns-clause-regions
returns-clause-regions c = λ events areas error says cause.
    no_whole_cause merges_in events error areas says cause

pub returns-clause-all : goal.returns-clause-all
returns-clause-all c = λ parts sheets found error says cause.
    said_has_no_cause (all_regions_look sheets) parts found error says cause
