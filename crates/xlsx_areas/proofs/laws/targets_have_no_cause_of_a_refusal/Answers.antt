use Rattle.std.proofs.Common.{[], codes}
use Rattle.part_events.specs.Words.{part_of}
use Rattle.xlsx_sections.specs.Words.{always}
use Rattle.xlsx_parts.proofs.SoundParts.{no_said_cause}
use Rattle.looks.proofs.Sound.{said_has_no_cause}
use Rattle.xlsx_relationships.specs.Words.{link_targets_in, related_look, relationships_beside}
use Rattle.xlsx_areas.proofs.laws.targets_have_no_cause_of_a_refusal.Goals as goal

pub returns-clause-related : goal.returns-clause-related
returns-clause-related c = λ parts wanted path found error says cause.
    said_has_no_cause (related_look wanted path) parts found error says cause

pub returns-clause-links : goal.returns-clause-links
returns-clause-links c = λ parts path found error says cause.
    no_said_cause (codes "Relationships") (always (codes "Relationships")) [] link_targets_in
    (part_of parts (relationships_beside path)) error found says cause
