use Rattle.std.proofs.Common.{◌≡◌, ◌∷◌, [], List, Some, None, ap, sym, ◌∙◌, subst, length}
use Rattle.std.specs.Prelude.{option_map}
use Rattle.part_events.specs.Words.{Tag, Event, IsStartAnd, whole, ahead, events_of, behind_start}
use Rattle.part_events.specs.Words.{starts_by, is_named, IsNextStart}
use Rattle.part_events.proofs.Onward.{reads_nothing}
use Rattle.xlsx_sections.specs.Words.{section_in, section_left}
use Rattle.xlsx_sections.proofs.SectionsRead.{start_there, first_section_left, nothing_past}
use Rattle.xlsx_sections.proofs.SectionsRead.{ahead_at_first}
use Rattle.xlsx_parts.specs.FirstElement.{element_in, element_with, element_from}
use Rattle.xlsx_parts.proofs.FirstStarts.{first_start_is, first_start_none, element_there}
use Rattle.xlsx_parts.proofs.WholeRead.{begins_part, part_ended}
use Rattle.xlsx_parts.proofs.first_element.find_element.Goals as goal

pub returns-in-Found-clause-found : goal.returns-in-Found-clause-found
returns-in-Found-clause-found g c = λ told.
    let old = c.args.xml.now in
    let new = c.next_start.new.self in
    let name = c.args.name.now in
    let wanted = is_named (name ∷ []) in
    let reads = c.in_ok-next_start.ensures.reads in
    let next = start_there new.source.current
    (λ (tag : Tag). IsNextStart wanted 0 tag old new)
    (rw c.in-Found.is at (c.in_ok-next_start.ensures.found told)) in
    let past = nothing_past old c.requires.reading c.requires.first told in
    let begins = begins_part old c.requires.reading c.requires.first told in
    let behind : behind_start wanted (whole (events_of old)) ≡ Some (ahead new) =
    ap (behind_start wanted) (sym (ahead_at_first old past)) ∙ next.2.first in
    let starts = ap (starts_by wanted) (sym begins.ahead) ∙ next.2.starts in
    let first = first_start_is wanted (whole (events_of old)) (ahead new) _ _ starts behind in
    let there : section_in name (events_of old) ≡ Some (section_left (length new.names) new) =
    subst (λ (events : List Event). section_in name events
    ≡ Some (section_left (length new.names) new))
    (reads.stays.part told)
    (first_section_left name old new past
    (reads.stays.reading.tracked (reads.moves.parts.is_visible ∙ told)) (reads.stays.part told)
    next.2.first) in
    subst (λ (event : Event). IsStartAnd event (λ tag. element_in name (events_of old)
    ≡ Some (element_with tag (section_left (length new.names) new)))) next.1
    (element_there name (events_of old) (ahead new) next.0 (section_left (length new.names) new)
    first behind there)

pub returns-in-Ended-clause-found : goal.returns-in-Ended-clause-found
returns-in-Ended-clause-found g c = λ told.
    let old = c.args.xml.now in
    let name = c.args.name.now in
    let wanted = is_named (name ∷ []) in
    let ends = rw c.in-Ended.is at (c.in_ok-next_start.ensures.found told) in
    let past = nothing_past old c.requires.reading c.requires.first told in
    let none : behind_start wanted (whole (events_of old)) ≡ None =
    ap (behind_start wanted) (sym (ahead_at_first old past)) ∙ ends.first in (
      ap (option_map (element_from (events_of old)))
          (first_start_none wanted (whole (events_of old)) none),
      part_ended (reads_nothing old c.requires.reading) c.in_ok-next_start.ensures.reads
          ends.at_end told,
    )
