use Rattle.std.proofs.Common.{◌≡◌, ◌∷◌, [], List, Some, None, ap, sym, ◌∙◌, subst, length}
use Rattle.std.specs.Prelude.{option_map}
use Rattle.part_events.specs.Words.{Tag, Event, events_of, behind_start, is_named, IsNextStart}
use Rattle.part_events.proofs.Onward.{reads_nothing}
use Rattle.xlsx_sections.specs.Words.{section_from, section_in, section_left}
use Rattle.xlsx_sections.proofs.SectionsRead.{start_there, first_section_left, nothing_past}
use Rattle.xlsx_sections.proofs.SectionsRead.{ahead_at_first}
use Rattle.xlsx_parts.proofs.WholeRead.{part_ended}
use Rattle.xlsx_parts.proofs.parts.find_section.Goals as goal

pub returns-in-Found-clause-found : goal.returns-in-Found-clause-found
returns-in-Found-clause-found g c = λ told.
    let old = c.args.xml.now in
    let new = c.next_start.new.self in
    let name = c.args.name.now in
    let reads = c.in_ok-next_start.ensures.reads in
    let next = start_there new.source.current
    (λ (tag : Tag). IsNextStart (is_named (name ∷ [])) 0 tag old new)
    (rw c.in-Found.is at (c.in_ok-next_start.ensures.found told)) in
    subst (λ (events : List Event). section_in name events
    ≡ Some (section_left (length new.names) new))
    (reads.stays.part told)
    (first_section_left name old new
    (nothing_past old c.requires.reading c.requires.first told)
    (reads.stays.reading.tracked (reads.moves.parts.is_visible ∙ told)) (reads.stays.part told)
    next.2.first)

pub returns-in-Ended-clause-found : goal.returns-in-Ended-clause-found
returns-in-Ended-clause-found g c = λ told.
    let old = c.args.xml.now in
    let ends = rw c.in-Ended.is at (c.in_ok-next_start.ensures.found told) in
    let past = nothing_past old c.requires.reading c.requires.first told in
    let wanted = is_named (c.args.name.now ∷ []) in
    let none : section_in c.args.name.now (events_of old) ≡ None =
    ap (option_map (section_from (events_of old)))
    (ap (behind_start wanted) (sym (ahead_at_first old past)) ∙ ends.first) in
    let ended = part_ended (reads_nothing old c.requires.reading) c.in_ok-next_start.ensures.reads
    ends.at_end told in
    (none, ended.0, ended.1)
