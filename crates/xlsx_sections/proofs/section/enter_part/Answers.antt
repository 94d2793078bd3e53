use Rattle.xlsx_sections.proofs.SectionsRead.{section_entered}
use Rattle.xlsx_sections.proofs.section.enter_part.Goals as goal

pub returns-clause-enters : goal.returns-clause-enters
returns-clause-enters g c = λ found.
    section_entered c.if-not-branch.false c.open.ensures.keeps c.in_ok-open.ensures.counts
    c.in_ok-open.ensures.opens c.in_ok-open.ensures.reader.at c.in_ok-enter.ensures.reads
    c.in_ok-enter.ensures.element c.in_ok-enter.ensures.found
