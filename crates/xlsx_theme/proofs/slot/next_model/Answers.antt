use Rattle.std.proofs.Common.{None, refl, ◌∙◌}
use Rattle.part_events.proofs.Onward.{whole_at_end}
use Rattle.part_events.specs.declared.fault.XmlFault.TheVariants.{Unclosed}
use Rattle.xlsx_error.specs.declared.error.XlsxError.TheVariants.{Xml}
use Rattle.xlsx_sections.specs.Words.{named_end, Never, SectionFails}
use Rattle.xlsx_sections.proofs.ElementsRead.{at_end}
use Rattle.xlsx_theme.proofs.SchemeRead.{unnamed_refused}
use Rattle.xlsx_theme.proofs.slot.next_model.Goals as goal

pub returns-in-Ended-clause-refused : goal.returns-in-Ended-clause-refused
returns-in-Ended-clause-refused g c = λ first keeps.
    let old = c.args.xml.now in
    let new = c.next_start.new.self in
    let error = Xml (Unclosed c.at-in-Ended.result) in
    let own : SectionFails (named_end None) Never c.args.base old new error = λ told.
    let ends = rw c.in-Ended.is at (c.in_ok-next_start.ensures.found told) in (
      (whole_at_end c.in_ok-next_start.ensures.reads ends.at_end told, ends.closed),
      refl,
      c.at-in-Ended.ensures ∙ at_end c.in_ok-next_start.ensures.reads ends.at_end told,
    )
    in
    unnamed_refused Never new error keeps.section own
