use Rattle.std.proofs.Common.{◌∙◌}
use Rattle.part_events.specs.Words.{events_of}
use Rattle.xlsx_error.specs.declared.error.XlsxError.TheVariants.{Xml, XmlAttr}
use Rattle.xlsx_sections.proofs.SectionsRead.{part_opened}
use Rattle.xlsx_theme.proofs.ThemeRead.{faulty_theme}
use Rattle.xlsx_theme.proofs.ThemeTaken.{theme_refused}
use Rattle.xlsx_theme.proofs.theme_part.read_theme.Goals as goal

pub returns-in_ok-default_theme-in-Err-Xml-clause-theme :
    goal.returns-in_ok-default_theme-in-Err-Xml-clause-theme
returns-in_ok-default_theme-in-Err-Xml-clause-theme g c = λ told.
    let fails = rw c.in-Err-Xml.field-0-is at c.in-Err-Xml.ensures.err in
    let old = c.args.xml.now.source in
    let opened = c.open.new.self in
    faulty_theme old.parts c.args.path.now (events_of opened) (Xml c.in-Err-Xml.field-0-0)
    c.in_ok-default_theme-in-Err-Xml.field-0
    (part_opened c.if-not-branch.false opened (c.in_ok-open.ensures.opens told))
    (fails (c.open.ensures.keeps.is_visible ∙ told))
    c.in_ok-default_theme-in-Err-Xml.ensures.theme

pub returns-in_ok-default_theme-in-Err-XmlAttr-clause-theme :
    goal.returns-in_ok-default_theme-in-Err-XmlAttr-clause-theme
returns-in_ok-default_theme-in-Err-XmlAttr-clause-theme g c = λ told.
    let fails = rw c.in-Err-XmlAttr.field-0-is at c.in-Err-XmlAttr.ensures.err in
    let old = c.args.xml.now.source in
    let opened = c.open.new.self in
    faulty_theme old.parts c.args.path.now (events_of opened) (XmlAttr c.in-Err-XmlAttr.field-0-0)
    c.in_ok-default_theme-in-Err-XmlAttr.field-0
    (part_opened c.if-not-branch.false opened (c.in_ok-open.ensures.opens told))
    (fails (c.open.ensures.keeps.is_visible ∙ told))
    c.in_ok-default_theme-in-Err-XmlAttr.ensures.theme

pub returns-in_ok-default_theme-in-Err-Xml-clause-to_end :
    goal.returns-in_ok-default_theme-in-Err-Xml-clause-to_end
returns-in_ok-default_theme-in-Err-Xml-clause-to_end g c =
    theme_refused (Xml c.in-Err-Xml.field-0-0) c.if-not-branch.false c.open.ensures.keeps
    c.in_ok-open.ensures.counts c.in_ok-open.ensures.opens c.in-Err-Xml.ensures.reads.moves
    (λ told. (rw c.in-Err-Xml.field-0-is at c.in-Err-Xml.ensures.err)
    (c.open.ensures.keeps.is_visible ∙ told))

pub returns-in_ok-default_theme-in-Err-XmlAttr-clause-to_end :
    goal.returns-in_ok-default_theme-in-Err-XmlAttr-clause-to_end
returns-in_ok-default_theme-in-Err-XmlAttr-clause-to_end g c =
    theme_refused (XmlAttr c.in-Err-XmlAttr.field-0-0) c.if-not-branch.false c.open.ensures.keeps
    c.in_ok-open.ensures.counts c.in_ok-open.ensures.opens c.in-Err-XmlAttr.ensures.reads.moves
    (λ told. (rw c.in-Err-XmlAttr.field-0-is at c.in-Err-XmlAttr.ensures.err)
    (c.open.ensures.keeps.is_visible ∙ told))
