use Rattle.std.proofs.Common.{◌∙◌, [], ap, codes, length}
use Rattle.std.proofs.lemmas.Result.{IfErr-weaker}
use Rattle.part_events.specs.Words.{events_of}
use Rattle.xlsx_sections.specs.Words.{IsInsideRefused, FailsBy, always, SectionFails}
use Rattle.xlsx_sections.proofs.ElementsRead.{own_inside, own_end}
use Rattle.xlsx_parts.proofs.SaidRead.{said_or_there, section_lacking_refused}
use Rattle.xlsx_relationships.specs.Words.{target_held}
use Rattle.xlsx_areas.specs.Hyperlinks.{links_in, part_links}
use Rattle.xlsx_areas.proofs.LinksRead.{both_known}
use Rattle.xlsx_areas.proofs.link_parts.links_of.Goals as goal

pub returns-clause-links : goal.returns-clause-links
returns-clause-links g c = λ told.
    let name = codes "hyperlinks" in
    let old = c.args.xml.now in
    let mid = c.find_section.new.xml in
    let meaning = links_in (target_held c.args.targets.now) in
    let still = c.in_ok-find_section.ensures.reads.moves.parts.is_visible ∙ told in
    let there = rw c.if-not-branch.false at (c.in_ok-find_section.ensures.found told) in
    both_known c.read_hyperlinks.result _
    (λ links is passes. said_or_there [] name (events_of old) meaning there
    (own_end mid ∙ (passes.skips still).closed) (ap meaning (own_inside mid) ∙ is))
    (c.read_hyperlinks.ensures.links still) c.read_hyperlinks.ensures.reads

pub returns-clause-err : goal.returns-clause-err
returns-clause-err g c =
    let name = codes "hyperlinks" in
    let old = c.args.xml.now in
    let mid = c.find_section.new.xml in
    let new = c.read_hyperlinks.new.xml in
    let by = target_held c.args.targets.now in
    let refused = IsInsideRefused (links_in by) in
    IfErr-weaker c.read_hyperlinks.result
    (SectionFails (always name) refused (length mid.names) mid new)
    (FailsBy ((part_links by).cause (events_of old)) old.source new.source)
    (λ error fails. section_lacking_refused name old mid (always name) refused new.source error
    c.in_ok-find_section.ensures.reads.moves.parts
    (λ told. rw c.if-not-branch.false at (c.in_ok-find_section.ensures.found told)) fails)
    c.read_hyperlinks.ensures.err
