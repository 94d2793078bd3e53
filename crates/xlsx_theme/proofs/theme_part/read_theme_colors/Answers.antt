use Rattle.std.proofs.Common.{[], ◌∷◌, Some, None, codes, ◌∙◌}
use Rattle.part_events.specs.Words.{Tag, ahead, is_named, IsNextStart}
use Rattle.part_events.proofs.Onward.{whole_at_end}
use Rattle.xlsx_sections.proofs.SectionsRead.{start_there}
use Rattle.xlsx_theme.proofs.ThemeRead.{scheme_found, scheme_says}
use Rattle.xlsx_theme.proofs.ThemeTaken.{scheme_ended}
use Rattle.xlsx_theme.proofs.theme_part.read_theme_colors.Goals as goal

pub returns-in_ok-theme_of-in-Found-clause-theme :
    goal.returns-in_ok-theme_of-in-Found-clause-theme
returns-in_ok-theme_of-in-Found-clause-theme g c = λ told.
    let old = c.args.xml.now in
    let mid = c.next_start.new.self in
    let next = start_there mid.source.current
    (λ (tag : Tag). IsNextStart (is_named (codes "clrScheme" ∷ [])) 0 tag old mid)
    (rw c.in-Found.is at (c.in_ok-next_start.ensures.found told)) in
    let still = c.in_ok-next_start.ensures.reads.moves.parts.is_visible ∙ told in
    scheme_says c.depth-base.result old mid c.depth-base.ensures
    (scheme_found old (Some (ahead mid)) c.requires.reading c.requires.first told next.2.first)
    (c.in_ok-slots-in-Found.ensures.reaches still).closed
    (c.in_ok-slots-in-Found.ensures.colors still) c.in_ok-theme_of-in-Found.ensures.theme

pub returns-in_ok-default_theme-in-Ended-clause-theme :
    goal.returns-in_ok-default_theme-in-Ended-clause-theme
returns-in_ok-default_theme-in-Ended-clause-theme g c = λ told.
    let old = c.args.xml.now in
    let ends = rw c.in-Ended.is at (c.in_ok-next_start.ensures.found told) in
    rw (scheme_found old None c.requires.reading c.requires.first told ends.first) (
      whole_at_end c.in_ok-next_start.ensures.reads ends.at_end told,
      c.in_ok-default_theme-in-Ended.ensures.theme,
    )

pub returns-in_ok-theme_of-in-Found-clause-ends : goal.returns-in_ok-theme_of-in-Found-clause-ends
returns-in_ok-theme_of-in-Found-clause-ends g c = λ told.
    let old = c.args.xml.now in
    let mid = c.next_start.new.self in
    let next = start_there mid.source.current
    (λ (tag : Tag). IsNextStart (is_named (codes "clrScheme" ∷ [])) 0 tag old mid)
    (rw c.in-Found.is at (c.in_ok-next_start.ensures.found told)) in
    let still = c.in_ok-next_start.ensures.reads.moves.parts.is_visible ∙ told in
    scheme_ended old mid c.requires.reading c.requires.first c.in_ok-next_start.ensures.reads
    next.2.first c.depth-base.ensures (c.in_ok-slots-in-Found.ensures.reaches still).ends told
