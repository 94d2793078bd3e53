use Rattle.std.proofs.Common.{ℕ, List, ◌∙◌, subst}
use Rattle.std.specs.Prelude.{IfOk, OnOk}
use Rattle.part_events.specs.Words.{Uses, CountsUp, event_count}
use Rattle.xlsx_error.specs.declared.error.XlsxError.TheVariants.{Io}
use Rattle.xlsx_theme.specs.ThemePart.{HasTheme, TakesTheme}
use Rattle.xlsx_open.proofs.shared_parts.read_colors.Goals as goal

pub returns-clause-uses : goal.returns-clause-uses
returns-clause-uses g c =
    let old = c.args.xml.now.source in
    let new = c.read_theme.new.xml.source in
    subst (λ (part : List ℕ). Uses (event_count old.parts part) Io c.read_theme.result old new)
    (c.as_str.ensures.value ∙ c.in_ok-part.ensures) c.read_theme.ensures.uses

pub returns-clause-theme : goal.returns-clause-theme
returns-clause-theme g c = λ told.
    let old = c.args.xml.now.source in
    subst (λ (part : List ℕ). IfOk c.read_theme.result (HasTheme old.parts part))
    (c.as_str.ensures.value ∙ c.in_ok-part.ensures) (c.read_theme.ensures.theme told)

pub returns-clause-to_end : goal.returns-clause-to_end
returns-clause-to_end g c = λ told.
    let old = c.args.xml.now.source in
    let new = c.read_theme.new.xml.source in
    subst (λ (part : List ℕ). OnOk c.read_theme.result ((count : ℕ)
    × TakesTheme old.parts part count × CountsUp count old.taken new.taken))
    (c.as_str.ensures.value ∙ c.in_ok-part.ensures) (c.read_theme.ensures.to_end told)
