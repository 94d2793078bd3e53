use Rattle.std.proofs.Common.{◌≡◌, ◌+◌, List, true, arith, ap, ◌∙◌, subst}
use Rattle.std.proofs.lemmas.Result.{err_from_is_err_and}
use Rattle.part_events.specs.Words.{Part, UsesPackage, LeavesPackage, event_count}
use Rattle.xlsx_error.specs.declared.error.XlsxError.TheVariants.{Io}
use Rattle.xlsx_theme.specs.ThemePart.{theme_colors}
use Rattle.xlsx_workbook.specs.Words.{strings_part, theme_part, styles_part}
use Rattle.part_events.proofs.Uses.{uses_then, leaves_then}
use Rattle.xlsx_open.proofs.Openings.{styles_fail}
use Rattle.xlsx_open.proofs.shared_parts.read_shared.Goals as goal

pub returns-in_err-style_sheet-clause-err : goal.returns-in_err-style_sheet-clause-err
returns-in_err-style_sheet-clause-err g c =
    let old = c.args.xml.now.source in
    let first = c.read_strings.new.xml.source in
    let mid = c.read_colors.new.xml.source in
    let new = c.read_style_sheet.new.xml.source in
    let path = c.args.path.now in
    let theme = c.as_slice.result.now in
    let e = c.in_err-style_sheet.field-0.0 in
    let same = c.in_ok-strings.ensures.uses.parts in
    let both :
    UsesPackage (event_count old.parts (strings_part path)
    + event_count first.parts (theme_part path)) old mid =
    uses_then (omega arith) c.in_ok-strings.ensures.uses c.in_ok-theme.ensures.uses in
    let colors : old.is_visible ≡ true → theme ≡ theme_colors old.parts (theme_part path) = λ told.
    c.as_slice.ensures.value ∙ (c.in_ok-theme.ensures.theme (same.is_visible ∙ told)).colors
    ∙ ap (λ (parts : List Part). theme_colors parts (theme_part path)) same.parts in
    let p = err_from_is_err_and c.from_residual-in_err-style_sheet.result
    c.from_residual-in_err-style_sheet.ensures.1 in
    rw (p.1, p.2)
    (styles_fail old mid new path theme e both.parts colors
    c.in_err-style_sheet.ensures.err)

pub returns-in_err-style_sheet-clause-uses : goal.returns-in_err-style_sheet-clause-uses
returns-in_err-style_sheet-clause-uses g c =
    let old = c.args.xml.now.source in
    let first = c.read_strings.new.xml.source in
    let mid = c.read_colors.new.xml.source in
    let new = c.read_style_sheet.new.xml.source in
    let path = c.args.path.now in
    let e = c.in_err-style_sheet.field-0.0 in
    let strings = c.in_ok-strings.ensures.uses in
    let theme : UsesPackage (event_count old.parts (theme_part path)) first mid =
    subst (λ (parts : List Part). UsesPackage (event_count parts (theme_part path)) first mid)
    strings.parts.parts c.in_ok-theme.ensures.uses in
    let both : UsesPackage
    (event_count old.parts (strings_part path) + event_count old.parts (theme_part path)) old mid =
    uses_then (omega arith) strings theme in
    let styles : LeavesPackage (event_count old.parts (styles_part path)) Io mid new e =
    subst (λ (parts : List Part). LeavesPackage (event_count parts (styles_part path)) Io mid new e)
    both.parts.parts c.in_err-style_sheet.ensures.uses in
    let p = err_from_is_err_and c.from_residual-in_err-style_sheet.result
    c.from_residual-in_err-style_sheet.ensures.1 in
    rw (p.1, p.2) (leaves_then (omega arith) both styles)
