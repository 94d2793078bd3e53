use Rattle.std.proofs.Common.{◌≡◌, codes, rules}
use Rattle.std.proofs.lemmas.Result.{err_from_is_err_and}
use Rattle.attr_text.specs.Words.{value_of}
use Rattle.part_events.specs.Words.{tag_of}
use Rattle.xlsx_sections.specs.Words.{placed_at}
use Rattle.xlsx_styles.specs.Fonts.{said_of, name_changed, font_change}
use Rattle.xlsx_styles.proofs.font.change_font.Goals as goal

pub returns-in_err-change_name-in-name-clause-err :
    goal.returns-in_err-change_name-in-name-clause-err
returns-in_err-change_name-in-name-clause-err c =
    let p = err_from_is_err_and c.from_residual.result c.from_residual.ensures.1 in
    let font = said_of c.args.font.now in
    let theme = c.args.theme_colors.now in
    rw (p.1, p.2) (λ behind.
    let same : font_change theme (placed_at (tag_of c.args.tag) behind) font
    ≡ name_changed behind font (value_of (codes "val") (tag_of c.args.tag).attributes) =
    search rules in
    rw same (c.in_err-change_name-in-name.ensures.err behind))
