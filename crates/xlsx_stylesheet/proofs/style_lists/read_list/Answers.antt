use Rattle.std.proofs.Common.{◌++◌, List, map, length, refl, sym, ◌∙◌, ap}
use Rattle.std.proofs.lemmas.Result.{MatchResult-weaker, on_ok_weaker}
use Rattle.part_events.specs.Words.{ahead, content}
use Rattle.xlsx_sections.specs.Words.{prepended}
use Rattle.xlsx_sections.proofs.StartsKept.{refused_same}
use Rattle.xlsx_formats.specs.FormatCodes.{WrittenFormat, formats_written, formats_kept, AreCodes}
use Rattle.xlsx_formats.specs.Formattings.{formatting_said}
use Rattle.xlsx_formats.proofs.CodesRead.{ok_found}
use Rattle.xlsx_stylesheet.specs.Lists.{fonts_in, fills_in, borders_in, formattings_in}
use Rattle.xlsx_stylesheet.specs.Lists.{end_in_formats}
use Rattle.xlsx_stylesheet.specs.StyleSheet.{with_list, with_formats, with_fonts, with_fills}
use Rattle.xlsx_stylesheet.specs.StyleSheet.{with_borders, with_formattings, lists_said}
use Rattle.xlsx_stylesheet.proofs.StyleListsRead.{list_fails, list_lengthened, list_there}
use Rattle.xlsx_stylesheet.proofs.StyleListsRead.{arm_refused, formattings_same}
use Rattle.xlsx_stylesheet.proofs.style_lists.read_list.Goals as goal

pub returns-in-NumberFormats-clause-lists : goal.returns-in-NumberFormats-clause-lists
returns-in-NumberFormats-clause-lists g c = λ told.
    let old = c.args.xml.now in
    let lists = c.args.lists.now in
    let kept = c.read_number_formats.new.kept in
    let written = formats_written (content 0 (ahead old)) in
    on_ok_weaker c.read_number_formats.result
    (λ holds tag formats there are.
    let more = ok_found (λ (more : List WrittenFormat). (earlier : List WrittenFormat)
    → AreCodes earlier lists.codes → AreCodes (earlier ++ more) kept) written holds in
    list_lengthened tag (formats ++ more.0)
    (list_there c.in-NumberFormats.is c.list_of.ensures c.start_tag.ensures there)
    (more.2 formats are)
    (ap (λ answer. with_list (with_formats (lists_said formats lists)) (prepended formats answer))
    more.1))
    (c.read_number_formats.ensures.formats told)

pub returns-in-NumberFormats-clause-err : goal.returns-in-NumberFormats-clause-err
returns-in-NumberFormats-clause-err g c =
    let old = c.args.xml.now in
    let new = c.read_number_formats.new.xml in
    arm_refused c.args.theme_colors.now c.args.lists.now with_formats (λ said. said.named.formats)
    formats_written old new c.read_number_formats.result c.in-NumberFormats.is
    c.list_of.ensures c.start_tag.ensures (λ _ _. refl) c.read_number_formats.ensures.err

pub returns-in-Fonts-clause-lists : goal.returns-in-Fonts-clause-lists
returns-in-Fonts-clause-lists g c = λ told.
    on_ok_weaker c.read_fonts.result
    (λ holds tag formats there are.
    list_lengthened tag formats
    (list_there c.in-Fonts.is c.list_of.ensures c.start_tag.ensures there) are
    (ap (with_list (with_fonts (lists_said formats c.args.lists.now))) holds))
    (c.read_fonts.ensures.says told)

pub returns-in-Fonts-clause-err : goal.returns-in-Fonts-clause-err
returns-in-Fonts-clause-err g c =
    let old = c.args.xml.now in
    let new = c.read_fonts.new.xml in
    arm_refused c.args.theme_colors.now c.args.lists.now with_fonts (λ said. said.named.fonts)
    (fonts_in c.args.theme_colors.now) old new c.read_fonts.result c.in-Fonts.is
    c.list_of.ensures c.start_tag.ensures (λ _ _. refl) c.read_fonts.ensures.err

pub returns-in-Fills-clause-lists : goal.returns-in-Fills-clause-lists
returns-in-Fills-clause-lists g c = λ told.
    on_ok_weaker c.read_fills.result
    (λ holds tag formats there are.
    list_lengthened tag formats
    (list_there c.in-Fills.is c.list_of.ensures c.start_tag.ensures there) are
    (ap (with_list (with_fills (lists_said formats c.args.lists.now))) holds))
    (c.read_fills.ensures.says told)

pub returns-in-Fills-clause-err : goal.returns-in-Fills-clause-err
returns-in-Fills-clause-err g c =
    let old = c.args.xml.now in
    let new = c.read_fills.new.xml in
    arm_refused c.args.theme_colors.now c.args.lists.now with_fills (λ said. said.named.fills)
    (fills_in c.args.theme_colors.now) old new c.read_fills.result c.in-Fills.is
    c.list_of.ensures c.start_tag.ensures (λ _ _. refl) c.read_fills.ensures.err

pub returns-in-Borders-clause-lists : goal.returns-in-Borders-clause-lists
returns-in-Borders-clause-lists g c = λ told.
    on_ok_weaker c.read_borders.result
    (λ holds tag formats there are.
    list_lengthened tag formats
    (list_there c.in-Borders.is c.list_of.ensures c.start_tag.ensures there) are
    (ap (with_list (with_borders (lists_said formats c.args.lists.now))) holds))
    (c.read_borders.ensures.says told)

pub returns-in-Borders-clause-err : goal.returns-in-Borders-clause-err
returns-in-Borders-clause-err g c =
    let old = c.args.xml.now in
    let new = c.read_borders.new.xml in
    arm_refused c.args.theme_colors.now c.args.lists.now with_borders (λ said. said.named.borders)
    (borders_in c.args.theme_colors.now) old new c.read_borders.result c.in-Borders.is
    c.list_of.ensures c.start_tag.ensures (λ _ _. refl) c.read_borders.ensures.err

pub returns-in-Formats-clause-lists : goal.returns-in-Formats-clause-lists
returns-in-Formats-clause-lists g c = λ told.
    let old = c.args.xml.now in
    let lists = c.args.lists.now in
    on_ok_weaker c.read_formats.result
    (λ holds tag formats there are.
    list_lengthened tag formats
    (list_there c.in-Formats.is c.list_of.ensures c.start_tag.ensures there) are
    (ap (with_list (with_formattings (lists_said formats lists)))
    (ap (prepended (map formatting_said lists.formattings.items))
    (sym (formattings_same formats lists are (content 0 (ahead old)))) ∙ holds)))
    (rw (
      c.as_slice.ensures.value,
      c.as_slice-in-Formats.ensures.value,
      c.as_slice-in-Formats-2.ensures.value,
    ) at (c.read_formats.ensures.says told))

pub returns-in-Formats-clause-err : goal.returns-in-Formats-clause-err
returns-in-Formats-clause-err g c =
    let old = c.args.xml.now in
    let new = c.read_formats.new.xml in
    let lists = c.args.lists.now in
    let kept = lists_said (formats_kept lists.codes) lists in
    MatchResult-weaker c.read_formats.result
    (rw (
      c.as_slice.ensures.value,
      c.as_slice-in-Formats.ensures.value,
      c.as_slice-in-Formats-2.ensures.value,
    ) at c.read_formats.ensures.err)
    (λ _ is. is)
    (λ error fails tag formats there are.
    let said = lists_said formats lists in
    list_fails c.args.theme_colors.now said (with_formattings said) said.formattings
    (formattings_in said.named) tag old new error
    (list_there c.in-Formats.is c.list_of.ensures c.start_tag.ensures there) (λ _. refl)
    (refused_same (formattings_in kept.named) (formattings_in said.named) (length old.names) old
    end_in_formats new error
    (λ events refusal is. sym (formattings_same formats lists are events) ∙ is) fails))
