use Rattle.xlsx_sections.specs.Words.{IsInsideRefused}
use Rattle.xlsx_sections.proofs.ElementsSaid.{found_there}
use Rattle.xlsx_sections.proofs.Failing.{given_back}
use Rattle.xlsx_sections.proofs.StartsSaid.{section_stopped}
use Rattle.xlsx_stylesheet.specs.StyleSheet.{list_element_end, end_in_styles, lists_in}
use Rattle.xlsx_stylesheet.proofs.StyleListsRead.{lists_refused, lists_lengthened}
use Rattle.xlsx_stylesheet.proofs.style_lists.lists_in.Goals as goal

pub returns-in_err-_at-clause-err : goal.returns-in_err-_at-clause-err
returns-in_err-_at-clause-err g c =
    let old = c.args.xml.now in
    given_back _ c.from_residual.result c.from_residual.ensures.1
    (section_stopped c.args.base old end_in_styles
    (IsInsideRefused (lists_in c.args.theme_colors.now))
    c.next_element_in.new.xml.source _
    (c.in_err-_at.ensures.refused old list_element_end c.lists.invariant.keeps))

pub returns-in_err-read_list-clause-err : goal.returns-in_err-read_list-clause-err
returns-in_err-read_list-clause-err g c =
    let last = c.read_list.new.xml in
    let next = found_there c.in-Some.is c.lists.invariant.keeps c.in_ok-_at.ensures.step in
    given_back _ c.from_residual-in_err-read_list.result c.from_residual-in_err-read_list.ensures.1
    (lists_refused last c.in_err-read_list.field-0.0 c.lists.invariant next.2
    (λ formats are. c.in_err-read_list.ensures.err next.0 formats next.1 are))

pub lists-preserved : goal.lists-preserved
lists-preserved g c =
    let next = found_there c.in-Some.is c.lists.invariant.keeps c.in_ok-_at.ensures.step in
    lists_lengthened c.lists.invariant next.2 c.in_ok-read_list.ensures.reads
    (λ told formats are. c.in_ok-read_list.ensures.lists told next.0 formats next.1 are)
