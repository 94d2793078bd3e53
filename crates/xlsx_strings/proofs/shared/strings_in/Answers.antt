use Rattle.std.proofs.Common.{◌++◌, List, ℕ, Result, Ok, sym, ◌∙◌, ap, codes}
use Rattle.xlsx_sections.specs.Words.{Refusal}
use Rattle.xlsx_sections.proofs.Failing.{given_back}
use Rattle.xlsx_sections.proofs.ListsRead.{list_added, list_refused, list_stopped}
use Rattle.xlsx_strings.specs.Strings.{end_in_string}
use Rattle.xlsx_strings.proofs.shared.strings_in.Goals as goal

pub returns-in_err-_at-clause-err : goal.returns-in_err-_at-clause-err
returns-in_err-_at-clause-err g c =
    given_back _ c.from_residual.result c.from_residual.ensures.1
    (list_stopped (codes "sst") (λ tag. end_in_string) c.next_element_in.new.xml.source _
    c.strings.invariant c.in_err-_at.ensures.refused)

pub returns-in_err-read_string-clause-err : goal.returns-in_err-read_string-clause-err
returns-in_err-read_string-clause-err g c =
    given_back _ c.from_residual-in_err-read_string.result
    c.from_residual-in_err-read_string.ensures.1
    (list_refused (codes "sst") (λ tag. end_in_string) _ c.read_string.new.xml.source _
    c.in-Some.is c.strings.invariant c.in_ok-_at.ensures.step
    (λ tag current. c.in_err-read_string.ensures.err))

pub strings-preserved : goal.strings-preserved
strings-preserved g c =
    rw c.in_ok-push_text.ensures
    (list_added c.as_str.result.now c.in-Some.is c.strings.invariant c.in_ok-_at.ensures.step
    c.in_ok-read_string.ensures.reads
    (λ told tag current.
    let text = c.in_ok-read_string.ensures.text told in
    text.1 ∙ ap (λ (own : List ℕ). let answer : Result (List ℕ) Refusal = Ok own in answer)
    (sym (c.as_str.ensures.value ∙ text.2
    ∙ ap (λ (before : List ℕ). before ++ text.0) c.clear.ensures.bytes))))
