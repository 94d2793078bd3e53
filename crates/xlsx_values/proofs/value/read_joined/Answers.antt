use Rattle.std.proofs.Common.{◌≡◌, ◌∙◌, sym, ap, Ok, ℕ, true, false, codes, string_bytes}
use Rattle.std.proofs.lemmas.Result.{IfErr-weaker}
use Rattle.part_events.specs.Words.{ahead, content}
use Rattle.xlsx_sections.specs.Words.{ElementReadFails, element_text, always, ElementFails}
use Rattle.xlsx_values.specs.ValueContext.{kind_of}
use Rattle.xlsx_values.specs.Value.{value_of_joined, joined_value}
use Rattle.xlsx_values.proofs.ValuesRead.{joined_refused}
use Rattle.xlsx_values.proofs.value.read_joined.Goals as goal

pub returns-clause-err : goal.returns-clause-err
returns-clause-err g c =
    let old = c.args.xml.now in
    let new = c.read_element_text.new.xml in
    let kind = kind_of c.args.typ.now in
    let text = string_bytes c.read_element_text.new.out in
    let read : old.source.is_visible ≡ true → element_text false (content 0 (ahead old)) ≡ Ok text =
    λ told. let found = c.in_ok-read_element_text.ensures.text told in
    found.0 ∙ ap Ok (sym (rw c.new-text.ensures.bytes at found.1)) in
    IfErr-weaker c.value_of_joined.result
    (λ e. (at behind : ℕ) → ElementFails (value_of_joined kind text) at behind e)
    (ElementReadFails (always (codes "v")) (joined_value kind) old new)
    (λ e fails. joined_refused kind old new text e c.requires.element read fails)
    c.value_of_joined.ensures.err
