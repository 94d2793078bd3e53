use Rattle.std.proofs.Common.{ℕ, List, map, ◌∙◌, subst, codes, string_bytes}
use Rattle.std.specs.Prelude.{IfOk, IfErr}
use Rattle.part_events.specs.Words.{Uses, event_count}
use Rattle.xlsx_error.specs.declared.error.XlsxError.TheVariants.{Io}
use Rattle.xlsx_sections.specs.Words.{IsInsideRefused, OptionalPartFails, ReadsToEnd}
use Rattle.xlsx_strings.specs.Strings.{strings_in, end_in_strings, HasStrings}
use Rattle.xlsx_open.proofs.shared_parts.read_strings.Goals as goal

pub returns-clause-uses : goal.returns-clause-uses
returns-clause-uses g c =
    let old = c.args.xml.now.source in
    let new = c.read_shared_strings.new.xml.source in
    subst (λ (part : List ℕ). Uses (event_count old.parts part) Io c.read_shared_strings.result old
    new) (c.as_str.ensures.value ∙ c.in_ok-part.ensures) c.read_shared_strings.ensures.uses

pub returns-clause-strings : goal.returns-clause-strings
returns-clause-strings g c = λ told.
    let old = c.args.xml.now.source in
    subst (λ (part : List ℕ). IfOk c.read_shared_strings.result (λ strings.
    HasStrings old.parts part (map string_bytes strings.items)))
    (c.as_str.ensures.value ∙ c.in_ok-part.ensures) (c.read_shared_strings.ensures.strings told)

pub returns-clause-err : goal.returns-clause-err
returns-clause-err g c =
    let old = c.args.xml.now.source in
    let new = c.read_shared_strings.new.xml.source in
    subst (λ (part : List ℕ). IfErr c.read_shared_strings.result
    (OptionalPartFails (codes "sst") end_in_strings (IsInsideRefused strings_in) part old new))
    (c.as_str.ensures.value ∙ c.in_ok-part.ensures) c.read_shared_strings.ensures.err

pub returns-clause-to_end : goal.returns-clause-to_end
returns-clause-to_end g c =
    let old = c.args.xml.now.source in
    let new = c.read_shared_strings.new.xml.source in
    subst (λ (part : List ℕ). ReadsToEnd (codes "sst") part c.read_shared_strings.result old new)
    (c.as_str.ensures.value ∙ c.in_ok-part.ensures) c.read_shared_strings.ensures.to_end
