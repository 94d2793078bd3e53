use Rattle.input_package.specs.Told.{told_state}
use Rattle.std.proofs.Common.{refl, inl, inr, List, subst}
use Rattle.std.proofs.lemmas.Result.{err_from_is_err_and}
use Rattle.part_events.specs.Words.{Part}
use Rattle.xlsx_properties.specs.Parts.{PropertiesCause}
use Rattle.xlsx_open.specs.Words.{OpeningCause}
use Rattle.xlsx_commands.specs.PropertyLists.{ListedPropertiesCause}
use Rattle.xlsx_commands.proofs.MemoryCalls.{memory_fails}
use Rattle.xlsx_commands.proofs.property_lines.properties_of.Goals as goal

pub returns-in_err-xlsx-clause-err : goal.returns-in_err-xlsx-clause-err
returns-in_err-xlsx-clause-err c =
    let parts = c.args.package.parts in
    let failure = c.in_err-xlsx.field-0.0 in
    let handed = err_from_is_err_and c.from_residual.result c.from_residual.ensures.1 in
    rw (handed.1, handed.2)
    (memory_fails (ListedPropertiesCause parts) (OpeningCause parts) (told_state c.args.package)
    (told_state failure.package) failure.error (failure.package, refl) refl (λ cause. inl cause)
    c.in_err-xlsx.ensures.err)

pub returns-in_err-properties-clause-err :
    goal.returns-in_err-properties-clause-err
returns-in_err-properties-clause-err c =
    let parts = c.args.package.parts in
    let xlsx = c.in_ok-xlsx.xlsx in
    let error = c.in_err-properties.field-0.0 in
    let opened = c.in_ok-xlsx.ensures.opens refl in
    let same = c.in_ok-xlsx.ensures.uses.parts.parts in
    let handed = err_from_is_err_and c.from_residual-in_err-properties.result
    c.from_residual-in_err-properties.ensures.1 in
    rw (handed.1, handed.2)
    (memory_fails (ListedPropertiesCause parts) (PropertiesCause xlsx.xml.source.parts)
    xlsx.xml.source
    c.workbook_properties-properties.new.self.xml.source error
    (c.into_package.result, c.into_package.ensures) c.in_ok-xlsx.ensures.uses.parts.is_visible
    (λ cause. inr (
      (opened.0, opened.2),
      subst (λ (own : List Part). PropertiesCause own error)
          same cause,
    )) c.in_err-properties.ensures.err)
