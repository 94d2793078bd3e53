use Rattle.std.proofs.Common.{List, refl, subst}
use Rattle.std.proofs.lemmas.Result.{err_from_is_err_and}
use Rattle.part_events.specs.Words.{Part}
use Rattle.xlsx_core.specs.Words.{path_of}
use Rattle.xlsx_commands.proofs.NamedSheets.{opens_at, opening_fails_named, sheet_fails_named}
use Rattle.xlsx_commands.proofs.named_sheet.of_sheet.Goals as goal

pub returns-in_err-xlsx-clause-err : goal.returns-in_err-xlsx-clause-err
returns-in_err-xlsx-clause-err g c =
    let name = c.args.name.now in
    let failure = c.in_err-xlsx.field-0.0 in
    let handed = err_from_is_err_and c.from_residual.result c.from_residual.ensures.1 in
    rw (handed.1, handed.2)
    (opening_fails_named (g.T.OfSheet.cause name) name c.args.package failure.package failure.error
    c.in_err-xlsx.ensures.kind c.in_err-xlsx.ensures.err)

pub returns-in_err-found-clause-err : goal.returns-in_err-found-clause-err
returns-in_err-found-clause-err g c =
    let name = c.args.name.now in
    let xlsx = c.in_ok-xlsx.xlsx in
    let opened = c.in_ok-xlsx.ensures.opens refl in
    let handed = err_from_is_err_and c.from_residual-in_err-found.result
    c.from_residual-in_err-found.ensures.1 in
    rw (handed.1, handed.2)
    (sheet_fails_named (g.T.OfSheet.cause name) name (path_of xlsx name) c.args.package
    xlsx.xml.source c.ask-found.new.xlsx.xml.source c.in_err-found.field-0.0
    c.in_ok-xlsx.ensures.uses.parts (c.into_package.result, c.into_package.ensures)
    (opens_at name opened.0 opened.1 opened.2) c.in_err-found.ensures.err)

pub returns-clause-ok : goal.returns-clause-ok
returns-clause-ok g c =
    let name = c.args.name.now in
    let path = path_of c.in_ok-xlsx.xlsx name in
    let opened = c.in_ok-xlsx.ensures.opens refl in
    let same = c.in_ok-xlsx.ensures.uses.parts in (
      path,
      opens_at name opened.0 opened.1 opened.2,
      subst (λ (own : List Part). g.T.OfSheet.has c.in_ok-found.field-0 name path own) same.parts
          (c.in_ok-found.ensures.ok same.is_visible),
    )
