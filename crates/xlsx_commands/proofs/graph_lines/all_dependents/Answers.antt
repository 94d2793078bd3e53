use Rattle.std.proofs.Common.{◌≡◌, ◌∙◌, ap, refl, rules, ℕ, List, ◌++◌, map, Some, None, Vec}
use Rattle.std.proofs.Common.{Global, string_bytes}
use Rattle.std.proofs.lemmas.Result.{err_from_is_err_and}
use Rattle.xlsx_graph.specs.Words.{all_dependents_lines}
use Rattle.xlsx_workbook.specs.declared.sheet.Sheet.{Sheet}
use Rattle.xlsx_commands.specs.GraphLists.{DependentsPathCause, HasLargeDependents}
use Rattle.xlsx_commands.specs.GraphLists.{NamedDependentsCause, cell_on, sheet_called}
use Rattle.xlsx_commands.specs.Status.{of_workbook}
use Rattle.xlsx_commands.proofs.GraphsListed.{is_opened, lacks_name, refused_before}
use Rattle.xlsx_commands.proofs.GraphsListed.{dependents_listed, dependents_refused}
use Rattle.xlsx_commands.proofs.NamedSheets.{opening_fails_named}
use Rattle.xlsx_commands.proofs.graph_lines.all_dependents.Goals as goal

pub returns-in_err-xlsx-clause-err : goal.returns-in_err-xlsx-clause-err
returns-in_err-xlsx-clause-err c =
    let parts = c.args.package.parts in
    let name = c.args.name.now in
    let failure = c.in_err-xlsx.field-0.0 in
    let handed = err_from_is_err_and c.from_residual.result c.from_residual.ensures.1 in
    rw (handed.1, handed.2)
    (refused_before (NamedDependentsCause parts name) (HasLargeDependents parts name)
    (of_workbook failure.error)
    (opening_fails_named (DependentsPathCause name) name c.args.package failure.package
    failure.error c.in_err-xlsx.ensures.kind c.in_err-xlsx.ensures.err))

pub returns-in_default-clause-err : goal.returns-in_default-clause-err
returns-in_default-clause-err c =
    let xlsx = c.in_ok-xlsx.xlsx in
    let opened = c.in_ok-xlsx.ensures.opens refl in
    let none : sheet_called c.args.name.now
    (map (λ (sheet : Sheet). string_bytes sheet.name) xlsx.workbook.metadata.sheets.items) ≡ None =
    search rules in
    lacks_name c.args.package.parts xlsx
    (is_opened c.args.package.parts xlsx opened.0 opened.1 opened.2
    (c.in_ok-xlsx.ensures.scopes refl) c.in_ok-xlsx.ensures.uses.parts.parts)
    c.args.name.now c.in_ok-asked.asked c.in_ok-asked.ensures.ok none

pub returns-in_err-own-clause-err : goal.returns-in_err-own-clause-err
returns-in_err-own-clause-err c =
    let xlsx = c.in_ok-xlsx.xlsx in
    let opened = c.in_ok-xlsx.ensures.opens refl in
    let kept = c.in_ok-xlsx.ensures.uses.parts in
    let is : sheet_called c.args.name.now
    (map (λ (sheet : Sheet). string_bytes sheet.name) xlsx.workbook.metadata.sheets.items)
    ≡ Some c.in-Some.sheet = search rules in
    let handed = err_from_is_err_and c.from_residual-in_err-own.result
    c.from_residual-in_err-own.ensures.1 in
    rw (handed.1, handed.2)
    (dependents_refused c.args.package.parts xlsx
    (is_opened c.args.package.parts xlsx opened.0 opened.1 opened.2
    (c.in_ok-xlsx.ensures.scopes refl) kept.parts)
    c.args.name.now c.in-Some.sheet c.in_err-own.field-0.0 is
    (c.in_err-own.ensures.err kept.is_visible))

pub returns-clause-ok : goal.returns-clause-ok
returns-clause-ok c =
    let xlsx = c.in_ok-xlsx.xlsx in
    let opened = c.in_ok-xlsx.ensures.opens refl in
    let kept = c.in_ok-xlsx.ensures.uses.parts in
    let own = c.in_ok-own.own in
    let sheet = c.in-Some.sheet in
    let graph = c.in_ok-own.ensures.ok kept.is_visible in
    let is : sheet_called c.args.name.now
    (map (λ (sheet : Sheet). string_bytes sheet.name) xlsx.workbook.metadata.sheets.items)
    ≡ Some sheet =
    search rules in
    dependents_listed c.args.package.parts xlsx
    (is_opened c.args.package.parts xlsx opened.0 opened.1 opened.2
    (c.in_ok-xlsx.ensures.scopes refl) kept.parts)
    c.args.name.now c.args.position sheet own.book own.graph.formulas c.into_bytes.result.items
    graph.has graph.fits is
    (ap (λ (bytes : Vec ℕ Global). bytes.items) c.into_bytes.ensures.value
    ∙ c.in_ok-push_dependents_at.ensures.ok
    ∙ ap (λ (front : List ℕ). front ++ all_dependents_lines own.book own.graph.formulas
    (cell_on sheet c.args.position)) c.new-out.ensures.bytes)
