use Rattle.std.proofs.Common.{◌∙◌, ap, refl, ℕ, List, ◌++◌, Vec, Global}
use Rattle.std.proofs.lemmas.Result.{err_from_is_err_and}
use Rattle.xlsx_commands.specs.GraphLists.{graph_list_lines}
use Rattle.xlsx_commands.proofs.GraphsListed.{has_graph, is_opened, graph_refused, opening_refused}
use Rattle.xlsx_commands.proofs.graph_lines.graph_lines.Goals as goal

pub returns-in_err-xlsx-clause-err : goal.returns-in_err-xlsx-clause-err
returns-in_err-xlsx-clause-err c =
    let failure = c.in_err-xlsx.field-0.0 in
    let handed = err_from_is_err_and c.from_residual.result c.from_residual.ensures.1 in
    rw (handed.1, handed.2)
    (opening_refused c.args.package failure.package failure.error c.in_err-xlsx.ensures.err)

pub returns-in_err-own-clause-err : goal.returns-in_err-own-clause-err
returns-in_err-own-clause-err c =
    let xlsx = c.in_ok-xlsx.xlsx in
    let opened = c.in_ok-xlsx.ensures.opens refl in
    let kept = c.in_ok-xlsx.ensures.uses.parts in
    let handed = err_from_is_err_and c.from_residual-in_err-own.result
    c.from_residual-in_err-own.ensures.1 in
    rw (handed.1, handed.2)
    (graph_refused c.args.package.parts xlsx
    (is_opened c.args.package.parts xlsx opened.0 opened.1 opened.2
    (c.in_ok-xlsx.ensures.scopes refl) kept.parts)
    c.in_err-own.field-0.0 (c.in_err-own.ensures.err kept.is_visible))

pub returns-clause-ok : goal.returns-clause-ok
returns-clause-ok c =
    let xlsx = c.in_ok-xlsx.xlsx in
    let opened = c.in_ok-xlsx.ensures.opens refl in
    let kept = c.in_ok-xlsx.ensures.uses.parts in
    let own = c.in_ok-own.own in
    let is = c.in_ok-own.ensures.ok kept.is_visible in
    record {
      book = own.book;
      formulas = own.graph.formulas;
      has = has_graph c.args.package.parts xlsx
          (is_opened c.args.package.parts xlsx opened.0 opened.1 opened.2
          (c.in_ok-xlsx.ensures.scopes refl) kept.parts) own.book own.graph.formulas is.has;
      fits = is.fits;
      listed = ap (λ (bytes : Vec ℕ Global). bytes.items) c.into_bytes.ensures.value
          ∙ c.in_ok-push_list.ensures
          ∙ ap (λ (front : List ℕ). front ++ graph_list_lines c.args.list own.book
          own.graph.formulas) c.new-out.ensures.bytes;
    }
