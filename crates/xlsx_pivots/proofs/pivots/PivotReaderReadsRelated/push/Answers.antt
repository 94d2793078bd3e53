use Rattle.std.proofs.Common.{◌∷◌, [], ap, option_map}
use Rattle.std.proofs.lemmas.List.{map-append}
use Rattle.std.proofs.lemmas.Result.{err_from_is_err_and}
use Rattle.xlsx_pivots.specs.PivotTables.{pivot_kept}
use Rattle.xlsx_pivots.specs.Pivots.{one_pivot}
use Rattle.xlsx_pivots.proofs.pivots.PivotReaderReadsRelated.push.Goals as goal

pub returns-in_err-pivot-clause-answers : goal.returns-in_err-pivot-clause-answers
returns-in_err-pivot-clause-answers g c =
    let p = err_from_is_err_and c.from_residual.result c.from_residual.ensures.1 in
    rw (p.1, p.2) (record {
      uses = c.in_err-pivot.ensures.answers.uses;
      to_end = λ told. tt;
      said = λ told. tt;
      err = c.in_err-pivot.ensures.answers.err;
      kind = c.in_err-pivot.ensures.answers.kind;
    })

pub returns-in_err-push-clause-answers : goal.returns-in_err-push-clause-answers
returns-in_err-push-clause-answers g c =
    let uses = c.in_ok-pivot.ensures.answers.uses in
    let p = err_from_is_err_and c.from_residual-in_err-push.result
    c.from_residual-in_err-push.ensures.1 in
    rw (p.1, p.2) (record {
      uses = record {
        parts = uses.parts;
        faults = λ other. uses.faults;
        forward = uses.forward;
        taken = uses.taken;
      };
      to_end = λ told. tt;
      said = λ told. tt;
      err = tt;
      kind = tt;
    })

pub returns-clause-answers : goal.returns-clause-answers
returns-clause-answers g c =
    let own = c.in_ok-pivot.pivot in
    let answers = c.in_ok-pivot.ensures.answers in
    record {
      uses = answers.uses;
      to_end = answers.to_end;
      said = λ told. (
        pivot_kept own ∷ [],
        ap (option_map one_pivot) (answers.said told),
        rw c.in_ok-push.ensures.items
            (map-append pivot_kept c.args.pivots.now.items (own ∷ [])),
      );
      err = tt;
      kind = tt;
    }
