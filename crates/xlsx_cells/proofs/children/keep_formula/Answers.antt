use Rattle.std.proofs.Common.{◌≡◌, Some, Ok, refl, ap}
use Rattle.std.proofs.lemmas.Result.{err_from_is_err_and}
use Rattle.xlsx_formulas.specs.Words.{some_formula, formula_text, formula_seen}
use Rattle.xlsx_cells.proofs.ChildrenRead.{formula_fails, kept_one, kept_none_of}
use Rattle.xlsx_cells.proofs.children.keep_formula.Goals as goal
use Rattle.xlsx_cells.proofs.children.keep_formula.Goals.{then-asked+in_ok-keep, else-asked}

pub returns-in_err-formula-clause-err : goal.returns-in_err-formula-clause-err
returns-in_err-formula-clause-err g c =
    let old = c.args.xml.now in
    let new = c.read_formula.new.xml in
    let p = err_from_is_err_and c.from_residual.result c.from_residual.ensures.1 in
    rw (p.1, p.2) (λ context format kind element stands named.
    formula_fails c.args.asked.wants context format kind element.tag old new
    c.in_err-formula.field-0.0
    named c.if-not-asked.false
    (c.in_err-formula.ensures.err element.tag stands.tag))

pub returns-clause-covers : goal.returns-clause-covers
returns-clause-covers g c = λ told wanted element stands.
    c.in_ok-formula.ensures.covers element.tag stands.tag

pub returns-clause-formula : goal.returns-clause-formula
returns-clause-formula g c = λ told wanted element stands named.
    let read : formula_text element.tag element.inside ≡ Ok (formula_seen c.in_ok-formula.formula) =
    rw stands.inside (c.in_ok-formula.ensures.formula told element.tag stands.tag) in
    let keeps = c.args.asked.keeps_masters in
    let found = formula_seen c.in_ok-formula.formula in
    record {
      found = Some (formula_seen c.in_ok-formula.formula);
      said = rw named (ap some_formula read);
      steps = record {
        last = refl;
        masters = elim c.if-asked.branch [
          | then-asked+in_ok-keep w ↦
              rw w.masters-is (kept_one keeps found c.args.masters.now w.keep.new.self
              w.if-asked.true w.in_ok-keep.ensures.masters)
          | else-asked w ↦
              kept_none_of keeps found c.args.masters.now c.if-asked.masters w.if-asked.false
              w.masters-is
        ];
      };
    }
