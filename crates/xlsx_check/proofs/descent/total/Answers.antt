use Rattle.std.proofs.Common.{rules, ◌≡◌, ◌∷◌, sym, subst, arith}
use Rattle.std.specs.List.{fold}
use Rattle.formula_shift.specs.Words.{area_named}
use Rattle.xlsx_check.specs.Denoting.{denoted_by, values_of, tokens_ahead, references_from}
use Rattle.xlsx_check.specs.Evaluation.{Denoted, total_with_value, values_within}
use Rattle.xlsx_check.specs.Tokens.{refers, comma}
use Rattle.xlsx_check.proofs.Going.{IsTotal, total_start, total_step}
use Rattle.xlsx_check.proofs.descent.total.Goals as goal

pub references-init : goal.references-init
unfolding references_from
references-init c = record {
  total = subst (λ (d : Denoted). IsTotal (values_of c.args.values.now)
      (references_from (tokens_ahead c.args.tokens.now)) d (tokens_ahead c.args.tokens.now))
      (sym c.zero-total.ensures)
      (total_start (values_of c.args.values.now) (tokens_ahead c.args.tokens.now));
  shorter = omega arith;
}

pub references-preserved : goal.references-preserved
references-preserved c =
    let more : denoted_by c.with_area-total.result
    ≡ fold total_with_value (denoted_by c.references.total)
    (values_within (values_of c.args.values.now) (area_named c.in-Some.reference)) =
    search rules in
    let split : tokens_ahead c.references.tokens
    ≡ refers c.in-Some.reference ∷ tokens_ahead c.take_reference.new.self =
    c.in-Some.ensures.rest in
    let separated : tokens_ahead c.take_reference.new.self ≡ comma
    ∷ tokens_ahead c.take_separator.new.self =
    search rules in
    record {
      total = total_step (values_of c.args.values.now)
          (references_from (tokens_ahead c.args.tokens.now))
          (denoted_by c.references.total) (denoted_by c.with_area-total.result)
          (tokens_ahead c.references.tokens) (tokens_ahead c.take_reference.new.self)
          (tokens_ahead c.take_separator.new.self) c.in-Some.reference
          c.references.invariant.total more
          split separated;
      shorter = omega (
        arith,
        c.references.invariant.shorter,
        c.take_reference.ensures.shorter,
        c.take_separator.ensures.shorter,
      );
    }
