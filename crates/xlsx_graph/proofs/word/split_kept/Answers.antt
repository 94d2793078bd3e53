use Rattle.std.proofs.Common.{◌≡◌, ◌==◌, ◌∙◌, ℕ, false, length, sym}
use Rattle.std.proofs.lemmas.Bool.{eq-eqb, eqb-true}
use Rattle.xlsx_graph.proofs.Keeping.{kept_whole, split_double, split_single, split_last}
use Rattle.xlsx_graph.proofs.word.split_kept.Goals as goal

some : (n : ℕ) → n ≡ 0 → (n == 0) ≡ false → ⊥
some n e not = absurd (cc (eq-eqb n 0 e))

pub returns-in_err-before-clause-parts : goal.returns-in_err-before-clause-parts
returns-in_err-before-clause-parts c =
    rw c.from_residual.ensures (kept_whole c.args.text.now c.in_err-before.ensures)

pub returns-in-Some-clause-parts : goal.returns-in-Some-clause-parts
returns-in-Some-clause-parts c =
    split_double c.args.text.now c.in_ok-before.before.now c.in_ok-before.behind.now
    c.in-Some.rest.now c.in_ok-before.ensures.0 c.in_ok-before.ensures.1
    c.in_ok-before.ensures.2 c.in-Some.ensures

pub returns-then-is_empty-clause-parts : goal.returns-then-is_empty-clause-parts
returns-then-is_empty-clause-parts c =
    split_last c.args.text.now c.in_ok-before.before.now c.in_ok-before.behind.now
    c.in_ok-before.ensures.0 c.in_ok-before.ensures.1 c.in_ok-before.ensures.2
    (eqb-true _ _ (sym c.is_empty.ensures ∙ c.if-is_empty.true))

pub returns-clause-parts : goal.returns-clause-parts
returns-clause-parts c =
    split_single c.args.text.now c.in_ok-before.before.now c.in_ok-before.behind.now
    c.in_ok-before.ensures.0 c.in_ok-before.ensures.1 c.in_ok-before.ensures.2
    (λ e. some (length c.in_ok-before.behind.now) e
    (sym c.is_empty.ensures ∙ c.if-is_empty.false))
    c.in_default.ensures
