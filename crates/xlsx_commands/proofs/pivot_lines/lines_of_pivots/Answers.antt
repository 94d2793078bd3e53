use Rattle.std.proofs.Common.{◌≡◌, ◌∷◌, ◌++◌, ◌∙◌, ap, sym, List, ℕ, string_bytes, append_assoc}
use Rattle.std.proofs.Common.{append-nil}
use Rattle.list_lines.specs.Lines.{pivot_line}
use Rattle.xlsx_pivots.specs.Words.{pairs_left, pair_given}
use Rattle.xlsx_commands.specs.PivotLists.{pivot_lines}
use Rattle.xlsx_commands.proofs.pivot_lines.lines_of_pivots.Goals as goal

pub pivots-preserved : goal.pivots-preserved
pivots-preserved c =
    let pair = pair_given c.in-Some.pair in
    let left = pairs_left c.next.new.self in
    let steps : pairs_left c.pivots.pair-iterator ≡ pair ∷ left = c.in-Some.ensures.steps in
    record {
      listed = ap (λ (text : List ℕ). text ++ pivot_lines c.args.form left)
          c.in_ok-push_pivot_line.ensures.ok
          ∙ append_assoc (string_bytes c.pivots.out) (pivot_line c.args.form pair.0 pair.1)
          (pivot_lines c.args.form left)
          ∙ ap (λ (pairs : List (List ℕ × List ℕ)). string_bytes c.pivots.out
          ++ pivot_lines c.args.form pairs)
          (sym steps)
          ∙ c.pivots.invariant.listed;
    }

pub returns : goal.returns
returns c =
    sym (append-nil (string_bytes c.pivots.out))
    ∙ ap (λ (pairs : List (List ℕ × List ℕ)). string_bytes c.pivots.out
    ++ pivot_lines c.args.form pairs)
    (sym c.in-None.ensures.steps.0)
    ∙ c.pivots.invariant.listed
