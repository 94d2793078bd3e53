use Rattle.std.proofs.Common.{ap, map, string_bytes}
use Rattle.std.proofs.lemmas.List.Elements.{All-rest}
use Rattle.cell_data.specs.Words.{IsPlacedInSheet}
use Rattle.escaped_text.proofs.Extending.{Extends-push, Extends-trans}
use Rattle.sorted_cells.specs.Words.{placed_left}
use Rattle.xlsx_check.specs.Denoting.{values_of}
use Rattle.xlsx_check.specs.Lines.{formulas_of, verdict_line}
use Rattle.xlsx_check.specs.Verdicts.{verdict_of}
use Rattle.xlsx_check.proofs.Listing.{goes_on}
use Rattle.xlsx_check.proofs.lines.push_check_lines.Goals as goal

pub loop-position-preserved : goal.loop-position-preserved
loop-position-preserved c =
    let values = values_of c.args.values.now in
    record {
      printed = goes_on values (c.in-Some.position, string_bytes c.in-Some.formula.now)
          (map (λ cell. (cell.0, string_bytes cell.1)) (placed_left c.next.new.self))
          (map (λ cell. (cell.0, string_bytes cell.1))
          (placed_left c.loop-position.position-iterator))
          (formulas_of c.args.formulas.now) (string_bytes c.args.out.now)
          (string_bytes c.loop-position.out) (string_bytes c.push_verdict_line.new.out)
          c.as_str.result.now c.verdict-said.result
          c.as_str.ensures.value c.verdict-said.ensures c.in_ok-push_verdict_line.ensures.ok
          (ap (map (λ cell. (cell.0, string_bytes cell.1))) c.in-Some.ensures.steps)
          c.loop-position.invariant.printed;
      extends = Extends-trans (string_bytes c.args.out.now) (string_bytes c.loop-position.out)
          (string_bytes c.push_verdict_line.new.out) c.loop-position.invariant.extends
          (Extends-push (string_bytes c.loop-position.out)
          (string_bytes c.push_verdict_line.new.out)
          (verdict_line c.in-Some.position (verdict_of c.verdict-said.result))
          c.in_ok-push_verdict_line.ensures.ok);
      sheet = All-rest IsPlacedInSheet (c.in-Some.position, c.in-Some.formula.now)
          (placed_left c.next.new.self) (placed_left c.loop-position.position-iterator)
          c.in-Some.ensures.steps c.loop-position.invariant.sheet;
    }
