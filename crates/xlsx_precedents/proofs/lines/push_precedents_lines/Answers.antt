use Rattle.std.proofs.Common.{◌≡◌, ◌++◌, suc, map, string_bytes, append_assoc, sym, ap, ◌∙◌, subst}
use Rattle.std.proofs.Common.{arith}
use Rattle.cell_data.specs.Words.{AreInSheet}
use Rattle.escaped_text.proofs.Extending.{Extends-push, Extends-trans}
use Rattle.list_lines.specs.Lines.{position_areas_line}
use Rattle.sorted_cells.specs.Words.{placed_left}
use Rattle.xlsx_precedents.specs.Lines.{precedents_lines}
use Rattle.xlsx_precedents.specs.Precedents.{areas, formula_of_cell}
use Rattle.xlsx_precedents.proofs.lines.push_precedents_lines.Goals as goal

pub loop-pos-preserved : goal.loop-pos-preserved
loop-pos-preserved c =
    let text = string_bytes c.in-Some.formula.now in
    let rest = precedents_lines (map formula_of_cell (placed_left c.next.new.self)) in
    let named : c.deref.result.now ≡ areas text =
    c.deref.ensures.value ∙ c.in_ok-push_areas.ensures.ok
    ∙ ap (λ items. items ++ areas c.as_str.result.now) c.clear.ensures.items
    ∙ ap areas c.as_str.ensures.value in
    let all = subst AreInSheet c.in-Some.ensures.steps c.loop-pos.invariant.sheet in
    record {
      lines = ap (λ t. t ++ rest) (c.in_ok-push_position_areas_line.ensures.ok
          ∙ ap (λ all. string_bytes c.loop-pos.out ++ position_areas_line c.in-Some.pos all)
          named)
          ∙ append_assoc (string_bytes c.loop-pos.out)
          (position_areas_line c.in-Some.pos (areas text)) rest
          ∙ ap (λ left. string_bytes c.loop-pos.out
          ++ precedents_lines (map formula_of_cell left)) (sym c.in-Some.ensures.steps)
          ∙ c.loop-pos.invariant.lines;
      extends = Extends-trans (string_bytes c.args.out.now) (string_bytes c.loop-pos.out)
          (string_bytes c.push_position_areas_line.new.out) c.loop-pos.invariant.extends
          (Extends-push (string_bytes c.loop-pos.out)
          (string_bytes c.push_position_areas_line.new.out)
          (position_areas_line c.in-Some.pos c.deref.result.now)
          c.in_ok-push_position_areas_line.ensures.ok);
      sheet = λ k d within. all (suc k) d (omega (arith, within));
    }
