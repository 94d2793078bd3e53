use Rattle.std.proofs.Common.{◌≡◌, true, false, length, None}
use Rattle.part_events.specs.Words.{children, is_any, section_ahead}
use Rattle.xlsx_sections.specs.Words.{or_earlier, last_answer, KeepsElements}
use Rattle.xlsx_values.specs.Words.{kind_of, context_of, child_value}
use Rattle.xlsx_formulas.specs.Words.{formulas_in, covers_along, last_seen, covers_seen}
use Rattle.xlsx_cells.specs.Children.{value_kept}
use Rattle.xlsx_cells.proofs.ChildrenRead.{HasWritten}
use Rattle.xlsx_cells.proofs.children.read_children.Given as goal

abbrev pub invariant-children : goal.invariant-children
invariant-children g l =
    let old = l.fn.xml in
    let now = l.xml in
    let context = context_of l.asked.book in
    let kind = kind_of l.start.typ in
    record {
      base : l.base ≡ length l.fn.xml.names;
      keeps : KeepsElements is_any l.base old now;
      value : old.source.is_visible ≡ true → l.asked.wants.values ≡ true →
          or_earlier (value_kept l.latest.value)
          (last_answer (child_value context l.start.format kind)
          (children (section_ahead l.base now)))
          ≡ last_answer (child_value context l.start.format kind)
          (children (section_ahead l.base old));
      formulas : old.source.is_visible ≡ true → l.asked.wants.formulas ≡ true →
          HasWritten l.asked.keeps_masters (formulas_in (section_ahead l.base old))
          (children (section_ahead l.base now)) l.fn.masters l.masters
          (last_seen l.latest.formula);
      covers : old.source.is_visible ≡ true → l.asked.wants.formulas ≡ true →
          covers_along (covers_seen l.latest.formula) (children (section_ahead l.base now))
          ≡ covers_along None (children (section_ahead l.base old));
      same : l.asked.wants.formulas ≡ false → l.masters ≡ l.fn.masters;
      unvalued : l.asked.wants.values ≡ false → l.latest.value ≡ None;
      unlisted : l.asked.wants.formulas ≡ false → l.latest.formula ≡ None;
    }

abbrev pub decreases-children : goal.decreases-children
decreases-children g l = l.xml.source.left
