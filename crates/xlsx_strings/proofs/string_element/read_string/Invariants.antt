use Rattle.std.proofs.Common.{string_bytes}
use Rattle.part_events.specs.Words.{IsFrontOf}
use Rattle.xlsx_sections.proofs.ElementsSaid.{KeepsElementsSaid}
use Rattle.xlsx_strings.specs.Strings.{is_text_or_phonetic, string_of}
use Rattle.xlsx_strings.proofs.StringsRead.{onto, pieces_behind}
use Rattle.xlsx_strings.proofs.string_element.read_string.Given as goal

abbrev pub invariant-pieces : goal.invariant-pieces
invariant-pieces g l =
    let old = l.fn.xml in
    let now = l.xml in
    record {
      front : IsFrontOf (string_bytes l.fn.out) (string_bytes l.out);
      text : KeepsElementsSaid is_text_or_phonetic pieces_behind
          (λ inside. onto (string_bytes l.fn.out) (string_of inside)) l.base (string_bytes l.out)
          old now;
    }

abbrev pub decreases-pieces : goal.decreases-pieces
decreases-pieces g l = l.xml.source.left
