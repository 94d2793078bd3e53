use Rattle.std.proofs.Common.{◌≡◌, length, map}
use Rattle.xlsx_formats.specs.Formattings.{FormattingSaid, formatting_said, style_said}
use Rattle.xlsx_stylesheet.proofs.style_sheet.from_formattings.Given as goal

abbrev pub invariant-loop-formatting : goal.invariant-loop-formatting
invariant-loop-formatting l =
    let said = map formatting_said l.yielded in
    record {
      formats : l.formats.items ≡ map (λ (formatting : FormattingSaid). formatting.format) said;
      styles :
          map style_said l.styles.items
          ≡ map (λ (formatting : FormattingSaid). formatting.style) said;
      lengths : length l.formats.items ≡ length l.styles.items;
    }
