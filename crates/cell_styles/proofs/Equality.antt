-- Comparisons hold exactly of equal values, part by part.
use Rattle.std.proofs.Common.{Bool, Some, None, nat_eq, refl, ap, rules}
use Rattle.std.specs.Bool.{beq}
use Rattle.std.specs.Option.{option_eq}
use Rattle.std.specs.Cmp.Lexicographic.{pointwise}
use Rattle.equalities.specs.Equality.{IsEquality}
use Rattle.equalities.proofs.Equality.{of_pairs, of_image, of_options, of_bool, of_number, of_text}
use Rattle.decimals.proofs.Equality.{of_decimal}
use Rattle.cell_styles.specs.Font.{FontFields}
use Rattle.cell_styles.specs.StyleFormats.{NumberFormatFields}
use Rattle.cell_styles.specs.declared.alignment.Alignment.{Alignment}
use Rattle.cell_styles.specs.declared.border.Border.{Border}
use Rattle.cell_styles.specs.declared.border.Borders.{Borders}
use Rattle.cell_styles.specs.declared.fill.Fill.{Fill}
use Rattle.cell_styles.specs.declared.protection.Protection.{Protection}
use Rattle.cell_styles.specs.declared.style.Style.{Style}
use Rattle.cell_styles.specs.contracts.alignment.AlignmentPartialEq.TheImpl as alignment
use Rattle.cell_styles.specs.contracts.alignment.HorizontalAlignmentPartialEq.TheImpl as horizontal
use Rattle.cell_styles.specs.contracts.alignment.TextRotationPartialEq.TheImpl as rotation
use Rattle.cell_styles.specs.contracts.alignment.VerticalAlignmentPartialEq.TheImpl as vertical
use Rattle.cell_styles.specs.contracts.border.BorderPartialEq.TheImpl as border
use Rattle.cell_styles.specs.contracts.border.BorderStylePartialEq.TheImpl as border_style
use Rattle.cell_styles.specs.contracts.border.BordersPartialEq.TheImpl as borders
use Rattle.cell_styles.specs.contracts.color.ColorPartialEq.TheImpl as color
use Rattle.cell_styles.specs.contracts.fill.FillPartialEq.TheImpl as fill
use Rattle.cell_styles.specs.contracts.fill.FillPatternPartialEq.TheImpl as pattern
use Rattle.cell_styles.specs.contracts.font.FontPartialEq.TheImpl as font
use Rattle.cell_styles.specs.contracts.font.FontStylePartialEq.TheImpl as font_style
use Rattle.cell_styles.specs.contracts.font.FontWeightPartialEq.TheImpl as weight
use Rattle.cell_styles.specs.contracts.font.UnderlineStylePartialEq.TheImpl as underline
use Rattle.cell_styles.specs.contracts.number_format.NumberFormatPartialEq.TheImpl as number_format
use Rattle.cell_styles.specs.contracts.protection.ProtectionPartialEq.TheImpl as protection
use Rattle.cell_styles.specs.contracts.style.StylePartialEq.TheImpl as style

of_border_style : IsEquality border_style.ghosts.eq
of_border_style a b = search rules

of_color : IsEquality color.ghosts.eq
of_color a b = search rules

of_border : IsEquality border.ghosts.eq
of_border = of_image (λ (side : Border). (side.style, side.color))
    (λ p. record { style = p.0; color = p.1 }) (λ _. refl)
    (of_pairs of_border_style (of_options of_color))

pub of_borders : IsEquality borders.ghosts.eq
of_borders =
    of_image
    (λ (x : Borders). (x.left, (x.right, (x.top, (x.bottom, (x.diagonal_down, x.diagonal_up))))))
    (λ p. record {
      left = p.0;
      right = p.1.0;
      top = p.1.1.0;
      bottom = p.1.1.1.0;
      diagonal_down = p.1.1.1.1.0;
      diagonal_up = p.1.1.1.1.1;
    }) (λ _. refl)
    (of_pairs of_border (of_pairs of_border (of_pairs of_border (of_pairs of_border
    (of_pairs of_border of_border)))))

of_pattern : IsEquality pattern.ghosts.eq
of_pattern a b = search rules

pub of_fill : IsEquality fill.ghosts.eq
of_fill = of_image (λ (x : Fill). (x.pattern, (x.foreground_color, x.background_color)))
    (λ p. record { pattern = p.0; foreground_color = p.1.0; background_color = p.1.1 }) (λ _. refl)
    (of_pairs of_pattern (of_pairs (of_options of_color) (of_options of_color)))

of_horizontal : IsEquality horizontal.ghosts.eq
of_horizontal a b = search rules

of_vertical : IsEquality vertical.ghosts.eq
of_vertical a b = search rules

of_rotation : IsEquality rotation.ghosts.eq
of_rotation a b = search rules

pub of_alignment : IsEquality alignment.ghosts.eq
of_alignment = of_image
    (λ (x : Alignment). (
      x.horizontal,
      (x.vertical, (x.text_rotation, (x.wrap_text, (x.indent, x.shrink_to_fit)))),
    ))
    (λ p. record {
      horizontal = p.0;
      vertical = p.1.0;
      text_rotation = p.1.1.0;
      wrap_text = p.1.1.1.0;
      indent = p.1.1.1.1.0;
      shrink_to_fit = p.1.1.1.1.1;
    }) (λ _. refl)
    (of_pairs of_horizontal (of_pairs of_vertical (of_pairs of_rotation (of_pairs of_bool
    (of_pairs (of_options of_number) of_bool)))))

of_weight : IsEquality weight.ghosts.eq
of_weight a b = search rules

of_font_style : IsEquality font_style.ghosts.eq
of_font_style a b = search rules

of_underline : IsEquality underline.ghosts.eq
of_underline a b = search rules

pub of_font : IsEquality font.ghosts.eq
of_font = of_image
    (λ (x : FontFields). (
      x.name,
      (x.size, (x.weight, (x.style, (x.underline, (x.strikethrough, (x.color, x.family)))))),
    ))
    (λ p. record {
      name = p.0;
      size = p.1.0;
      weight = p.1.1.0;
      style = p.1.1.1.0;
      underline = p.1.1.1.1.0;
      strikethrough = p.1.1.1.1.1.0;
      color = p.1.1.1.1.1.1.0;
      family = p.1.1.1.1.1.1.1;
    }) (λ _. refl)
    (of_pairs (of_options of_text) (of_pairs (of_options of_decimal) (of_pairs of_weight
    (of_pairs of_font_style (of_pairs of_underline (of_pairs of_bool
    (of_pairs (of_options of_color) (of_options of_number))))))))

of_number_format : IsEquality number_format.ghosts.eq
of_number_format = of_image (λ (x : NumberFormatFields). (x.format_code, x.format_id))
    (λ p. record { format_code = p.0; format_id = p.1 }) (λ _. refl)
    (of_pairs of_text (of_options of_number))

of_protection : IsEquality protection.ghosts.eq
of_protection = of_image (λ (x : Protection). (x.locked, x.hidden))
    (λ p. record { locked = p.0; hidden = p.1 }) (λ _. refl) (of_pairs of_bool of_bool)

pub of_style : IsEquality style.ghosts.eq
of_style = of_image
    (λ (x : Style). (x.font, (x.fill, (x.borders, (x.alignment, (x.number_format, x.protection))))))
    (λ p. record {
      font = p.0;
      fill = p.1.0;
      borders = p.1.1.0;
      alignment = p.1.1.1.0;
      number_format = p.1.1.1.1.0;
      protection = p.1.1.1.1.1;
    }) (λ _. refl)
    (of_pairs (of_options of_font) (of_pairs (of_options of_fill) (of_pairs (of_options of_borders)
    (of_pairs (of_options of_alignment) (of_pairs (of_options of_number_format)
    (of_options of_protection))))))
