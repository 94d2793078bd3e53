-- The theme of a workbook without one.
use Rattle.std.specs.Prelude.{List, [], ◌∷◌, map}
use Rattle.cell_styles.specs.Words.{color_of_argb}
use Rattle.cell_styles.specs.declared.color.Color.{Color}

-- the colors of the default theme, all opaque: light 1, dark 1, light 2, dark 2, the six accents,
-- links and followed links
abbrev pub default_theme : List Color
default_theme = map color_of_argb (
    0xFFFFFFFF ∷ 0xFF000000 ∷ 0xFFEEECE1 ∷ 0xFF1F497D ∷ 0xFF4F81BD ∷ 0xFFC0504D
    ∷ 0xFF9BBB59 ∷ 0xFF8064A2 ∷ 0xFF4BACC6 ∷ 0xFFF79646 ∷ 0xFF0000FF ∷ 0xFF800080 ∷ [])
