-- What the elements of fills say (ECMA-376 part 1, section 18.8.20).
use Rattle.std.specs.Prelude.{ℕ, List, [], ◌∷◌, Bool, if◌then◌else◌, codes, Option, Some, None}
use Rattle.std.specs.Prelude.{Result}
use Rattle.attr_text.specs.Words.{value_of}
use Rattle.attr_text.specs.declared.fault.AttrFault.{AttrFault}
use Rattle.part_events.specs.Words.{Tag, Event, PlacedTag, starts_by, is_named}
use Rattle.cell_styles.specs.Words.{default_fill}
use Rattle.cell_styles.specs.declared.color.Color.{Color}
use Rattle.cell_styles.specs.declared.fill.Fill.{Fill}
use Rattle.cell_styles.specs.declared.fill.FillPattern.{FillPattern}
use Rattle.cell_styles.specs.declared.fill.FillPattern.TheVariants as pattern
use Rattle.xlsx_sections.specs.Words.{Refusal, all_changes, or_fault, changed_with, named}
use Rattle.xlsx_styles.specs.Colors.{color_of}

-- the pattern of a fill that a text names (ECMA-376 part 1, section 18.18.55)
unfoldable pub pattern_named : List ℕ → FillPattern
pattern_named text = named (
    (codes "solid", pattern.Solid) ∷ (codes "darkGray", pattern.DarkGray)
    ∷ (codes "mediumGray", pattern.MediumGray) ∷ (codes "lightGray", pattern.LightGray)
    ∷ (codes "gray125", pattern.Gray125) ∷ (codes "gray0625", pattern.Gray0625)
    ∷ (codes "darkHorizontal", pattern.DarkHorizontal)
    ∷ (codes "darkVertical", pattern.DarkVertical) ∷ (codes "darkDown", pattern.DarkDown)
    ∷ (codes "darkUp", pattern.DarkUp) ∷ (codes "darkGrid", pattern.DarkGrid)
    ∷ (codes "darkTrellis", pattern.DarkTrellis)
    ∷ (codes "lightHorizontal", pattern.LightHorizontal)
    ∷ (codes "lightVertical", pattern.LightVertical) ∷ (codes "lightDown", pattern.LightDown)
    ∷ (codes "lightUp", pattern.LightUp) ∷ (codes "lightGrid", pattern.LightGrid)
    ∷ (codes "lightTrellis", pattern.LightTrellis) ∷ []) pattern.None text

-- a fill with the pattern that a text names, if there is one
abbrev pub with_pattern : Fill → Option (List ℕ) → Fill
with_pattern fill None = fill
with_pattern fill (Some text) = record {
  pattern = pattern_named text;
  foreground_color = fill.foreground_color;
  background_color = fill.background_color;
}

-- a fill with this foreground, if there is one
abbrev pub with_foreground : Fill → Option Color → Fill
with_foreground fill None = fill
with_foreground fill (Some color) = record {
  pattern = fill.pattern;
  foreground_color = Some color;
  background_color = fill.background_color;
}

-- a fill with this background, if there is one
abbrev pub with_background : Fill → Option Color → Fill
with_background fill None = fill
with_background fill (Some color) = record {
  pattern = fill.pattern;
  foreground_color = fill.foreground_color;
  background_color = Some color;
}

-- a start of the element `patternFill`, the pattern of a fill
abbrev pub is_pattern : Tag → Bool
is_pattern tag = is_named (codes "patternFill" ∷ []) tag

-- a start of the element `fgColor`, the foreground of a fill
abbrev pub is_foreground : Tag → Bool
is_foreground tag = is_named (codes "fgColor" ∷ []) tag

-- what a start in a fill, a pattern, a foreground or a background, makes of the fill
abbrev pub fill_changed : List Color → Tag → Fill → Result Fill AttrFault
fill_changed theme tag fill =
    if is_pattern tag
    then changed_with with_pattern fill (value_of (codes "patternType") tag.attributes)
    else (if is_foreground tag then changed_with with_foreground fill (color_of theme tag)
    else changed_with with_background fill (color_of theme tag))

-- what a start in a fill makes of the fill, with the place of a refusal
abbrev pub fill_change : List Color → PlacedTag → Fill → Result Fill Refusal
fill_change theme start fill = or_fault (fill_changed theme start.tag fill)

-- a start says something of a fill: its pattern, its foreground or its background
abbrev pub is_in_fill : Tag → Bool
is_in_fill tag = is_named (codes "patternFill" ∷ codes "fgColor" ∷ codes "bgColor" ∷ []) tag

-- the fill of an element, by what stands in it: of each kind the last start that says something
abbrev pub fill_of : List Color → List Event → Result Fill Refusal
fill_of theme inside = all_changes (fill_change theme) (starts_by is_in_fill inside) default_fill
