-- The colors of a workbook's theme, by the events of its part.
use Rattle.std.specs.Prelude.{◌≡◌, ◌≤◌, ℕ, List, [], ◌∷◌, length, Bool, true, false, codes, Option}
use Rattle.std.specs.Prelude.{None, Some, Result, Ok, Err, unwrap_or, is_none, option_and_then}
use Rattle.std.specs.Prelude.{MatchOption, IsOkAnd}
use Rattle.std.specs.Option.{option_map_or}
use Rattle.part_events.specs.Words.{Event, whole, Part, part_of, event_count, Reading, events_of}
use Rattle.part_events.specs.Words.{behind, behind_start, is_named}
use Rattle.xlsx_error.specs.declared.error.XlsxError.{XlsxError}
use Rattle.cell_styles.specs.declared.color.Color.{Color}
use Rattle.xlsx_sections.specs.Words.{IsInsideRefused, named_end, FailsBy, section_in}
use Rattle.xlsx_sections.specs.Words.{closed_section, has_end, inside_of, FirstSectionCause}
use Rattle.xlsx_sections.specs.Words.{Refusal, section_events_of}
use Rattle.xlsx_styles.specs.Words.{default_theme}
use Rattle.xlsx_theme.specs.ColorScheme.{scheme_colors}
use Rattle.xlsx_theme.specs.declared.theme_part.ThemeColors.{ThemeColors}

-- the colors, or none where they are refused
abbrev pub unless_refused : Result (Option (List Color)) Refusal → Option (List Color)
unless_refused (Ok colors) = colors
unless_refused (Err refusal) = None

-- the colors of a color scheme, by what stands in it
abbrev pub colors_inside : List Event → Option (List Color)
colors_inside inside = unless_refused (scheme_colors inside)

-- The colors that a theme's part says. It says none, so that the default theme stands, where it has
-- no color scheme or one of fewer than four slots, and where it is faulty: no end closes the first
-- scheme before the nesting breaks, or a lookup of a start that is searched in it is refused.
abbrev pub own_colors : List Event → Option (List Color)
own_colors events = option_and_then colors_inside (closed_section (codes "clrScheme") events)

-- the colors that the theme's part at a path says, if it is there and says some
abbrev pub own_colors_of : List Part → List ℕ → Option (List Color)
own_colors_of parts path = option_and_then own_colors (part_of parts path)

-- The colors of a workbook whose theme's part is at this path.
abbrev pub theme_colors : List Part → List ℕ → List Color
theme_colors parts path = unwrap_or (own_colors_of parts path) default_theme

-- the theme's part at a path says no colors, so that those of the default theme stand
abbrev pub is_theme_default : List Part → List ℕ → Bool
is_theme_default parts path = is_none (own_colors_of parts path)

-- the colors of a theme are its own, or where it has none those of the default theme
pub record IsThemeOf (own : Option (List Color)) (theme : ThemeColors) : Type 0 where
  pub colors : theme.colors.items ≡ unwrap_or own default_theme
  pub defaulted : theme.defaulted ≡ is_none own

-- what is called the default theme is that one, and other colors are those of four slots or more,
-- whatever the package tells
pub record IsTheme (theme : ThemeColors) : Type 0 where
  pub default : theme.defaulted ≡ true → theme.colors.items ≡ default_theme
  pub own : theme.defaulted ≡ false → 4 ≤ length theme.colors.items

-- the colors of a theme are those of the workbook whose theme's part is at this path
pub record HasTheme (parts : List Part) (path : List ℕ) (theme : ThemeColors) : Type 0 where
  pub colors : theme.colors.items ≡ theme_colors parts path
  pub defaulted : theme.defaulted ≡ is_theme_default parts path

-- The part isn't faulty, and these are its colors: its first scheme is closed, and no lookup in it
-- is refused; without a scheme the part is read to its end.
abbrev pub SaysTheme : List Event → ThemeColors → Type 0
SaysTheme events theme =
    MatchOption (section_in (codes "clrScheme") events)
    ((whole events ≡ events) × IsThemeOf None theme)
    (λ s. (has_end s ≡ true)
    × IsOkAnd (scheme_colors (inside_of s)) (λ own. IsThemeOf own theme))

-- what stands behind the end of the first color scheme, and nothing where there is no scheme
abbrev pub behind_scheme : List Event → List Event
behind_scheme events =
    option_map_or (behind 0) (behind_start (is_named (codes "clrScheme" ∷ [])) events) []

-- why the colors of a theme can't be read
abbrev pub ThemeCause : List Event → XlsxError → Type 0
ThemeCause events error =
    FirstSectionCause (codes "clrScheme") (named_end None) (IsInsideRefused scheme_colors) events
    error

-- when the colors of a theme can't be read by a reader of which nothing was taken
abbrev pub ReadThemeFails : Reading → Reading → XlsxError → Type 0
ReadThemeFails old new error =
    FailsBy (ThemeCause (events_of old)) old.source new.source error

-- the colors of a theme's part, which may be absent, can be read
abbrev pub IsSoundTheme : Option (List Event) → Type 0
IsSoundTheme None = Unit {0}
IsSoundTheme (Some events) = (error : XlsxError) → ThemeCause events error → ⊥

-- How many events of the theme's part at a path are taken: those up to the end of its first scheme,
-- and all where it has none. Of a faulty part these are no more than it has.
pub record TakesTheme (parts : List Part) (path : List ℕ) (count : ℕ) : Type 0 where
  pub most : count ≤ event_count parts path
  pub sound :
      IsSoundTheme (part_of parts path) →
      count ≡ section_events_of (codes "clrScheme") parts path
