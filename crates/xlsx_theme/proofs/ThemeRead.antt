-- What a part says of its theme's colors, by its first color scheme.
use Rattle.std.proofs.Common.{◌≡◌, ℕ, List, [], ◌∷◌, length, Bool, true, false, Option, Some, None}
use Rattle.std.proofs.Common.{Result, Ok, Err, refl, sym, ◌∙◌, ap, subst, codes, arith}
use Rattle.std.specs.Prelude.{option_map, option_and_then, unwrap_or, is_none, if◌then◌else◌}
use Rattle.std.specs.Prelude.{IsOkAnd, MatchOption}
use Rattle.part_events.specs.Words.{Event, whole, Part, part_of, Reading, IsReading, ahead}
use Rattle.part_events.specs.Words.{events_of, content, is_closed, behind_start, is_named, inside}
use Rattle.part_events.specs.Words.{section_ahead, is_closed_ahead}
use Rattle.part_events.specs.declared.fault.XmlFault.TheVariants.{Break, Unclosed}
use Rattle.xlsx_error.specs.declared.error.XlsxError.{XlsxError}
use Rattle.xlsx_error.specs.declared.error.XlsxError.TheVariants.{Xml, XmlEof}
use Rattle.cell_styles.specs.declared.color.Color.{Color}
use Rattle.xlsx_sections.specs.Words.{IsInsideRefused, named_end, section_from, section_in}
use Rattle.xlsx_sections.specs.Words.{if_closed, last_of, StartCause, SectionCause, Refusal}
use Rattle.xlsx_sections.proofs.Refused.{some_refusal}
use Rattle.xlsx_sections.proofs.SectionsRead.{ahead_at_first, nothing_past}
use Rattle.xlsx_theme.specs.ColorScheme.{slot_colors, numbered_colors, all_numbered, scheme_colors}
use Rattle.xlsx_styles.specs.Words.{default_theme}
use Rattle.xlsx_theme.specs.ThemePart.{IsThemeOf, SaysTheme, HasTheme, ThemeCause, colors_inside}
use Rattle.xlsx_theme.specs.ThemePart.{own_colors, own_colors_of}
use Rattle.xlsx_theme.specs.declared.theme_part.ThemeColors.{ThemeColors}

-- the scheme that a reader finds that took nothing, or that there is none
pub scheme_found : (old : Reading) (found : Option (List Event)) → IsReading old → old.at ≡ 0
    → old.source.is_visible ≡ true
    → behind_start (is_named (codes "clrScheme" ∷ [])) (ahead old) ≡ found
    → section_in (codes "clrScheme") (events_of old)
    ≡ option_map (section_from (events_of old)) found
scheme_found old found is first told here =
    ap (option_map (section_from (events_of old)))
    (ap (behind_start (is_named (codes "clrScheme" ∷ [])))
    (sym (ahead_at_first old (nothing_past old is first told)))
    ∙ here)

-- the theme of a scheme by its slots
pub scheme_says : {slots : List Color} {theme : ThemeColors} (base : ℕ) (old mid : Reading)
    → base ≡ length mid.names
    → section_in (codes "clrScheme") (events_of old)
    ≡ Some (section_from (events_of old) (ahead mid))
    → is_closed_ahead base mid ≡ true → slot_colors (section_ahead base mid) ≡ Ok slots
    → IsThemeOf (numbered_colors slots) theme → SaysTheme (events_of old) theme
scheme_says {theme = theme} base old mid whole_it there closed says is =
    let none : inside base mid ≡ 0 = omega (arith, whole_it) in
    rw there (
      sym (ap (λ (n : ℕ). is_closed n (ahead mid)) none) ∙ closed,
      subst (λ (answer : Result (Option (List Color)) Refusal).
          IsOkAnd answer (λ own. IsThemeOf own theme))
          (sym (ap (λ (n : ℕ). scheme_colors (content n (ahead mid))) (sym none)
          ∙ ap all_numbered says))
          is,
    )

-- a faulty part says no colors
no_colors : (closed : Bool) (inside : List Event) → closed ≡ false
    → option_and_then colors_inside (if closed then Some inside else None) ≡ None
no_colors closed inside is = rw is refl

refused_colors : (closed : Bool) (inside : List Event) (refusal : Refusal)
    → scheme_colors inside ≡ Err refusal
    → option_and_then colors_inside (if closed then Some inside else None) ≡ None
refused_colors true inside refusal is = rw is refl
refused_colors false inside refusal is = refl

faulty_section : (events : List Event) (found : Option (List Event)) (error : XlsxError)
    → MatchOption (option_map (section_from events) found)
    (StartCause (codes "clrScheme") events error)
    (λ s. SectionCause (named_end None) (IsInsideRefused scheme_colors) s error)
    → option_and_then colors_inside (option_and_then if_closed found) ≡ None
faulty_section events None error cause = refl
faulty_section events (Some left) (Xml (Break at why)) cause =
    no_colors (is_closed 0 left) (content 0 left) cause.1
faulty_section events (Some left) (Xml (Unclosed at)) cause =
    no_colors (is_closed 0 left) (content 0 left) cause.0.1
faulty_section events (Some left) (XmlEof element) cause =
    no_colors (is_closed 0 left) (content 0 left) cause.0.1
faulty_section events (Some left) error cause =
    let s = section_from events left in
    let some = some_refusal (last_of s) (IsInsideRefused scheme_colors s) error cause in
    refused_colors (is_closed 0 left) (content 0 left) some.0 some.1

pub faulty_theme : (parts : List Part) (path : List ℕ) (events : List Event) (error : XlsxError)
    (theme : ThemeColors) → part_of parts path ≡ Some events → ThemeCause events error
    → IsThemeOf None theme → HasTheme parts path theme
faulty_theme parts path events error theme there cause is =
    let none : own_colors_of parts path ≡ None =
    ap (option_and_then own_colors) there
    ∙ faulty_section events (behind_start (is_named (codes "clrScheme" ∷ [])) (whole events)) error
    cause in
    record {
      colors = is.colors
          ∙ ap (λ (own : Option (List Color)). unwrap_or own default_theme) (sym none);
      defaulted = is.defaulted ∙ ap is_none (sym none);
    }
