-- What is kept of a code that is cut once.
use Rattle.std.specs.Prelude.{ℕ, ◌≡◌, Bool, true, false, [], ◌∷◌, ℤ, not, is_none, is_some}
use Rattle.std.specs.Prelude.{if◌then◌else◌, List, Option, Some, None, map}
use Rattle.std.specs.Int.{is_negative, is_positive}
use Rattle.std.specs.Option.{option_map}
use Rattle.std.specs.List.{list_all}
use Rattle.format_codes.specs.declared.kind.SectionKind.{SectionKind}
use Rattle.format_codes.specs.declared.piece.CodePiece.{CodePiece}
use Rattle.format_codes.specs.declared.piece.Condition.{Condition}
use Rattle.format_codes.specs.declared.shown_format.ChosenSection.{ChosenSection}
use Rattle.format_codes.specs.declared.shown_format.FormatSections.{FormatSections}
use Rattle.format_codes.specs.declared.shown_format.NumberSection.{NumberSection}
use Rattle.format_codes.specs.declared.shown_format.ShownFormat.{ShownFormat}
use Rattle.format_codes.specs.Choosing.{are_supported, ShownSection, is_supported, number_sections}
use Rattle.format_codes.specs.Choosing.{shown_pieces, text_section}
use Rattle.format_codes.specs.Conditions.{condition_in, leaves_sign_out, takes}
use Rattle.format_codes.specs.Kinds.{section_kind}
use Rattle.format_codes.specs.Sections.{shown_sections}

-- what is kept of a section that shows numbers: what it is, its pieces, and its condition
pub record KeptSection : Type 0 where
  pub kind : SectionKind
  pub pieces : List CodePiece
  pub condition : Option Condition

-- what is to be kept of a section of a kind
abbrev pub kept_of_kind : Option SectionKind → List CodePiece → Option KeptSection
kept_of_kind None section = None
kept_of_kind (Some kind) section = Some (record {
  kind = kind;
  pieces = shown_pieces section;
  condition = condition_in section;
})

-- what is to be kept of a section, if it is supported
abbrev pub kept_section : List CodePiece → Option KeptSection
kept_section section = kept_of_kind (section_kind section) section

-- a section as it is kept, apart from where its pieces lie in memory
abbrev pub section_kept : NumberSection → KeptSection
section_kept section = record {
  kind = section.kind;
  pieces = section.pieces.items;
  condition = section.condition;
}

-- what is kept of the sections of a code: those of numbers, and that of texts
pub record KeptSections : Type 0 where
  pub numbers : List (Option KeptSection)
  pub texts : Option (List CodePiece)

-- what is to be kept of sections
abbrev pub kept_sections : List (List CodePiece) → KeptSections
kept_sections all = record {
  numbers = map kept_section (number_sections all);
  texts = text_section all;
}

-- what is to be kept of sections, if they are supported
abbrev pub kept_if_supported : List (List CodePiece) → Option KeptSections
kept_if_supported all = if are_supported all then Some (kept_sections all) else None

-- the sections of a format as they are kept, apart from where their pieces lie in memory
abbrev pub sections_kept : FormatSections → KeptSections
sections_kept sections = record {
  numbers = map (λ s. Some (section_kept s)) sections.numbers.items;
  texts = option_map (λ pieces. pieces.items) sections.texts;
}

-- all sections of numbers are kept, or one of them isn't supported
abbrev pub KeepsNumbers : Option (List NumberSection) → List (List CodePiece) → Type 0
KeepsNumbers None sections = list_all (λ section. is_some (section_kind section)) sections ≡ false
KeepsNumbers (Some kept) sections =
    (map (λ s. Some (section_kept s)) kept ≡ map kept_section sections)
    × (list_all (λ section. is_some (section_kind section)) sections ≡ true)

-- what a code keeps, if it is supported
abbrev pub kept_of_code : List ℕ → Option KeptSections
kept_of_code code = if is_supported code then Some (kept_sections (shown_sections code)) else None

-- A format is that of a code: it keeps the sections of one that is supported, and else none.
abbrev pub IsFormatOf : List ℕ → ShownFormat → Type 0
IsFormatOf code format = option_map sections_kept format.sections ≡ kept_of_code code

-- the section that was chosen to show a number
abbrev pub shown_by : ChosenSection → ShownSection
shown_by chosen = record {
  kind = chosen.kind;
  pieces = chosen.pieces.now;
  unsigned = chosen.is_unsigned;
}

-- a section that is kept, as it shows a number
abbrev pub shown_by_kept : Bool → KeptSection → Option ShownSection
shown_by_kept unsigned kept =
    Some (record { kind = kept.kind; pieces = kept.pieces; unsigned = unsigned })

-- a section that is kept, if it takes a number
abbrev pub kept_if_taken : ℤ × ℤ → Bool → Bool → KeptSection → Option ShownSection
kept_if_taken number else_takes else_out kept =
    if takes number else_takes kept.condition
    then shown_by_kept (leaves_sign_out else_out kept.condition) kept
    else None

-- the first of two sections
abbrev pub first_section : Option ShownSection → Option ShownSection → Option ShownSection
first_section (Some section) other = Some section
first_section None other = other

-- the section among those that are kept that shows a number
abbrev pub kept_section_for : ℤ × ℤ → List KeptSection → Option ShownSection
kept_section_for number [] = None
kept_section_for number (a ∷ []) = kept_if_taken number true false a
kept_section_for number (a ∷ b ∷ []) =
    first_section (kept_if_taken number (not (is_negative number.0)) false a)
    (kept_if_taken number true (is_none a.condition) b)
kept_section_for number (a ∷ b ∷ c ∷ others) =
    first_section (kept_if_taken number (is_positive number.0) false a)
    (first_section (kept_if_taken number (is_negative number.0) true b) (shown_by_kept false c))
