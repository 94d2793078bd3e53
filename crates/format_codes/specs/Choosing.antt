-- Which codes are supported, and which of a code's sections shows a number, and which a text.
use Rattle.std.specs.Prelude.{ℕ, ◌-◌, ◌==◌, ◌&&◌, ◌||◌, nat_lt, nat_le, not, Bool, true, false}
use Rattle.std.specs.Prelude.{if◌then◌else◌, List, [], ◌∷◌, length, take, Option, Some, None}
use Rattle.std.specs.Prelude.{is_some, is_none, ℤ, count_by}
use Rattle.std.specs.Int.{is_negative, is_positive}
use Rattle.std.specs.List.{list_all, last_or}
use Rattle.format_codes.specs.declared.kind.SectionKind.{SectionKind}
use Rattle.format_codes.specs.declared.piece.CodePiece.{CodePiece}
use Rattle.format_codes.specs.Pieces.{has, is_condition, is_general, is_text_place, is_time}
use Rattle.format_codes.specs.Pieces.{is_unsupported_piece}
use Rattle.format_codes.specs.Sections.{shown_sections}
use Rattle.format_codes.specs.TimedPieces.{timed_pieces}
use Rattle.format_codes.specs.Kinds.{is_digit_or_exponent, section_kind}
use Rattle.format_codes.specs.Conditions.{condition_in, leaves_sign_out, takes}

-- the last of so many sections is that of texts: it is the fourth one, or has `@`
abbrev pub is_for_texts : ℕ → List CodePiece → Bool
is_for_texts count section = (count == 4) || has is_text_place section

-- the last section, if it is that of texts
abbrev pub text_section_of : ℕ → Option (List CodePiece) → Option (List CodePiece)
text_section_of count None = None
text_section_of count (Some section) = if is_for_texts count section then Some section else None

-- the section of a format that shows texts
abbrev pub text_section : List (List CodePiece) → Option (List CodePiece)
text_section all = text_section_of (length all) (last_or None all)

-- the sections of a format that show numbers
abbrev pub number_sections : List (List CodePiece) → List (List CodePiece)
number_sections all = if is_some (text_section all) then take (length all - 1) all else all

-- what no section of texts has: a place of a digit, a power, a part of a date, a condition, or what
-- isn't supported
abbrev pub is_no_text : CodePiece → Bool
is_no_text p = is_digit_or_exponent p || (is_time p || (is_condition p || is_unsupported_piece p))

-- the place of a text, or the word General
abbrev pub shows_text : CodePiece → Bool
shows_text p = is_text_place p || is_general p

-- a section is sound for texts: it has nothing that no section of texts has, and shows a text four
-- times at most
abbrev pub is_sound_for_texts : List CodePiece → Bool
is_sound_for_texts section =
    not (has is_no_text section) && nat_lt (count_by shows_text section) 5

-- the section of texts is sound, if there is one
abbrev pub is_text_sound : Option (List CodePiece) → Bool
is_text_sound None = true
is_text_sound (Some section) = is_sound_for_texts section

-- sections are supported: they are four at most, and each is of a kind
abbrev pub are_supported : List (List CodePiece) → Bool
are_supported all =
    nat_lt (length all) 5 && (is_text_sound (text_section all)
    && list_all (λ section. is_some (section_kind section)) (number_sections all))

-- a code is supported: its sections are, and it has 1,024 bytes at most
unfoldable pub is_supported : List ℕ → Bool
is_supported code = nat_le (length code) 1024 && are_supported (shown_sections code)

-- a section that shows a number: what it is, its pieces, and whether it leaves the sign out
pub record ShownSection : Type 0 where
  pub kind : SectionKind
  pub pieces : List CodePiece
  pub unsigned : Bool

-- the pieces that a section shows: those of a date tell minutes from months
abbrev pub shown_pieces : List CodePiece → List CodePiece
shown_pieces section = if has is_time section then timed_pieces section else section

-- a section that shows a number, if it is supported
abbrev pub shown_of_kind : Option SectionKind → List CodePiece → Bool → Option ShownSection
shown_of_kind None section unsigned = None
shown_of_kind (Some found) section unsigned =
    Some (record { kind = found; pieces = shown_pieces section; unsigned = unsigned })

-- a section as it is chosen to show a number, if it is supported
abbrev pub chosen : Bool → List CodePiece → Option ShownSection
chosen else_out section =
    shown_of_kind (section_kind section) section (leaves_sign_out else_out (condition_in section))

-- the section that shows a number: of one all numbers; of two those from 0 on and the others; of
-- three those above 0, those below 0 and the others
abbrev pub section_for : ℤ × ℤ → List (List CodePiece) → Option ShownSection
section_for number [] = None
section_for number (a ∷ []) =
    if takes number true (condition_in a) then chosen false a else None
section_for number (a ∷ b ∷ []) =
    if takes number (not (is_negative number.0)) (condition_in a) then chosen false a
    else (if takes number true (condition_in b) then chosen (is_none (condition_in a)) b else None)
section_for number (a ∷ b ∷ c ∷ others) =
    if takes number (is_positive number.0) (condition_in a) then chosen false a
    else (if takes number (is_negative number.0) (condition_in b) then chosen true b
    else shown_of_kind (section_kind c) c false)

-- the section of a code that shows a number, if the code is supported
unfoldable pub number_section : List ℕ → ℤ × ℤ → Option ShownSection
number_section code number =
    if is_supported code then section_for number (number_sections (shown_sections code)) else None

-- the section of a code that shows texts, if the code is supported
unfoldable pub text_section_in : List ℕ → Option (List CodePiece)
text_section_in code = if is_supported code then text_section (shown_sections code) else None
