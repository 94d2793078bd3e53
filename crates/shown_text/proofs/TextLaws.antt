-- Values that a code leaves as they are.
use Rattle.std.proofs.Common.{◌≡◌, ℕ, ℤ, List, Bool, true, false, cond, refl, ap, Option, None}
use Rattle.cell_data.specs.Words.{cell_error_text, number, text, failure}
use Rattle.cell_data.specs.declared.value.CellErrorType.{CellErrorType}
use Rattle.format_codes.specs.declared.piece.CodePiece.{CodePiece}
use Rattle.format_codes.specs.Words.{is_supported, text_section, number_section, shown_sections}
use Rattle.format_codes.specs.Choosing.{text_section_in}
use Rattle.excel_dates.proofs.SerialSteps.{by_false}
use Rattle.shown_text.specs.GeneralText.{general_text}
use Rattle.shown_text.specs.ShownText.{shown_text, text_in_pieces, text_in_section}

pub error_itself : (is_1904 : Bool) (code : List ℕ) (error : CellErrorType) →
    shown_text is_1904 code (failure error) ≡ cell_error_text error
unfolding shown_text
error_itself is_1904 code error = refl

either_none : (test : Bool) (found : Option (List CodePiece)) → found ≡ None →
    cond test found None ≡ None
either_none true found none = none
either_none false found none = refl

pub text_kept : (is_1904 : Bool) (code bytes : List ℕ) → text_section (shown_sections code) ≡ None →
    shown_text is_1904 code (text bytes) ≡ bytes
unfolding shown_text text_section_in
text_kept is_1904 code bytes none =
    ap (text_in_pieces bytes) (either_none (is_supported code) _ none)

pub text_unsupported : (is_1904 : Bool) (code bytes : List ℕ) → is_supported code ≡ false →
    shown_text is_1904 code (text bytes) ≡ bytes
unfolding shown_text text_section_in
text_unsupported is_1904 code bytes not_supported =
    ap (text_in_pieces bytes) (by_false (is_supported code) _ None not_supported)

pub number_unsupported : (is_1904 : Bool) (code : List ℕ) (exact : ℤ × ℤ) →
    is_supported code ≡ false → shown_text is_1904 code (number exact) ≡ general_text exact
unfolding shown_text
number_unsupported is_1904 code exact not_supported =
    by_false (is_supported code)
    (text_in_section is_1904 exact (number_section code exact)) (general_text exact) not_supported
