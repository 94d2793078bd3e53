-- What holds of every code.
use Rattle.std.specs.Prelude.{ℕ, ◌≡◌, ◌<◌, List, length, None, false}
use Rattle.format_codes.specs.Choosing.{text_section_in}
use Rattle.format_codes.specs.Pieces.{has, is_text_place}
use Rattle.format_codes.specs.Sections.{code_pieces, shown_sections}

-- a code of fewer than four sections and without `@` has no section for texts
abbrev pub TextsWantASection : List ℕ → Type 0
TextsWantASection code =
    length (shown_sections code) < 4 → has is_text_place (code_pieces code) ≡ false →
    text_section_in code ≡ None
