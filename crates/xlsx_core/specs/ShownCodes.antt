-- Codes that are cut when they are first met, by the places of their styles.
use Rattle.std.specs.Prelude.{◌≡◌, ℕ, List, slice_get, Option, Some}
use Rattle.format_codes.specs.Words.{IsFormatOf}
use Rattle.format_codes.specs.declared.shown_format.ShownFormat.{ShownFormat}

-- what was cut at a place is the code of that place
abbrev pub AreCutFrom : (ℕ → List ℕ) → List (Option ShownFormat) → Type 0
AreCutFrom codes cut =
    (place : ℕ) (format : ShownFormat) → slice_get cut place ≡ Some (Some format) →
    IsFormatOf (codes place) format

-- the code of a place was cut
abbrev pub HasCutCode : ℕ → List (Option ShownFormat) → Type 0
HasCutCode place cut = (format : ShownFormat) × (slice_get cut place ≡ Some (Some format))
