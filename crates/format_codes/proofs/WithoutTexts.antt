-- Codes without a section for texts.
use Rattle.std.proofs.Common.{◌≡◌, ◌<◌, ◌||◌, ◌==◌, ℕ, Bool, true, false, cond, List, [], ◌∷◌}
use Rattle.std.proofs.Common.{length, refl, ap, ◌∙◌, arith, rules, Option, Some, None}
use Rattle.std.specs.List.{last_or, onto_first, slice_split}
use Rattle.format_codes.specs.declared.piece.CodePiece.{CodePiece}
use Rattle.format_codes.specs.Pieces.{has, is_divider, is_text_place}
use Rattle.format_codes.specs.Choosing.{is_supported, text_section, text_section_in}
use Rattle.format_codes.specs.Choosing.{text_section_of}
use Rattle.format_codes.specs.Sections.{code_pieces, shown_sections}
use Rattle.format_codes.specs.Laws.{TextsWantASection}

-- each section is without `@`
abbrev AllWithout : List (List CodePiece) → Type 0
AllWithout [] = Unit {0}
AllWithout (section ∷ sections) = (has is_text_place section ≡ false) × AllWithout sections

-- and so it is with a piece in front that isn't `@`
onto_without : (first : CodePiece) (sections : List (List CodePiece)) →
    is_text_place first ≡ false → AllWithout sections → AllWithout (onto_first first sections)
onto_without first [] none all = (ap (λ b. b || false) none, tt)
onto_without first (section ∷ sections) none all =
    (ap (λ b. b || has is_text_place section) none ∙ all.0, all.1)

-- by whether the piece is a divider
chosen_without : (divides : Bool) (first : CodePiece) (sections : List (List CodePiece)) →
    is_text_place first ≡ false → AllWithout sections →
    AllWithout (cond divides ([] ∷ sections) (onto_first first sections))
chosen_without true first sections none all = (refl, all)
chosen_without false first sections none all = onto_without first sections none all

-- neither of two tests holds
neither : (a b : Bool) → (a || b) ≡ false → (a ≡ false) × (b ≡ false)
neither true b none = absurd (search rules)
neither false b none = (refl, none)

-- the sections of pieces without `@`
divided_without : (all : List CodePiece) → has is_text_place all ≡ false →
    AllWithout (slice_split is_divider all)
divided_without [] none = (refl, tt)
divided_without (first ∷ others) none =
    let each = neither (is_text_place first) (has is_text_place others) none in
    chosen_without (is_divider first) first (slice_split is_divider others) each.0
    (divided_without others each.1)

-- a section without `@` isn't that of texts of fewer than four
last_without : (count : ℕ) (section : List CodePiece) → (count == 4) ≡ false →
    has is_text_place section ≡ false → text_section_of count (Some section) ≡ None
last_without count section few none =
    ap (λ b. cond (b || has is_text_place section) (Some section) None) few
    ∙ ap (λ b. cond b (Some section) None) none

-- nor is the last of such sections
none_of : (count : ℕ) (other : Option (List CodePiece)) (sections : List (List CodePiece)) →
    (count == 4) ≡ false → text_section_of count other ≡ None → AllWithout sections →
    text_section_of count (last_or other sections) ≡ None
none_of count other [] few none all = none
none_of count other (section ∷ sections) few none all =
    none_of count (Some section) sections few (last_without count section few all.0) all.1

-- nothing is chosen by either way
either_none : {X : Type 0} (supported : Bool) (found : Option X) → found ≡ None →
    cond supported found None ≡ None
either_none true found none = none
either_none false found none = refl

-- a code of few sections, by its pieces
few_sections : (code : List ℕ) (all : List CodePiece) →
    length (slice_split is_divider all) < 4 → has is_text_place all ≡ false →
    text_section (slice_split is_divider all) ≡ None
few_sections code all few none =
    none_of (length (slice_split is_divider all)) None (slice_split is_divider all)
    (grind arith) refl (divided_without all none)

-- a code of fewer than four sections and without `@` has no section for texts
pub no_section : (code : List ℕ) → TextsWantASection code
unfolding text_section_in
no_section [] few none =
    either_none (is_supported []) (text_section (shown_sections [])) refl
no_section (b ∷ bs) few none =
    either_none (is_supported (b ∷ bs)) (text_section (shown_sections (b ∷ bs)))
    (few_sections (b ∷ bs) (code_pieces (b ∷ bs)) few none)
