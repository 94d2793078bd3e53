-- What is kept of a code, and the sections that are chosen among what is kept.
use Rattle.std.proofs.Common.{◌≡◌, ◌<◌, ◌≤◌, ◌&&◌, ℕ, Bool, true, false, cond, List, [], ◌∷◌}
use Rattle.std.proofs.Common.{length, map, refl, sym, ap, ◌∙◌, arith, rules, Option, Some, None, ℤ}
use Rattle.std.specs.Prelude.{is_none, nat_le, not}
use Rattle.std.specs.Int.{is_negative, is_positive}
use Rattle.std.specs.Option.{option_map}
use Rattle.format_codes.specs.declared.kind.SectionKind.{SectionKind}
use Rattle.format_codes.specs.declared.piece.CodePiece.{CodePiece}
use Rattle.format_codes.specs.declared.shown_format.NumberSection.{NumberSection}
use Rattle.format_codes.specs.declared.shown_format.FormatSections.{FormatSections}
use Rattle.format_codes.specs.Choosing.{ShownSection, are_supported, chosen, is_supported}
use Rattle.format_codes.specs.Choosing.{number_section, number_sections, section_for, shown_of_kind}
use Rattle.format_codes.specs.Choosing.{shown_pieces, text_section, text_section_in}
use Rattle.format_codes.specs.Conditions.{condition_in, leaves_sign_out, takes}
use Rattle.format_codes.specs.Kinds.{section_kind}
use Rattle.format_codes.specs.Sections.{shown_sections}
use Rattle.format_codes.specs.ShownFormats.{KeptSection, KeptSections, first_section}
use Rattle.format_codes.specs.ShownFormats.{kept_if_supported, kept_if_taken, kept_of_code}
use Rattle.format_codes.specs.ShownFormats.{kept_of_kind, kept_section, kept_section_for}
use Rattle.format_codes.specs.ShownFormats.{kept_sections, section_kept, sections_kept}
use Rattle.format_codes.specs.ShownFormats.{shown_by_kept}

-- nothing is kept of a code that is too long
pub too_long : (code : List ℕ) → 1024 < length code → None ≡ kept_of_code code
unfolding is_supported
too_long code long =
    let fails : nat_le (length code) 1024 ≡ false = grind arith in
    ap (λ b. cond (b && are_supported (shown_sections code))
    (Some (kept_sections (shown_sections code))) None) (sym fails)

-- what is kept of a code that isn't too long is what is kept of its sections
pub short_enough : (code : List ℕ) → length code ≤ 1024 →
    kept_if_supported (shown_sections code) ≡ kept_of_code code
unfolding is_supported
short_enough code short =
    let holds : nat_le (length code) 1024 ≡ true = grind arith in
    ap (λ b. cond (b && are_supported (shown_sections code))
    (Some (kept_sections (shown_sections code))) None) (sym holds)

-- a section that is kept has the condition of its section
condition_kept : (found : Option SectionKind) (section : List CodePiece) (kept : KeptSection) →
    Some kept ≡ kept_of_kind found section → kept.condition ≡ condition_in section
condition_kept None section kept same = absurd (search rules)
condition_kept (Some kind) section kept same = cc

-- a section that is kept is shown as its section
shown_kept : (found : Option SectionKind) (section : List CodePiece) (kept : KeptSection)
    (unsigned : Bool) → Some kept ≡ kept_of_kind found section →
    shown_by_kept unsigned kept ≡ shown_of_kind found section unsigned
shown_kept None section kept unsigned same = absurd (search rules)
shown_kept (Some kind) section kept unsigned same =
    let record_kept : KeptSection = record {
      kind = kind;
      pieces = shown_pieces section;
      condition = condition_in section;
    } in
    let alike : kept ≡ record_kept = cc in
    ap (shown_by_kept unsigned) alike

-- the first of two sections, by whether the first is taken
first_taken : (taken : Bool) (section : ShownSection) (other : Option ShownSection) →
    first_section (cond taken (Some section) None) other ≡ cond taken (Some section) other
first_taken true section other = refl
first_taken false section other = refl

-- a section that is kept, before others, as its section before them
taken_kept : (number : ℤ × ℤ) (else_takes else_out : Bool) (section : List CodePiece)
    (kept : KeptSection) (other : Option ShownSection) → Some kept ≡ kept_section section →
    first_section (kept_if_taken number else_takes else_out kept) other
    ≡ cond (takes number else_takes (condition_in section)) (chosen else_out section) other
taken_kept number else_takes else_out section kept other same =
    let alike = condition_kept (section_kind section) section kept same in
    first_taken (takes number else_takes kept.condition) _ other
    ∙ (ap (λ c. cond (takes number else_takes c)
    (shown_by_kept (leaves_sign_out else_out c) kept) other) alike
    ∙ ap (λ s. cond (takes number else_takes (condition_in section)) s other)
    (shown_kept (section_kind section) section kept
    (leaves_sign_out else_out (condition_in section)) same))

-- nothing stands behind the last section
none_after : (section : Option ShownSection) → section ≡ first_section section None
none_after None = refl
none_after (Some section) = refl

-- the last section that is kept, as its section
last_kept : (number : ℤ × ℤ) (else_takes else_out : Bool) (section : List CodePiece)
    (kept : KeptSection) → Some kept ≡ kept_section section →
    kept_if_taken number else_takes else_out kept
    ≡ cond (takes number else_takes (condition_in section)) (chosen else_out section) None
last_kept number else_takes else_out section kept same =
    none_after (kept_if_taken number else_takes else_out kept)
    ∙ taken_kept number else_takes else_out section kept None same

-- the first of two lists that are the same
heads : {X : Type 0} (x y : X) (xs ys : List X) → x ∷ xs ≡ y ∷ ys → x ≡ y
heads x y xs ys same = cc

-- what stands behind it
tails : {X : Type 0} (x y : X) (xs ys : List X) → x ∷ xs ≡ y ∷ ys → xs ≡ ys
tails x y xs ys same = cc

-- the section among those that are kept that shows a number is that among the sections
pub chosen_same : (number : ℤ × ℤ) (kept : List NumberSection)
    (sections : List (List CodePiece)) →
    map (λ s. Some (section_kept s)) kept ≡ map kept_section sections →
    kept_section_for number (map section_kept kept) ≡ section_for number sections
chosen_same number [] [] same = refl
chosen_same number [] (x ∷ xs) same = absurd (search rules)
chosen_same number (a ∷ others) [] same = absurd (search rules)
chosen_same number (a ∷ []) (x ∷ []) same =
    last_kept number true false x (section_kept a) (heads _ _ _ _ same)
chosen_same number (a ∷ []) (x ∷ y ∷ ys) same =
    absurd (search (rules, tails _ _ _ _ same))
chosen_same number (a ∷ b ∷ bs) (x ∷ []) same =
    absurd (search (rules, tails _ _ _ _ same))
chosen_same number (a ∷ b ∷ []) (x ∷ y ∷ []) same =
    let first = heads _ _ _ _ same in
    let second = heads _ _ _ _ (tails _ _ _ _ same) in
    let condition = condition_kept (section_kind x) x (section_kept a) first in
    taken_kept number (not (is_negative number.0)) false x (section_kept a) _ first
    ∙ ap (λ other. cond (takes number (not (is_negative number.0)) (condition_in x))
    (chosen false x) other)
    (ap (λ c. kept_if_taken number true (is_none c) (section_kept b)) condition
    ∙ last_kept number true (is_none (condition_in x)) y (section_kept b) second)
chosen_same number (a ∷ b ∷ []) (x ∷ y ∷ z ∷ zs) same =
    absurd (search (rules, tails _ _ _ _ (tails _ _ _ _ same)))
chosen_same number (a ∷ b ∷ c ∷ cs) (x ∷ y ∷ []) same =
    absurd (search (rules, tails _ _ _ _ (tails _ _ _ _ same)))
chosen_same number (a ∷ b ∷ c ∷ cs) (x ∷ y ∷ z ∷ zs) same =
    let first = heads _ _ _ _ same in
    let second = heads _ _ _ _ (tails _ _ _ _ same) in
    let third = heads _ _ _ _ (tails _ _ _ _ (tails _ _ _ _ same)) in
    taken_kept number (is_positive number.0) false x (section_kept a) _ first
    ∙ ap (λ other. cond (takes number (is_positive number.0) (condition_in x))
    (chosen false x) other)
    (taken_kept number (is_negative number.0) true y (section_kept b) _ second
    ∙ ap (λ other. cond (takes number (is_negative number.0) (condition_in y))
    (chosen true y) other)
    (shown_kept (section_kind z) z (section_kept c) false third))

-- the section for a number, by whether the code is supported
number_by : (supported : Bool) (number : ℤ × ℤ) (sections : FormatSections)
    (all : List (List CodePiece)) →
    Some (sections_kept sections) ≡ cond supported (Some (kept_sections all)) None →
    kept_section_for number (map section_kept sections.numbers.items)
    ≡ cond supported (section_for number (number_sections all)) None
number_by true number sections all same =
    let alike : sections_kept sections ≡ kept_sections all = cc in
    chosen_same number sections.numbers.items (number_sections all) (ap (λ k. k.numbers) alike)
number_by false number sections all same = absurd (search rules)

-- the section of a code that shows a number
pub number_told : (code : List ℕ) (number : ℤ × ℤ) (sections : FormatSections) →
    Some (sections_kept sections) ≡ kept_of_code code →
    kept_section_for number (map section_kept sections.numbers.items) ≡ number_section code number
unfolding number_section
number_told code number sections same =
    number_by (is_supported code) number sections (shown_sections code) same

-- the section for texts, by whether the code is supported
texts_by : (supported : Bool) (sections : FormatSections) (all : List (List CodePiece)) →
    Some (sections_kept sections) ≡ cond supported (Some (kept_sections all)) None →
    option_map (λ pieces. pieces.items) sections.texts ≡ cond supported (text_section all) None
texts_by true sections all same =
    let alike : sections_kept sections ≡ kept_sections all = cc in
    ap (λ k. k.texts) alike
texts_by false sections all same = absurd (search rules)

-- the section of a code that shows texts
pub texts_told : (code : List ℕ) (sections : FormatSections) →
    Some (sections_kept sections) ≡ kept_of_code code →
    option_map (λ pieces. pieces.items) sections.texts ≡ text_section_in code
unfolding text_section_in
texts_told code sections same =
    texts_by (is_supported code) sections (shown_sections code) same

-- nothing is chosen of a code that isn't supported
none_by : {X : Type 0} (supported : Bool) (kept : KeptSections) (found : Option X) →
    None ≡ cond supported (Some kept) None → None ≡ cond supported found None
none_by true kept found same = absurd (search rules)
none_by false kept found same = refl

-- no section shows a number
pub no_number_told : (code : List ℕ) (number : ℤ × ℤ) → None ≡ kept_of_code code →
    None ≡ number_section code number
unfolding number_section
no_number_told code number same =
    none_by (is_supported code) (kept_sections (shown_sections code)) _ same

-- no section shows texts
pub no_texts_told : (code : List ℕ) → None ≡ kept_of_code code → None ≡ text_section_in code
unfolding text_section_in
no_texts_told code same =
    none_by (is_supported code) (kept_sections (shown_sections code)) _ same
