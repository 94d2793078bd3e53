-- Which section shows a value.
use Rattle.std.proofs.Common.{◌≡◌, ◌∙◌, ℕ, ℤ, List, [], ◌∷◌, Bool, true, false, codes, refl, ap}
use Rattle.std.proofs.Common.{sym, rules, zero, suc, ◌++◌, length, pos, not, ◌&&◌, ◌==◌}
use Rattle.std.specs.Prelude.{nat_abs, if◌then◌else◌}
use Rattle.std.specs.Fmt.{sign_text}
use Rattle.std.specs.Int.{is_negative}
use Rattle.cell_data.specs.Words.{number, text}
use Rattle.format_codes.specs.declared.piece.CodePiece.{CodePiece}
use Rattle.decimals.specs.Words.{with_sign, digits_behind, nearest}
use Rattle.decimals.specs.Rounding.{rounded_number}
use Rattle.format_codes.specs.Words.{ShownSection, chosen, section_for}
use Rattle.format_codes.specs.Choosing.{is_supported, number_section, text_section_in}
use Rattle.format_codes.specs.Sections.{code_pieces}
use Rattle.shown_text.specs.Words.{text_in_section, is_sized, sized_text, signed_text, size_text}
use Rattle.shown_text.specs.Words.{shown_digits}
use Rattle.shown_text.specs.ShownText.{shown_text}
use Rattle.shown_text_laws.specs.TwoSections.{HasTwoSections}

pub text_at_its_place : (is_1904 : Bool) (bytes : List ℕ)
    → shown_text is_1904 (codes "@") (text bytes) ≡ bytes
unfolding shown_text text_section_in is_supported code_pieces
text_at_its_place is_1904 bytes = search rules

module _ (is_1904 : Bool) (code : List ℕ) (first second : List CodePiece) (exact : ℤ × ℤ)
    (has : HasTwoSections code first second) where
  shown_by : number_section code exact ≡ section_for exact (first ∷ second ∷ [])
  unfolding number_section
  shown_by = rw (has.supported, has.sections) refl

  pub by_first : is_negative exact.0 ≡ false
      → shown_text is_1904 code (number exact)
      ≡ text_in_section is_1904 exact (chosen false first)
  unfolding shown_text
  by_first above =
      rw (has.supported, shown_by, has.first_plain, has.second_plain, above) refl

  pub by_second : is_negative exact.0 ≡ true
      → shown_text is_1904 code (number exact)
      ≡ text_in_section is_1904 exact (chosen true second)
  unfolding shown_text
  by_second below =
      rw (has.supported, shown_by, has.first_plain, has.second_plain, below) refl

no_sign : (below : Bool) → (below && not true) ≡ false
no_sign true = refl
no_sign false = refl

size_of_signed : (below : Bool) (n : ℕ) → nat_abs (with_sign below n) ≡ n
size_of_signed false n = refl
size_of_signed true zero = refl
size_of_signed true (suc n) = refl

-- fifteen digits of a number and of its size
digits_signed : (exact : ℤ × ℤ)
    → (shown_digits exact).0
    ≡ with_sign (is_negative exact.0)
    (nearest (digits_behind 15 (nat_abs exact.0)) (nat_abs exact.0))
unfolding rounded_number
digits_signed exact = refl

digits_of_size : (exact : ℤ × ℤ)
    → nat_abs (shown_digits exact).0 ≡ nat_abs (shown_digits (pos (nat_abs exact.0), exact.1)).0
digits_of_size exact =
    let n = nearest (digits_behind 15 (nat_abs exact.0)) (nat_abs exact.0) in
    let other : ℤ × ℤ = (pos (nat_abs exact.0), exact.1) in
    let m = nearest (digits_behind 15 (nat_abs other.0)) (nat_abs other.0) in
    let same : n ≡ m = refl in
    ap nat_abs (digits_signed exact) ∙ size_of_signed (is_negative exact.0) n ∙ same
    ∙ sym (size_of_signed (is_negative other.0) m)
    ∙ sym (ap nat_abs (digits_signed other))

power_of_size : (exact : ℤ × ℤ)
    → (shown_digits exact).1 ≡ (shown_digits (pos (nat_abs exact.0), exact.1)).1
unfolding rounded_number
power_of_size exact = refl

signed_alike : (section : ShownSection) (below : Bool) (n : ℕ) (power : ℤ)
    → section.unsigned ≡ true
    → signed_text section below n power ≡ signed_text section false n power
signed_alike section below n power unsigned =
    rw unsigned (ap (λ sign. if length section.pieces == 0 then []
    else sign_text sign ++ size_text section.kind section.pieces n power) (no_sign below))

pub size_alike : (section : ShownSection) (exact : ℤ × ℤ) → section.unsigned ≡ true
    → is_sized section (shown_digits exact).1 ≡ true
    → sized_text section exact ≡ sized_text section (pos (nat_abs exact.0), exact.1)
size_alike section exact unsigned sized =
    let other : ℤ × ℤ = (pos (nat_abs exact.0), exact.1) in
    let power = power_of_size exact in
    let sized_other : is_sized section (shown_digits other).1 ≡ true =
    ap (is_sized section) (sym power) ∙ sized in
    rw sized (rw sized_other
    (signed_alike section (is_negative exact.0) (nat_abs (shown_digits exact).0)
    (shown_digits exact).1 unsigned
    ∙ ap (λ n. signed_text section false n (shown_digits exact).1) (digits_of_size exact)
    ∙ ap (signed_text section false (nat_abs (shown_digits other).0)) power
    ∙ sym (signed_alike section (is_negative other.0) (nat_abs (shown_digits other).0)
    (shown_digits other).1 unsigned)))
