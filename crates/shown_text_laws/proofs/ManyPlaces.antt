-- Codes of any number of places behind the point.
use Rattle.std.proofs.Common.{◌≡◌, ◌∙◌, ◌+◌, ◌≤◌, ◌&&◌, ◌||◌, ℕ, zero, suc, ℤ, Bool, true, false}
use Rattle.std.proofs.Common.{cond, List, [], ◌∷◌, Some, None, length, drop, take, replicate, refl}
use Rattle.std.proofs.Common.{ap, arith}
use Rattle.std.specs.Prelude.{nat_le, is_some}
use Rattle.std.specs.List.{list_all, slice_split, onto_first, position_or_len, after_first}
use Rattle.std.proofs.lemmas.List.{drop_all, length-replicate}
use Rattle.cell_data.specs.Words.{number}
use Rattle.excel_dates.proofs.SerialSteps.{by_true, by_false}
use Rattle.format_codes.specs.Words.{are_supported, chosen, section_for, text_section}
use Rattle.format_codes.specs.Words.{is_text_sound, number_sections, shown_of_kind, condition_in}
use Rattle.format_codes.specs.Words.{leaves_sign_out, takes, is_denominator, is_fraction}
use Rattle.format_codes.specs.Words.{is_no_number, has, is_divider, is_exponent, is_general}
use Rattle.format_codes.specs.Words.{is_slash_piece, is_text_place, is_time, code_pieces_behind}
use Rattle.format_codes.specs.Words.{shown_sections, timed_pieces}
use Rattle.format_codes.specs.Choosing.{is_supported, number_section}
use Rattle.format_codes.specs.Kinds.{section_kind}
use Rattle.format_codes.specs.Sections.{code_pieces}
use Rattle.format_codes.specs.declared.kind.SectionKind.TheVariants as kind
use Rattle.format_codes.specs.declared.piece.CodePiece.{CodePiece}
use Rattle.format_codes.specs.declared.piece.CodePiece.TheVariants as piece
use Rattle.format_codes.specs.declared.piece.Filler.TheVariants.{Zero}
use Rattle.shown_text.specs.Words.{sized_text, text_in_section, general_text}
use Rattle.shown_text.specs.ShownText.{shown_text}
use Rattle.shown_text_laws.proofs.Literals.{section_of}
use Rattle.shown_text_laws.proofs.Tests.{both_hold, is_within}

abbrev place : CodePiece
place = piece.Digit Zero

abbrev pub places : ℕ → List CodePiece
places f = replicate f place

abbrev pub pointed : ℕ → List CodePiece
pointed f = piece.Digit Zero ∷ piece.Point ∷ places f

pieces_of_zeros : (f : ℕ) → code_pieces_behind 0 (replicate f 48) ≡ places f
pieces_of_zeros zero = refl
pieces_of_zeros (suc f) = ap (λ ps. place ∷ ps) (pieces_of_zeros f)

undivided : (f : ℕ) → slice_split is_divider (places f) ≡ places f ∷ []
undivided zero = refl
undivided (suc f) = ap (onto_first place) (undivided f)

none_of : (test : CodePiece → Bool) → test place ≡ false → (f : ℕ) → has test (places f) ≡ false
none_of test fails zero = refl
none_of test fails (suc f) = ap (λ b. b || has test (places f)) fails ∙ none_of test fails f

no_condition : (f : ℕ) → condition_in (places f) ≡ None
no_condition zero = refl
no_condition (suc f) = no_condition f

no_slash : (f : ℕ) → position_or_len is_slash_piece (places f) ≡ f
no_slash zero = refl
no_slash (suc f) = let same : 1 + f ≡ suc f = omega arith in ap (λ n. 1 + n) (no_slash f) ∙ same

nothing_behind : (f : ℕ) → after_first is_slash_piece (pointed f) ≡ []
nothing_behind f =
    let long : length (pointed f) ≤ 1 + (1 + f) + 1 =
    omega (arith, length-replicate {A = CodePiece} f place) in
    ap (λ n. drop (1 + (1 + n) + 1) (pointed f)) (no_slash f)
    ∙ drop_all (1 + (1 + f) + 1) (pointed f) long

last_false : (a b : Bool) → b ≡ false → (a && b) ≡ false
last_false true b fails = fails
last_false false b fails = refl

kind_is : (f : ℕ) → section_kind (pointed f) ≡ Some kind.Number
unfolding section_kind
kind_is f =
    let fraction : is_fraction (pointed f) ≡ false =
    last_false _ (has is_denominator (after_first is_slash_piece (pointed f)))
    (ap (λ ps. has is_denominator ps) (nothing_behind f)) in
    by_false (has is_no_number (places f)) _ _ (none_of is_no_number refl f)
    ∙ by_false (has is_general (places f)) _ _ (none_of is_general refl f)
    ∙ by_false (has is_time (places f)) _ _ (none_of is_time refl f)
    ∙ by_false (has is_exponent (places f)) _ _ (none_of is_exponent refl f)
    ∙ by_false (is_fraction (pointed f)) _ _ fraction

no_texts : (f : ℕ) → text_section (pointed f ∷ []) ≡ None
no_texts f =
    by_false (has is_text_place (places f)) (Some (pointed f)) None (none_of is_text_place refl f)

sound : (f : ℕ) → are_supported (pointed f ∷ []) ≡ true
sound f =
    ap (λ texts. is_text_sound texts
    && list_all (λ section. is_some (section_kind section))
    (cond (is_some texts) (take 0 (pointed f ∷ [])) (pointed f ∷ []))) (no_texts f)
    ∙ ap (λ found. is_some found && true) (kind_is f)

cut : (f : ℕ) → shown_sections (48 ∷ 46 ∷ replicate f 48) ≡ pointed f ∷ []
unfolding code_pieces
cut f =
    ap (λ ps. slice_split is_divider (place ∷ piece.Point ∷ ps)) (pieces_of_zeros f)
    ∙ ap (λ parts. onto_first place (onto_first piece.Point parts)) (undivided f)

supported : (f : ℕ) → f ≤ 1022 → is_supported (48 ∷ 46 ∷ replicate f 48) ≡ true
unfolding is_supported
supported f few =
    let long : length (48 ∷ 46 ∷ replicate f 48) ≤ 1024 =
    omega (arith, length-replicate {A = ℕ} f 48) in
    both_hold (nat_le (length (48 ∷ 46 ∷ replicate f 48)) 1024) _
    (is_within (length (48 ∷ 46 ∷ replicate f 48)) 1024 long)
    (ap are_supported (cut f) ∙ sound f)

numbers : (f : ℕ) → number_sections (pointed f ∷ []) ≡ pointed f ∷ []
numbers f =
    ap (λ texts. cond (is_some texts) (take 0 (pointed f ∷ [])) (pointed f ∷ [])) (no_texts f)

chosen_is : (f : ℕ) → chosen false (pointed f) ≡ Some (section_of (pointed f))
chosen_is f =
    ap (λ found. shown_of_kind found (pointed f)
    (leaves_sign_out false (condition_in (places f)))) (kind_is f)
    ∙ (λ i. Some (record {
      kind = kind.Number;
      pieces = by_false (has is_time (places f)) (timed_pieces (pointed f)) (pointed f)
          (none_of is_time refl f) i;
      unsigned = leaves_sign_out false (no_condition f i);
    }))

section_is : (f : ℕ) (exact : ℤ × ℤ)
    → section_for exact (pointed f ∷ []) ≡ Some (section_of (pointed f))
section_is f exact =
    ap (λ condition. cond (takes exact true condition) (chosen false (pointed f)) None)
    (no_condition f)
    ∙ chosen_is f

pub under_places : (is_1904 : Bool) (f : ℕ) (exact : ℤ × ℤ) → f ≤ 1022
    → shown_text is_1904 (48 ∷ 46 ∷ replicate f 48) (number exact)
    ≡ sized_text (section_of (pointed f)) exact
unfolding shown_text number_section
under_places is_1904 f exact few =
    let code = 48 ∷ 46 ∷ replicate {A = ℕ} f 48 in
    by_true (is_supported code) (text_in_section is_1904 exact (number_section code exact))
    (general_text exact) (supported f few)
    ∙ ap (text_in_section is_1904 exact)
    (by_true (is_supported code) (section_for exact (number_sections (shown_sections code))) None
    (supported f few)
    ∙ ap (λ all. section_for exact (number_sections all)) (cut f)
    ∙ ap (section_for exact) (numbers f)
    ∙ section_is f exact)
