-- Numbers under `%`, and in thousands.
use Rattle.std.proofs.Common.{◌≡◌, ◌∙◌, ◌++◌, ◌&&◌, ◌-◌, ℕ, ℤ, Bool, true, false, List, [], ◌∷◌}
use Rattle.std.proofs.Common.{codes, pos, refl, ap, sym, length, take, append_assoc, append-nil}
use Rattle.std.proofs.Common.{arith}
use Rattle.std.specs.Prelude.{◌+ℤ◌, ◌-ℤ◌, nat_abs, option_to_list}
use Rattle.std.specs.Fmt.{sign_text}
use Rattle.std.specs.Int.{is_negative}
use Rattle.std.proofs.lemmas.Int.{ints}
use Rattle.cell_data.specs.Words.{number}
use Rattle.decimals.specs.Words.{digits_behind}
use Rattle.format_codes.specs.declared.piece.CodePiece.TheVariants as piece
use Rattle.format_codes.specs.declared.piece.Filler.TheVariants.{Zero}
use Rattle.shown_text.specs.Words.{laid_out, nearest_digits, behind_text, whole_text}
use Rattle.shown_text.specs.Words.{fraction_character, hidden_places, shown_digits, number_power}
use Rattle.shown_text.specs.Words.{shown_text}
use Rattle.shown_text.specs.NumberTexts.{size_shown}
use Rattle.shown_text_laws.specs.NumberCodes.{IsShownBySection}
use Rattle.shown_text_laws.proofs.Literals.{one_place, one_place_percent, one_place_thousands}
use Rattle.shown_text_laws.proofs.Literals.{under_percent, under_thousands, under_one_place}
use Rattle.shown_text_laws.proofs.Literals.{by_section, same_size, power_of}

-- `%` behind the places
behind_percent : (digits : List ℕ)
    → behind_text true digits (piece.Digit Zero ∷ piece.Percent ∷ [])
    ≡ behind_text true digits (piece.Digit Zero ∷ []) ++ 37 ∷ []
behind_percent [] = refl
behind_percent (d ∷ ds) =
    ap (λ shown. shown ++ 37 ∷ [])
    (sym (append-nil (option_to_list (fraction_character Zero (d ∷ ds)
    (hidden_places (d ∷ ds) (piece.Digit Zero ∷ [])) 0))))

laid_percent : (digits : List ℕ)
    → laid_out false digits one_place_percent ≡ laid_out false digits one_place ++ 37 ∷ []
laid_percent digits =
    let whole = whole_text true false (take (length digits - 1) digits) (piece.Digit Zero ∷ []) in
    ap (λ behind. whole ++ 46 ∷ behind) (behind_percent digits)
    ∙ sym (append_assoc whole (46 ∷ behind_text true digits (piece.Digit Zero ∷ [])) (37 ∷ []))

-- a comma behind the places
behind_comma : (digits : List ℕ)
    → behind_text true digits (piece.Digit Zero ∷ piece.Comma ∷ [])
    ≡ behind_text true digits (piece.Digit Zero ∷ [])
behind_comma [] = refl
behind_comma (d ∷ ds) = refl

laid_thousands : (digits : List ℕ)
    → laid_out false digits one_place_thousands ≡ laid_out false digits one_place
laid_thousands digits =
    let whole = whole_text true false (take (length digits - 1) digits) (piece.Digit Zero ∷ []) in
    ap (λ behind. whole ++ 46 ∷ behind) (behind_comma digits)

at_percent : (n : ℕ) (power other : ℤ)
    → number_power one_place_percent power ≡ number_power one_place other
    → size_shown one_place_percent n power ≡ size_shown one_place n other ++ 37 ∷ []
unfolding size_shown
at_percent n power other same =
    ap (λ k. laid_out false (nearest_digits n k) one_place_percent) same
    ∙ laid_percent (nearest_digits n (number_power one_place other))

at_thousands : (n : ℕ) (power other : ℤ)
    → number_power one_place_thousands power ≡ number_power one_place other
    → size_shown one_place_thousands n power ≡ size_shown one_place n other
unfolding size_shown
at_thousands n power other same =
    ap (λ k. laid_out false (nearest_digits n k) one_place_thousands) same
    ∙ laid_thousands (nearest_digits n (number_power one_place other))

hundredfold : (power k : ℤ) → number_power one_place_percent (power +ℤ k)
    ≡ number_power one_place ((power +ℤ pos 2) +ℤ k)
hundredfold power k = omega (arith, ints)

thousandth : (power k : ℤ) → number_power one_place_thousands (power +ℤ k)
    ≡ number_power one_place ((power -ℤ pos 3) +ℤ k)
thousandth power k = omega (arith, ints)

-- a number under `0.0`
plain : (is_1904 : Bool) (m power other : ℤ) → IsShownBySection (m, other)
    → sign_text (is_negative m && true)
    ++ size_shown one_place (nat_abs (shown_digits (m, power)).0) (shown_digits (m, other)).1
    ≡ shown_text is_1904 (codes "0.0") (number (m, other))
plain is_1904 m power other sized =
    ap (λ n. sign_text (is_negative m && true)
    ++ size_shown one_place n (shown_digits (m, other)).1)
    (same_size m power other)
    ∙ sym (under_one_place is_1904 (m, other) ∙ by_section one_place (m, other) refl sized)

pub percents : (is_1904 : Bool) (m power : ℤ) → IsShownBySection (m, power)
    → IsShownBySection (m, power +ℤ pos 2)
    → shown_text is_1904 (codes "0.0%") (number (m, power))
    ≡ shown_text is_1904 (codes "0.0") (number (m, power +ℤ pos 2)) ++ codes "%"
percents is_1904 m power sized other =
    let n = nat_abs (shown_digits (m, power)).0 in
    let sign = sign_text (is_negative m && true) in
    let more = power +ℤ pos 2 in
    let behind = pos (digits_behind 15 (nat_abs m)) in
    under_percent is_1904 (m, power) ∙ by_section one_place_percent (m, power) refl sized
    ∙ ap (λ text. sign ++ text)
    (at_percent n (shown_digits (m, power)).1 (shown_digits (m, more)).1
    (ap (number_power one_place_percent) (power_of m power) ∙ hundredfold power behind
    ∙ ap (number_power one_place) (sym (power_of m more))))
    ∙ sym (append_assoc sign (size_shown one_place n (shown_digits (m, more)).1) (37 ∷ []))
    ∙ ap (λ text. text ++ 37 ∷ []) (plain is_1904 m power more other)

pub thousands : (is_1904 : Bool) (m power : ℤ) → IsShownBySection (m, power)
    → IsShownBySection (m, power -ℤ pos 3)
    → shown_text is_1904 (codes "0.0,") (number (m, power))
    ≡ shown_text is_1904 (codes "0.0") (number (m, power -ℤ pos 3))
thousands is_1904 m power sized other =
    let n = nat_abs (shown_digits (m, power)).0 in
    let sign = sign_text (is_negative m && true) in
    let less = power -ℤ pos 3 in
    let behind = pos (digits_behind 15 (nat_abs m)) in
    under_thousands is_1904 (m, power) ∙ by_section one_place_thousands (m, power) refl sized
    ∙ ap (λ text. sign ++ text)
    (at_thousands n (shown_digits (m, power)).1 (shown_digits (m, less)).1
    (ap (number_power one_place_thousands) (power_of m power) ∙ thousandth power behind
    ∙ ap (number_power one_place) (sym (power_of m less))))
    ∙ plain is_1904 m power less other
